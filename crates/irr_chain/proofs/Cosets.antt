-- Cosets of a normal subgroup of index 2 or 3: the powers of each element outside it are representatives.
--   covered                  the powers of each g outside K cover H
--   powers_inside            K has the p-th powers of H
--   commutators_inside       and the commutators
--   not_whole                some place of H is not in K
use Rattle.std.specs.Prelude.{ℕ, zero, suc, ◌≡◌, ◌<◌, ◌⊎◌}
use Rattle.std.proofs.Common.{sym, ◌∙◌, ap, subst, refl, inl, inr, arith}
use Rattle.irr_algebra.specs.Fin.{Fin, to_nat}
use Rattle.irr_algebra.proofs.Indices.{from_nat, to_nat-from_nat, to_nat-lt, to_nat_inj}
use Rattle.irr_space.specs.PhaseTable.{PhaseTable, place_power}
use Rattle.irr_chain.specs.NormalSubgroup.{IsNormal, IsCoset, HasIndex}
use Rattle.irr_chain.specs.Quotient.{IsClosed, commutator, power}
use Rattle.irr_chain.proofs.GroupLaws.{group_laws, closed_powers}

-- among three numbers below 2, and four below 3
third_of_two : (a b c : ℕ) → a < 2 → b < 2 → c < 2 → (a ≡ b → ⊥) → (a ≡ c → ⊥) → b ≡ c
third_of_two a b c p q r x y = omega (arith, x, y)

fourth_of_three : (a b c d : ℕ) → a < 3 → b < 3 → c < 3 → d < 3 → (a ≡ b → ⊥) → (a ≡ c → ⊥) → (b ≡ c → ⊥) → (a ≡ d → ⊥) → (b ≡ d → ⊥) → c ≡ d
fourth_of_three a b c d p q r s u v w x y = omega (arith, u, v, w, x, y)

-- a number below 3 that is neither
neither : (a b : ℕ) → (c : ℕ) × (c < 3) × (a ≡ c → ⊥) × (b ≡ c → ⊥)
neither zero zero = (1, omega arith, λ e. omega arith, λ e. omega arith)
neither zero (suc zero) = (2, omega arith, λ e. omega arith, λ e. omega arith)
neither zero (suc (suc b)) = (1, omega arith, λ e. omega arith, λ e. omega arith)
neither (suc zero) zero = (2, omega arith, λ e. omega arith, λ e. omega arith)
neither (suc (suc a)) zero = (1, omega arith, λ e. omega arith, λ e. omega arith)
neither (suc a) (suc b) = (0, omega arith, λ e. omega arith, λ e. omega arith)

module _ {h : ℕ} (T : PhaseTable h) (K : Fin h → Type 0) (closed : IsClosed T K) where
  pub coset-swap : (i j : Fin h) → IsCoset T K i j → IsCoset T K j i
  coset-swap i j s =
      let e : T.opposite (T.product (T.opposite i) j) ≡ T.product (T.opposite j) i = simp (group_laws, T) in
      subst K e (closed.opposites (T.product (T.opposite i) j) s)

  pub coset-join : (i j k : Fin h) → IsCoset T K i j → IsCoset T K j k → IsCoset T K i k
  coset-join i j k s t =
      let e : T.product (T.product (T.opposite i) j) (T.product (T.opposite j) k) ≡ T.product (T.opposite i) k = simp (group_laws, T) in
      subst K e (closed.products (T.product (T.opposite i) j) (T.product (T.opposite j) k) s t)

  pub from_start : (i : Fin h) → IsCoset T K T.start i → K i
  from_start i s = let e : T.product (T.opposite T.start) i ≡ i = simp (group_laws, T) in subst K e s

  pub to_start : (i : Fin h) → K i → IsCoset T K T.start i
  to_start i k = let e : i ≡ T.product (T.opposite T.start) i = simp (group_laws, T) in subst K e k

module _ {h : ℕ} (T : PhaseTable h) (K H : Fin h → Type 0) (closed : IsClosed T K) (outer : IsClosed T H) (normal : IsNormal T K H)
    (decide : (i : Fin h) → K i ⊎ (K i → ⊥)) where
  -- where r commutes with x, and y is in its coset
  commutator-near : (x y r : Fin h) → H x → H r → T.product x r ≡ T.product r x → IsCoset T K r y → K (commutator T x y)
  commutator-near x y r hx hr commute s =
      let n : Fin h = T.product (T.opposite r) y in
      let inner : K (T.product (T.product (T.product x n) (T.opposite x)) (T.opposite n)) =
      closed.products (T.product (T.product x n) (T.opposite x)) (T.opposite n) (normal.conjugates n x s hx) (closed.opposites n s) in
      subst K (same x y r commute) (normal.conjugates (T.product (T.product (T.product x n) (T.opposite x)) (T.opposite n)) r inner hr)
    where
      slide : (x r z : Fin h) → T.product x r ≡ T.product r x → T.product r (T.product x (T.product (T.opposite r) z)) ≡ T.product x z
      slide x r z c =
          sym (T.product_assoc r x (T.product (T.opposite r) z)) ∙ ap (λ k. T.product k (T.product (T.opposite r) z)) (sym c)
          ∙ (let e : T.product (T.product x r) (T.product (T.opposite r) z) ≡ T.product x z = simp (group_laws, T) in e)

      same : (x y r : Fin h) → T.product x r ≡ T.product r x
          → T.product (T.product r (T.product (T.product (T.product x (T.product (T.opposite r) y)) (T.opposite x)) (T.opposite (T.product (T.opposite r) y)))) (T.opposite r)
          ≡ commutator T x y
      same x y r c =
          (let e : T.product (T.product r (T.product (T.product (T.product x (T.product (T.opposite r) y)) (T.opposite x)) (T.opposite (T.product (T.opposite r) y)))) (T.opposite r)
          ≡ T.product r (T.product x (T.product (T.opposite r) (T.product y (T.product (T.opposite x) (T.opposite y))))) = simp (group_laws, T) in e)
          ∙ slide x r (T.product y (T.product (T.opposite x) (T.opposite y))) c
          ∙ sym (T.product_assoc x y (T.product (T.opposite x) (T.opposite y)))

  commutator-member : (x y : Fin h) → K x → H y → K (commutator T x y)
  commutator-member x y k hy =
      let e : T.product x (T.product (T.product y (T.opposite x)) (T.opposite y)) ≡ commutator T x y = simp (group_laws, T) in
      subst K e (closed.products x (T.product (T.product y (T.opposite x)) (T.opposite y)) k (normal.conjugates (T.opposite x) y (closed.opposites x k) hy))

  module _ (p : ℕ) (index : HasIndex T K H p) where
    pub coset_of-same : (i j : Fin h) (a : H i) (b : H j) → IsCoset T K i j → index.coset i a ≡ index.coset j b
    coset_of-same i j a b s =
        index.one_coset j (index.coset i a) (index.coset j b)
        (coset-join T K closed (index.representative (index.coset i a)) i j (index.in_coset i a) s) (index.in_coset j b)

    same-coset_of : (i j : Fin h) (a : H i) (b : H j) → index.coset i a ≡ index.coset j b → IsCoset T K i j
    same-coset_of i j a b e =
        coset-join T K closed i (index.representative (index.coset i a)) j
        (coset-swap T K closed (index.representative (index.coset i a)) i (index.in_coset i a))
        (subst (λ c. IsCoset T K (index.representative c) j) (sym e) (index.in_coset j b))

    -- the number of a coset
    abbrev number : (i : Fin h) → H i → ℕ
    number i a = to_nat (index.coset i a)

    number-ne : (i j : Fin h) (a : H i) (b : H j) → (IsCoset T K i j → ⊥) → number i a ≡ number j b → ⊥
    number-ne i j a b apart e = apart (same-coset_of i j a b (to_nat_inj (index.coset i a) (index.coset j b) e))

    same-number : (i j : Fin h) (a : H i) (b : H j) → number i a ≡ number j b → IsCoset T K i j
    same-number i j a b e = same-coset_of i j a b (to_nat_inj (index.coset i a) (index.coset j b) e)

    representative-ne : (i : Fin h) (a : H i) (c : Fin p) → (number i a ≡ to_nat c → ⊥) → IsCoset T K i (index.representative c) → ⊥
    representative-ne i a c apart s = apart (ap to_nat (coset_of-same i (index.representative c) a (index.representative_inside c) s
        ∙ index.one_coset (index.representative c) (index.coset (index.representative c) (index.representative_inside c)) c
        (index.in_coset (index.representative c) (index.representative_inside c)) own))
      where
        own : IsCoset T K (index.representative c) (index.representative c)
        own = subst K (sym (T.opposite-product (index.representative c))) closed.unit

  pub covered-two : HasIndex T K H 2 → (x y : Fin h) → H x → H y → (K x → ⊥) → K y ⊎ IsCoset T K x y
  covered-two index x y a b out = elim (decide y) [
    | inl k ↦ inl k
    | inr f ↦ inr (same-number 2 index x y a b (third_of_two (number 2 index T.start outer.unit) (number 2 index x a) (number 2 index y b)
        (to_nat-lt (index.coset T.start outer.unit)) (to_nat-lt (index.coset x a)) (to_nat-lt (index.coset y b))
        (number-ne 2 index T.start x outer.unit a (λ s. out (from_start T K closed x s)))
        (number-ne 2 index T.start y outer.unit b (λ s. f (from_start T K closed y s)))))
  ]

  module _ (index : HasIndex T K H 3) where
    -- the square of an element outside is outside: else left multiplication by it pairs the three cosets
    square_outside : (x : Fin h) → H x → (K x → ⊥) → K (T.product x x) → ⊥
    square_outside x a out square =
        let c = neither (number 3 index T.start outer.unit) (number 3 index x a) in
        let r : Fin 3 = from_nat 3 c.0 c.1 in
        let y : Fin h = index.representative r in
        let z : Fin h = T.product x y in
        let b : H y = index.representative_inside r in
        let d : H z = outer.products x y a b in
        let start-y : IsCoset T K T.start y → ⊥ = representative-ne 3 index T.start outer.unit r (λ e. c.2 (e ∙ to_nat-from_nat 3 c.0 c.1)) in
        let x-y : IsCoset T K x y → ⊥ = representative-ne 3 index x a r (λ e. c.3 (e ∙ to_nat-from_nat 3 c.0 c.1)) in
        pairs-y x y a b out (same-number 3 index y z b d
        (fourth_of_three (number 3 index T.start outer.unit) (number 3 index x a) (number 3 index y b) (number 3 index z d)
        (to_nat-lt (index.coset T.start outer.unit)) (to_nat-lt (index.coset x a)) (to_nat-lt (index.coset y b)) (to_nat-lt (index.coset z d))
        (number-ne 3 index T.start x outer.unit a (λ s. out (from_start T K closed x s)))
        (number-ne 3 index T.start y outer.unit b start-y)
        (number-ne 3 index x y a b x-y)
        (number-ne 3 index T.start z outer.unit d (λ s. x-y (past-start x y square (from_start T K closed z s))))
        (number-ne 3 index x z a d (λ s. start-y (to_start T K closed y (past-x x y s))))))
      where
        past-start : (x y : Fin h) → K (T.product x x) → K (T.product x y) → IsCoset T K x y
        past-start x y q k =
            let e : T.product (T.opposite (T.product x x)) (T.product x y) ≡ T.product (T.opposite x) y = simp (group_laws, T) in
            subst K e (closed.products (T.opposite (T.product x x)) (T.product x y) (closed.opposites (T.product x x) q) k)

        past-x : (x y : Fin h) → IsCoset T K x (T.product x y) → K y
        past-x x y s = let e : T.product (T.opposite x) (T.product x y) ≡ y = simp (group_laws, T) in subst K e s

        pairs-y : (x y : Fin h) → H x → H y → (K x → ⊥) → IsCoset T K y (T.product x y) → ⊥
        pairs-y x y a b f s =
            let e : T.product (T.product y (T.product (T.opposite y) (T.product x y))) (T.opposite y) ≡ x = simp (group_laws, T) in
            f (subst K e (normal.conjugates (T.product (T.opposite y) (T.product x y)) y s b))

    pub covered-three : (x y : Fin h) → H x → H y → (K x → ⊥) → (K y ⊎ IsCoset T K x y) ⊎ IsCoset T K (T.product x x) y
    covered-three x y a b out = elim (decide y) [
      | inl k ↦ inl (inl k)
      | inr f ↦ (elim (decide (T.product (T.opposite x) y)) [
        | inl k ↦ inl (inr k)
        | inr g ↦ inr (same-number 3 index (T.product x x) y (outer.products x x a a) b
            (fourth_of_three (number 3 index T.start outer.unit) (number 3 index x a) (number 3 index (T.product x x) (outer.products x x a a)) (number 3 index y b)
            (to_nat-lt (index.coset T.start outer.unit)) (to_nat-lt (index.coset x a)) (to_nat-lt (index.coset (T.product x x) (outer.products x x a a))) (to_nat-lt (index.coset y b))
            (number-ne 3 index T.start x outer.unit a (λ s. out (from_start T K closed x s)))
            (number-ne 3 index T.start (T.product x x) outer.unit (outer.products x x a a) (λ s. square_outside x a out (from_start T K closed (T.product x x) s)))
            (number-ne 3 index x (T.product x x) a (outer.products x x a a) (λ s. out (subst K (let e : T.product (T.opposite x) (T.product x x) ≡ x = simp (group_laws, T) in e) s)))
            (number-ne 3 index T.start y outer.unit b (λ s. f (from_start T K closed y s)))
            (number-ne 3 index x y a b g)))
      ])
    ]

  powers_of_two : HasIndex T K H 2 → (x : Fin h) → H x → K (power T x 2)
  unfolding place_power
  powers_of_two index x a = elim (decide x) [
    | inl k ↦ closed_powers T K closed x 2 k
    | inr out ↦ (elim (covered-two index x (power T x 2) a (closed_powers T H outer x 2 a) out) [
      | inl k ↦ k
      | inr s ↦ absurd (out (subst K (let e : T.product (T.opposite x) (power T x 2) ≡ x = simp (group_laws, T) in e) s))
    ])
  ]

  powers_of_three : HasIndex T K H 3 → (x : Fin h) → H x → K (power T x 3)
  unfolding place_power
  powers_of_three index x a = elim (decide x) [
    | inl k ↦ closed_powers T K closed x 3 k
    | inr out ↦ (elim (covered-three index x (power T x 3) a (closed_powers T H outer x 3 a) out) [
      | inl (inl k) ↦ k
      | inl (inr s) ↦ absurd (square_outside index x a out (subst K (let e : T.product (T.opposite x) (power T x 3) ≡ T.product x x = simp (group_laws, T) in e) s))
      | inr s ↦ absurd (out (subst K (let e : T.product (T.opposite (T.product x x)) (power T x 3) ≡ x = simp (group_laws, T) in e) s))
    ])
  ]

  pub powers_inside : (p : ℕ) → (p ≡ 2) ⊎ (p ≡ 3) → HasIndex T K H p → (x : Fin h) → H x → K (power T x p)
  powers_inside p (inl e) index x a = subst (λ n. K (power T x n)) (sym e) (powers_of_two (subst (HasIndex T K H) e index) x a)
  powers_inside p (inr e) index x a = subst (λ n. K (power T x n)) (sym e) (powers_of_three (subst (HasIndex T K H) e index) x a)

  commutators_of_two : HasIndex T K H 2 → (x y : Fin h) → H x → H y → K (commutator T x y)
  commutators_of_two index x y a b = elim (decide x) [
    | inl k ↦ commutator-member x y k b
    | inr out ↦ (elim (covered-two index x y a b out) [
      | inl k ↦ commutator-near x y T.start a outer.unit (T.product-start x ∙ sym (T.start-product x)) (to_start T K closed y k)
      | inr s ↦ commutator-near x y x a a refl s
    ])
  ]

  commutators_of_three : HasIndex T K H 3 → (x y : Fin h) → H x → H y → K (commutator T x y)
  commutators_of_three index x y a b = elim (decide x) [
    | inl k ↦ commutator-member x y k b
    | inr out ↦ (elim (covered-three index x y a b out) [
      | inl (inl k) ↦ commutator-near x y T.start a outer.unit (T.product-start x ∙ sym (T.start-product x)) (to_start T K closed y k)
      | inl (inr s) ↦ commutator-near x y x a a refl s
      | inr s ↦ commutator-near x y (T.product x x) a (outer.products x x a a) (sym (T.product_assoc x x x)) s
    ])
  ]

  pub commutators_inside : (p : ℕ) → (p ≡ 2) ⊎ (p ≡ 3) → HasIndex T K H p → (x y : Fin h) → H x → H y → K (commutator T x y)
  commutators_inside p (inl e) index = commutators_of_two (subst (HasIndex T K H) e index)
  commutators_inside p (inr e) index = commutators_of_three (subst (HasIndex T K H) e index)

  -- a subgroup of index 2 or more is not the whole
  pub not_whole : (p : ℕ) → 1 < p → HasIndex T K H p → ((i : Fin h) → H i → K i) → ⊥
  not_whole p more index all =
      let some : 0 < p = omega arith in
      let zeroth : Fin p = from_nat p 0 some in
      let second : Fin p = from_nat p 1 more in
      let e : zeroth ≡ second = index.one_coset T.start zeroth second (at zeroth) (at second) in
      apart (to_nat zeroth) (to_nat second) (to_nat-from_nat p 0 some) (to_nat-from_nat p 1 more) (ap to_nat e)
    where
      at : (c : Fin p) → IsCoset T K (index.representative c) T.start
      at c = closed.products (T.opposite (index.representative c)) T.start
          (closed.opposites (index.representative c) (all (index.representative c) (index.representative_inside c))) closed.unit

      apart : (a b : ℕ) → a ≡ 0 → b ≡ 1 → a ≡ b → ⊥
      apart a b x y z = omega arith
