-- Subgroups with the powers and the commutators of a group: the quotient is commutative, of exponent 2 or 3.
--   quotient_normal          it is normal
--   cover_quotient           with one more element: the cosets of its powers are such a subgroup too
--   cover_has, cover_within  which has K and the element, and is in each subgroup that has them
--   quotient_index           where these cosets are all, K has the index p
use Rattle.std.specs.Prelude.{ℕ, zero, suc, ◌≡◌, ◌<◌, ◌⊎◌}
use Rattle.std.proofs.Common.{sym, ap, subst, refl, inl, inr, arith}
use Rattle.std.proofs.lemmas.Bool.{cases_lt}
use Rattle.irr_algebra.specs.Fin.{Fin, to_nat}
use Rattle.irr_algebra.proofs.Indices.{from_nat, to_nat-from_nat, to_nat-lt, to_nat_inj}
use Rattle.irr_space.specs.PhaseTable.{PhaseTable, place_power}
use Rattle.irr_chain.specs.NormalSubgroup.{IsNormal, IsCoset, HasIndex}
use Rattle.irr_chain.specs.Quotient.{IsClosed, Cover, HasQuotient, commutator, power}
use Rattle.irr_chain.proofs.GroupLaws.{closed_from_products, closed_powers, group_laws}
use Rattle.irr_chain.proofs.Cosets.{coset-join, coset-swap}

module _ {h : ℕ} (T : PhaseTable h) (K : Fin h → Type 0) (p : ℕ) (g : Fin h) where
  -- i is a power of g times a member
  in_parts : (e : ℕ) (i : Fin h) → T.product (power T g e) (T.product (T.opposite (power T g e)) i) ≡ i
  in_parts e i = simp (group_laws, T)

  -- a subgroup with K and g has these cosets
  pub cover_within : (M : Fin h → Type 0) → IsClosed T M → ((i : Fin h) → K i → M i) → M g → (i : Fin h) → Cover T K p g i → M i
  cover_within M closed has own i (e, _, k) =
      subst M (in_parts e i) (closed.products (power T g e) (T.product (T.opposite (power T g e)) i) (closed_powers T M closed g e own)
      (has (T.product (T.opposite (power T g e)) i) k))

  pub cover_has : 0 < p → (i : Fin h) → K i → Cover T K p g i
  unfolding place_power
  cover_has positive i k = (0, positive, subst K (let e : i ≡ T.product (T.opposite (power T g 0)) i = simp (group_laws, T) in e) k)

  pub cover_own : 1 < p → IsClosed T K → Cover T K p g g
  unfolding place_power
  cover_own more closed = (1, more, subst K (let e : T.start ≡ T.product (T.opposite (power T g 1)) g = simp (group_laws, T) in e) closed.unit)

module _ {h : ℕ} (T : PhaseTable h) (K H : Fin h → Type 0) (p : ℕ) (outer : IsClosed T H) (quotient : HasQuotient T K H p) where
  pub quotient_normal : IsNormal T K H
  quotient_normal = record {
    within = quotient.within;
    conjugates = λ i j k b.
        (let e : T.product (commutator T j i) i ≡ T.product (T.product j i) (T.opposite j) = simp (group_laws, T) in
        subst K e (quotient.closed.products (commutator T j i) i (quotient.commutators j i b (quotient.within i k)) k));
  }

  module _ (g : Fin h) (own : H g) (positive : 0 < p) where
    cover-generator : (w : Fin h) → Cover T K p g w → Cover T K p g (T.product g w)
    unfolding place_power
    cover-generator w (e, lt, k) = elim (cases_lt (suc e) p) [
      | inl l ↦ (suc e, l, subst K (let d : T.product (T.opposite (power T g e)) w ≡ T.product (T.opposite (power T g (suc e))) (T.product g w) = simp (group_laws, T) in d) k)
      | inr l ↦ cover_has T K p g positive (T.product g w) (
          let last : p ≡ suc e = omega arith in
          let d : T.product (power T g (suc e)) (T.product (T.opposite (power T g e)) w) ≡ T.product g w = simp (group_laws, T) in
          subst K d (quotient.closed.products (power T g (suc e)) (T.product (T.opposite (power T g e)) w)
          (subst (λ n. K (power T g n)) last (quotient.powers g own)) k))
    ]

    cover-member : (n w : Fin h) → K n → Cover T K p g w → Cover T K p g (T.product n w)
    cover-member n w m (e, lt, k) =
        let r : Fin h = power T g e in
        let moved : K (T.product (T.product (T.opposite r) n) (T.opposite (T.opposite r))) =
        quotient_normal.conjugates n (T.opposite r) m (outer.opposites r (closed_powers T H outer g e own)) in
        (e, lt, subst K (around r n w) (quotient.closed.products (T.product (T.product (T.opposite r) n) (T.opposite (T.opposite r))) (T.product (T.opposite r) w) moved k))
      where
        around : (r n w : Fin h) → T.product (T.product (T.product (T.opposite r) n) (T.opposite (T.opposite r))) (T.product (T.opposite r) w)
            ≡ T.product (T.opposite r) (T.product n w)
        around r n w = simp (group_laws, T)

    cover-power : (a : ℕ) (w : Fin h) → Cover T K p g w → Cover T K p g (T.product (power T g a) w)
    unfolding place_power
    cover-power zero w c = subst (Cover T K p g) (sym (T.start-product w)) c
    cover-power (suc a) w c =
        subst (Cover T K p g) (sym (T.product_assoc g (power T g a) w)) (cover-generator (T.product (power T g a) w) (cover-power a w c))

    cover-products : (i j : Fin h) → Cover T K p g i → Cover T K p g j → Cover T K p g (T.product i j)
    cover-products i j (e, _, k) c =
        let n : Fin h = T.product (T.opposite (power T g e)) i in
        subst (Cover T K p g) (rebuilt (power T g e) i j) (cover-power e (T.product n j) (cover-member n j k c))
      where
        rebuilt : (r i j : Fin h) → T.product r (T.product (T.product (T.opposite r) i) j) ≡ T.product i j
        rebuilt r i j = simp (group_laws, T)

    pub cover_quotient : HasQuotient T (Cover T K p g) H p
    cover_quotient = record {
      closed = closed_from_products T (Cover T K p g) (cover_has T K p g positive T.start quotient.closed.unit) cover-products;
      within = cover_within T K p g H outer quotient.within own;
      powers = λ i b. cover_has T K p g positive (power T i p) (quotient.powers i b);
      commutators = λ i j a b. cover_has T K p g positive (commutator T i j) (quotient.commutators i j a b);
    }

    -- the powers of an element outside are outside, below the p-th
    power_outside : (p ≡ 2) ⊎ (p ≡ 3) → (K g → ⊥) → (n : ℕ) → 0 < n → n < p → K (power T g n) → ⊥
    unfolding place_power
    power_outside prime out zero l m k = omega arith
    power_outside prime out (suc zero) l m k = out (subst K (let e : power T g 1 ≡ g = simp (group_laws, T) in e) k)
    power_outside (inl two) out (suc (suc n)) l m k = omega arith
    power_outside (inr three) out (suc (suc (suc n))) l m k = omega arith
    power_outside (inr three) out (suc (suc zero)) l m k =
        let cube : K (power T g 3) = subst (λ n. K (power T g n)) three (quotient.powers g own) in
        out (subst K (let e : T.product (power T g 3) (T.opposite (power T g 2)) ≡ g = simp (group_laws, T) in e)
        (quotient.closed.products (power T g 3) (T.opposite (power T g 2)) cube (quotient.closed.opposites (power T g 2) k)))

    pub powers_apart : (p ≡ 2) ⊎ (p ≡ 3) → (K g → ⊥) → (a b : ℕ) → a < p → b < p → IsCoset T K (power T g a) (power T g b) → a ≡ b
    unfolding place_power
    powers_apart prime out zero zero l m s = refl
    powers_apart prime out zero (suc b) l m s = absurd (power_outside prime out (suc b) (omega arith) m
        (subst K (let e : T.product (T.opposite (power T g 0)) (power T g (suc b)) ≡ power T g (suc b) = simp (group_laws, T) in e) s))
    powers_apart prime out (suc a) zero l m s = absurd (power_outside prime out (suc a) (omega arith) l
        (subst K (let e : T.product (T.opposite (power T g 0)) (power T g (suc a)) ≡ power T g (suc a) = simp (group_laws, T) in e)
        (coset-swap T K quotient.closed (power T g (suc a)) (power T g 0) s)))
    powers_apart prime out (suc a) (suc b) l m s = ap suc (powers_apart prime out a b (omega arith) (omega arith)
        (subst K (let e : T.product (T.opposite (power T g (suc a))) (power T g (suc b)) ≡ T.product (T.opposite (power T g a)) (power T g b) = simp (group_laws, T) in e) s))

    pub quotient_index : (p ≡ 2) ⊎ (p ≡ 3) → (K g → ⊥) → ((i : Fin h) → H i → Cover T K p g i) → HasIndex T K H p
    quotient_index prime out all = record {
      representative = λ a. power T g (to_nat a);
      representative_inside = λ a. closed_powers T H outer g (to_nat a) own;
      coset = λ i b. from_nat p (all i b).0 (all i b).1;
      in_coset = λ i b. subst (λ n. IsCoset T K (power T g n) i) (sym (to_nat-from_nat p (all i b).0 (all i b).1)) (all i b).2;
      one_coset = λ i a b s t. to_nat_inj a b (powers_apart prime out (to_nat a) (to_nat b) (to_nat-lt a) (to_nat-lt b)
          (coset-join T K quotient.closed (power T g (to_nat a)) i (power T g (to_nat b)) s (coset-swap T K quotient.closed (power T g (to_nat b)) i t)));
    }
