-- A step that comes round after n steps, and not before, at each of h places: n divides h.
--   injection_few      indices at different places are no more than the places
--   IsUnion            the first L places of s are different, and are whole rounds
--   one_more           a round from a new place
--   rounds_divide      n divides h
use Rattle.std.proofs.Common.{◌≡◌, refl, sym, ◌∙◌, ap, subst, ℕ, zero, suc, ◌+◌, ◌-◌, ◌<◌, ◌≤◌, ◌⊎◌, inl, inr, cond, ltb, arith}
use Rattle.std.specs.Int.{◌∣◌}
use native.Mathlib.Nat as Nat
use Rattle.std.proofs.lemmas.Bool.{cases_lt}
use Rattle.std.proofs.lemmas.Bool.Decides.{nat_tests}
use Rattle.irr_algebra.specs.Fin.{Fin, to_nat}
use Rattle.irr_algebra.proofs.Indices.{from_nat, to_nat-from_nat, to_nat-lt, to_nat_inj, all_or_one, same_or_not}
use Rattle.irr_close.proofs.Pigeons.{pigeons}
use Rattle.irr_close.proofs.Untruncated.{search_below}

pub injection_few : (m n : ℕ) (f : (i : ℕ) → i < m → Fin n) → ((i j : ℕ) (l : i < m) (k : j < m) → f i l ≡ f j k → i ≡ j) → m ≤ n
injection_few m n f inj = elim (cases_lt n m) [
  | inr l ↦ l
  | inl l ↦
      let below : (i : Fin (suc n)) → to_nat i < m = λ i. let k : to_nat i < suc n = to_nat-lt i in omega arith in
      let t = pigeons n (λ i. f (to_nat i) (below i)) in
      absurd (t.different (to_nat_inj t.one t.other (inj (to_nat t.one) (to_nat t.other) (below t.one) (below t.other) t.meet)))
]

unfoldable pub repeated : {A : Type 0} → (A → A) → ℕ → A → A
repeated f zero x = x
repeated f (suc n) x = f (repeated f n x)

pub repeated-add : {A : Type 0} (f : A → A) (a b : ℕ) (x : A) → repeated f (a + b) x ≡ repeated f a (repeated f b x)
unfolding repeated
repeated-add f zero b x = let e : 0 + b ≡ b = omega arith in ap (λ n. repeated f n x) e
repeated-add f (suc a) b x = let e : suc a + b ≡ suc (a + b) = omega arith in ap (λ n. repeated f n x) e ∙ ap f (repeated-add f a b x)

-- the first places, and then others
followed : {A : Type 0} → ℕ → (ℕ → A) → (ℕ → A) → ℕ → A
followed L s t i = cond (ltb i L) (s i) (t (i - L))

followed-below : {A : Type 0} (L : ℕ) (s t : ℕ → A) (i : ℕ) → i < L → followed L s t i ≡ s i
unfolding followed
followed-below L s t i l = grind (arith, nat_tests)

followed-above : {A : Type 0} (L : ℕ) (s t : ℕ → A) (a : ℕ) → followed L s t (L + a) ≡ t a
unfolding followed
followed-above L s t a = let e : (L + a) - L ≡ a = omega arith in grind (arith, nat_tests)

module _ (h n : ℕ) (positive : 0 < n) (f : Fin h → Fin h) (around : (x : Fin h) → repeated f n x ≡ x) (free : (x : Fin h) (a b : ℕ) → a < n → b < n
    → repeated f a x ≡ repeated f b x → a ≡ b) where
  pub record IsUnion (L : ℕ) (s : ℕ → Fin h) : Type 0 where
    pub divides : n ∣ L
    pub distinct : (i j : ℕ) → i < L → j < L → s i ≡ s j → i ≡ j
    pub closed : (i : ℕ) → i < L → (j : ℕ) × (j < L) × (s j ≡ f (s i))

  closed_repeated : (L : ℕ) (s : ℕ → Fin h) → IsUnion L s → (k i : ℕ) → i < L → (j : ℕ) × (j < L) × (s j ≡ repeated f k (s i))
  unfolding repeated
  closed_repeated L s u zero i l = (i, l, refl)
  closed_repeated L s u (suc k) i l = let t = closed_repeated L s u k i l in let r = u.closed t.0 t.1 in (r.0, r.1, r.2 ∙ ap f t.2)

  -- no place of a round from a new place is old
  apart : (L : ℕ) (s : ℕ → Fin h) → IsUnion L s → (x : Fin h) → ((i : ℕ) → i < L → ¬ (s i ≡ x)) → (i a : ℕ) → i < L → a < n → ¬ (s i ≡ repeated f a x)
  apart L s u x new i a l k e =
      let t = closed_repeated L s u (n - a) i l in
      let whole : (n - a) + a ≡ n = omega arith in
      new t.0 t.1 (t.2 ∙ ap (repeated f (n - a)) e ∙ sym (repeated-add f (n - a) a x) ∙ ap (λ m. repeated f m x) whole ∙ around x)

  one_more : (L : ℕ) (s : ℕ → Fin h) → IsUnion L s → (x : Fin h) → ((i : ℕ) → i < L → ¬ (s i ≡ x))
      → IsUnion (L + n) (followed L s (λ a. repeated f a x))
  unfolding repeated
  one_more L s u x new = record {
    divides = Nat.dvd-add n u.divides (Nat.dvd_refl n);
    distinct = λ i j l k e. at_two i j l k e (cases_lt i L) (cases_lt j L);
    closed = λ i l. at_one i l (cases_lt i L);
  }
    where
      s' : ℕ → Fin h
      s' = followed L s (λ a. repeated f a x)

      late : (i : ℕ) → L ≤ i → s' i ≡ repeated f (i - L) x
      late i m = let e : i ≡ L + (i - L) = omega arith in ap s' e ∙ followed-above L s (λ a. repeated f a x) (i - L)

      at_two : (i j : ℕ) → i < L + n → j < L + n → s' i ≡ s' j → (i < L) ⊎ (L ≤ i) → (j < L) ⊎ (L ≤ j) → i ≡ j
      at_two i j l k e (inl a) (inl b) = u.distinct i j a b (sym (followed-below L s (λ a. repeated f a x) i a) ∙ e
          ∙ followed-below L s (λ a. repeated f a x) j b)
      at_two i j l k e (inl a) (inr b) =
          absurd (apart L s u x new i (j - L) a (omega arith) (sym (followed-below L s (λ a. repeated f a x) i a) ∙ e ∙ late j b))
      at_two i j l k e (inr a) (inl b) =
          absurd (apart L s u x new j (i - L) b (omega arith) (sym (followed-below L s (λ a. repeated f a x) j b) ∙ sym e ∙ late i a))
      at_two i j l k e (inr a) (inr b) = let same : i - L ≡ j - L = free x (i - L) (j - L) (omega arith) (omega arith) (sym (late i a) ∙ e
          ∙ late j b) in omega arith

      at_one : (i : ℕ) → i < L + n → (i < L) ⊎ (L ≤ i) → (j : ℕ) × (j < L + n) × (s' j ≡ f (s' i))
      at_one i l (inl a) = let t = u.closed i a in let b : t.0 < L = t.1 in (
        t.0,
        omega arith,
        followed-below L s (λ a. repeated f a x) t.0 t.1 ∙ t.2
            ∙ ap f (sym (followed-below L s (λ a. repeated f a x) i a)),
      )
      at_one i l (inr a) = elim (cases_lt ((i - L) + 1) n) [
        | inl b ↦ let e : (i + 1) - L ≡ suc (i - L) = omega arith in (
          i + 1,
          omega arith,
          late (i + 1) (omega arith) ∙ ap (λ m. repeated f m x) e
              ∙ ap f (sym (late i a)),
        )
        | inr b ↦ let e : n ≡ suc (i - L) = omega arith in let z : L - L ≡ 0 = omega arith in
            (L, omega arith, late L (omega arith) ∙ ap (λ m. repeated f m x) z ∙ sym (around x) ∙ ap (λ m. repeated f m x) e ∙ ap f (sym (late i a)))
      ]

  full : (L : ℕ) (s : ℕ → Fin h) → IsUnion L s → h ≤ L → n ∣ h
  full L s u m = let l : L ≤ h = injection_few L h (λ i k. s i) (λ i j a b e. u.distinct i j a b e) in let e : L ≡ h = omega
      arith in subst (λ k. n ∣ k) e u.divides

  grown : (fuel L : ℕ) (s : ℕ → Fin h) → h ≤ L + fuel → IsUnion L s → n ∣ h
  grown zero L s m u = full L s u (omega arith)
  grown (suc fuel) L s m u =
      elim (all_or_one h (λ x. (j : ℕ) × (j < L) × (s j ≡ x)) (λ x. (j : ℕ) → j < L → ¬ (s j ≡ x))
      (λ x. search_below (λ j. s j ≡ x) (λ j. same_or_not (s j) x) L)) [
        | inl all ↦ full L s u (few all)
        | inr x ↦ grown fuel (L + n) (followed L s (λ a. repeated f a x.0)) (omega arith) (one_more L s u x.0 x.1)
      ]
    where
      few : ((x : Fin h) → (j : ℕ) × (j < L) × (s j ≡ x)) → h ≤ L
      few all = injection_few h L (λ i l. from_nat L (all (from_nat h i l)).0 (all (from_nat h i l)).1) (λ i j l k e.
          let p : (all (from_nat h i l)).0 ≡ (all (from_nat h j k)).0 = sym (to_nat-from_nat L (all (from_nat h i l)).0 (all (from_nat h i l)).1)
          ∙ ap to_nat e ∙ to_nat-from_nat L (all (from_nat h j k)).0 (all (from_nat h j k)).1 in
          sym (to_nat-from_nat h i l) ∙ ap to_nat (sym (all (from_nat h i l)).2 ∙ ap s p ∙ (all (from_nat h j k)).2) ∙ to_nat-from_nat h j k)

  pub rounds_divide : n ∣ h
  rounds_divide = elim (cases_lt 0 h) [
    | inl some ↦ grown h 0 (λ i. from_nat h 0 some) (omega arith)
        (record { divides = Nat.dvd-zero n; distinct = λ i j l k e. absurd (omega arith); closed = λ i l. absurd (omega arith) })
    | inr none ↦ let e : h ≡ 0 = omega arith in subst (λ k. n ∣ k) (sym e) (Nat.dvd-zero n)
  ]
