-- The terms of a number: exponents rise, coefficients are not 0, and where no term stands the coefficient is 0.
--   AreTermsOf n f ts        ts lists the coefficients f below n that are not 0
--   terms_of                 the terms are such a list
use Rattle.std.proofs.Common.{◌≡◌, refl, sym, ◌∙◌, ap, subst, ℕ, ℤ, pos, negsuc, zero, suc, ◌+◌, ◌<◌, ◌⊎◌, inl, inr, List, [], ◌∷◌, ◌++◌, length}
use Rattle.std.proofs.Common.{get_or, append-nil, length-append, arith}
use Rattle.std.proofs.Math.Seq.{get_or-append_seam}
use Rattle.std.proofs.lemmas.Bool.{cases_lt}
use Rattle.std.proofs.lemmas.List.{get_or_append_left}
use Rattle.irr_cyc.specs.Terms.{nonzero_terms, term}

-- the term at place i
abbrev pub term_at : List (ℕ × ℤ) → ℕ → ℕ × ℤ
term_at ts i = get_or ts i (0, pos 0)

pub record AreTermsOf (n : ℕ) (f : ℕ → ℤ) (ts : List (ℕ × ℤ)) : Type 0 where
  pub below : (i : ℕ) → i < length ts → (term_at ts i).0 < n
  pub value : (i : ℕ) → i < length ts → (term_at ts i).1 ≡ f (term_at ts i).0
  pub nonzero : (i : ℕ) → i < length ts → ¬ ((term_at ts i).1 ≡ pos 0)
  pub rising : (i j : ℕ) → i < j → j < length ts → (term_at ts i).0 < (term_at ts j).0
  pub complete : (j : ℕ) → j < n → ((i : ℕ) × (i < length ts) × ((term_at ts i).0 ≡ j)) ⊎ (f j ≡ pos 0)

before_or_last : (i k : ℕ) → i < k + 1 → (i < k) ⊎ (i ≡ k)
before_or_last i k l = elim (cases_lt i k) [ inl h ↦ inl h | inr h ↦ (let e : i ≡ k = omega arith in inr e) ]

-- one more exponent, without a term
no_more : (n : ℕ) (f : ℕ → ℤ) (ts : List (ℕ × ℤ)) → f n ≡ pos 0 → AreTermsOf n f ts → AreTermsOf (suc n) f ts
no_more n f ts e h = record {
  below = λ i l. (let b : (term_at ts i).0 < n = h.below i l in omega arith);
  value = h.value;
  nonzero = h.nonzero;
  rising = h.rising;
  complete = λ j l. elim (before_or_last j n (omega arith)) [ inl b ↦ h.complete j b | inr s ↦ inr (ap f s ∙ e) ];
}

-- one more exponent, with its term
module _ (n : ℕ) (f : ℕ → ℤ) (ts : List (ℕ × ℤ)) (c : ℤ) (e : f n ≡ c) (some : ¬ (c ≡ pos 0)) (h : AreTermsOf n f ts) where
  more : List (ℕ × ℤ)
  more = ts ++ (n, c) ∷ []

  length-more : length more ≡ length ts + 1
  unfolding more
  length-more = length-append ts ((n, c) ∷ [])

  old_at : (i : ℕ) → i < length ts → term_at more i ≡ term_at ts i
  unfolding more
  old_at i l = get_or_append_left ts ((n, c) ∷ []) (0, pos 0) i l

  last_at : (i : ℕ) → i ≡ length ts → term_at more i ≡ (n, c)
  unfolding more
  last_at i s = ap (term_at (ts ++ (n, c) ∷ [])) s ∙ get_or-append_seam ts (n, c) [] (0, pos 0)

  -- what holds of the old terms and of the last one
  each : (P : ℕ × ℤ → Type 0) → ((i : ℕ) → i < length ts → P (term_at ts i)) → P (n, c) → (i : ℕ) → i < length more → P (term_at more i)
  each P old last i l = elim (before_or_last i (length ts) (let t : length more ≡ length ts + 1 = length-more in omega arith)) [
    | inl b ↦ subst P (sym (old_at i b)) (old i b)
    | inr s ↦ subst P (sym (last_at i s)) last
  ]

  rising_more : (i j : ℕ) → i < j → j < length more → (term_at more i).0 < (term_at more j).0
  rising_more i j l m =
      let b : i < length ts = (let t : length more ≡ length ts + 1 = length-more in omega arith) in
      subst (λ (t : ℕ × ℤ). t.0 < (term_at more j).0) (sym (old_at i b))
      (elim (before_or_last j (length ts) (let t : length more ≡ length ts + 1 = length-more in omega arith)) [
        | inl k ↦ subst (λ (t : ℕ × ℤ). (term_at ts i).0 < t.0) (sym (old_at j k)) (h.rising i j l k)
        | inr s ↦ subst (λ (t : ℕ × ℤ). (term_at ts i).0 < t.0) (sym (last_at j s)) (h.below i b)
      ])

  old_place : (j : ℕ) → ((i : ℕ) × (i < length ts) × ((term_at ts i).0 ≡ j)) ⊎ (f j ≡ pos 0)
      → ((i : ℕ) × (i < length more) × ((term_at more i).0 ≡ j)) ⊎ (f j ≡ pos 0)
  old_place j (inl p) = inl (
    p.0,
    (let t : length more ≡ length ts + 1 = length-more in let q : p.0 < length ts = p.1 in omega arith),
    ap
        (λ (t : ℕ × ℤ). t.0) (old_at p.0 p.1) ∙ p.2,
  )
  old_place j (inr z) = inr z

  one_more : AreTermsOf (suc n) f more
  one_more = record {
    below = each (λ t. t.0 < suc n) (λ i l. (let b : (term_at ts i).0 < n = h.below i l in omega arith)) (omega arith);
    value = each (λ t. t.1 ≡ f t.0) h.value (sym e);
    nonzero = each (λ t. ¬ (t.1 ≡ pos 0)) h.nonzero some;
    rising = rising_more;
    complete = λ j l. elim (before_or_last j n (omega arith)) [
      | inl b ↦ old_place j (h.complete j b)
      | inr s ↦ inl (
        length ts,
        (let t : length more ≡ length ts + 1 = length-more in omega arith),
        ap (λ (t : ℕ × ℤ). t.0) (last_at (length ts) refl)
            ∙ sym s,
      )
    ];
  }

next_term : (n : ℕ) (f : ℕ → ℤ) (ts : List (ℕ × ℤ)) (c : ℤ) → f n ≡ c → AreTermsOf n f ts → AreTermsOf (suc n) f (ts ++ term n c)
unfolding term more
next_term n f ts (pos zero) e h = subst (AreTermsOf (suc n) f) (sym (append-nil ts)) (no_more n f ts e h)
next_term n f ts (pos (suc k)) e h = one_more n f ts (pos (suc k)) e (λ z. cc) h
next_term n f ts (negsuc k) e h = one_more n f ts (negsuc k) e (λ z. cc) h

pub terms_of : (n : ℕ) (f : ℕ → ℤ) → AreTermsOf n f (nonzero_terms n f)
unfolding nonzero_terms
terms_of zero f = record {
  below = λ i l. absurd (omega arith);
  value = λ i l. absurd (omega arith);
  nonzero = λ i l. absurd (omega arith);
  rising = λ i j l m. absurd (omega arith);
  complete = λ j l. absurd (omega arith);
}
terms_of (suc n) f = next_term n f (nonzero_terms n f) (f n) refl (terms_of n f)
