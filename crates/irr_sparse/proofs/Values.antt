-- The number that terms over a denominator stand for.
--   value-mul            the denominator times the number is the sum of the terms
--   value-is             a number with that product is the number
--   value-same           terms with equal cross products are one number
use Rattle.std.proofs.Common.{◌≡◌, refl, sym, ◌∙◌, ap, ap₂, ℕ, ℤ, zero, suc, pos, ◌<◌, ◌*ℤ◌, List, [], ◌∷◌, All, arith}
use Rattle.std.proofs.lemmas.List.Elements.{All-from_get_or, All-head, All-tail}
use native.Mathlib.Bridge.{le_prop}
use native.Mathlib.Nat as Nat
use Rattle.irr_algebra.specs.Ring.{whole}
use Rattle.irr_algebra.proofs.Rings.{mul_left_comm}
use Rattle.irr_number.specs.Algebra.{algebra, at-element, at-power}
use Rattle.irr_number.specs.Element.{delta, element, multiple, power}
use Rattle.irr_number.specs.Fraction.{over_one}
use Rattle.irr_number.specs.Integers.{integers}
use Rattle.irr_number.specs.MultipleLaws.{at-multiple}
use Rattle.irr_number.specs.Number.{Number, number, numbers, root_power}
use Rattle.irr_rational.specs.Integer.{integer}
use Rattle.irr_canonical.specs.Coefficient.{over}
use Rattle.irr_canonical.proofs.Operations.{over-add_same, over-by, over-zero}
use Rattle.irr_canonical.proofs.Sums.{eq_of_mul, mul-number, number-multiple}
use Rattle.irr_cyc.specs.Terms.{terms_at, terms_sum}
use Rattle.irr_sparse.specs.TermList.{AreTerms}
use Rattle.irr_sparse.specs.Value.{value_of}
use Rattle.irr_sparse.proofs.Lists.{terms-at}

-- exponents below N
pub exponents-below : (N b : ℕ) (ts : List (ℕ × ℤ)) → AreTerms N b ts → All (λ t. t.0 < N) ts
exponents-below N b ts h = All-from_get_or (λ (t : ℕ × ℤ). t.0 < N) ts (0, pos 0) (λ i lt. (terms-at N b ts i h lt).below)

module _ (N : ℕ) where
  pub value-over : (ts : List (ℕ × ℤ)) (d : ℕ) (p : 0 < d) → value_of N ts d ≡ number N (over N (terms_at ts) d p)
  unfolding value_of
  value-over ts zero p = absurd (omega arith)
  value-over ts (suc d) p = λ i. number N (over N (terms_at ts) (suc d) (le_prop (Nat.zero-lt-suc d) p i))

  one-term : (j : ℕ) (c : ℤ) (p : 0 < 1) → j < N → number N (over N (λ k. c *ℤ delta integers j k) 1 p) ≡ (numbers N).mul (integer (numbers N) c) (root_power N j)
  unfolding over_one root_power
  one-term j c p lt = over-by N (over_one (algebra N) (multiple N c (power N j))) (λ k. c *ℤ delta integers j k) 1 p refl (λ k lk.
      ap (λ y. c *ℤ y) (ap (λ x. delta integers x k) (sym (Nat.mod-eq_of_lt lt)) ∙ sym (at-power N j k lk)) ∙ sym (at-multiple N c (power N j) k lk))
      ∙ number-multiple N c (power N j)

  terms-number : (ts : List (ℕ × ℤ)) (p : 0 < 1) → All (λ t. t.0 < N) ts → number N (over N (terms_at ts) 1 p) ≡ terms_sum N ts
  unfolding terms_at terms_sum
  terms-number [] p h = over-zero N (λ _. pos 0) 1 p (λ j lt. refl)
  terms-number (t ∷ ts) p h = over-add_same N (λ k. t.1 *ℤ delta integers t.0 k) (terms_at ts) (terms_at (t ∷ ts)) 1 p (λ j lt. refl)
      ∙ ap₂ (numbers N).add (one-term t.0 t.1 p (All-head (λ (t : ℕ × ℤ). t.0 < N) t ts h)) (terms-number ts p (All-tail (λ (t : ℕ × ℤ). t.0 < N) t ts h))

  pub value-mul : (ts : List (ℕ × ℤ)) (d : ℕ) → 0 < d → All (λ t. t.0 < N) ts → (numbers N).mul (whole (numbers N) d) (value_of N ts d) ≡ terms_sum N ts
  unfolding over_one
  value-mul ts d p h = ap ((numbers N).mul (whole (numbers N) d)) (value-over ts d p) ∙ mul-number N (over N (terms_at ts) d p)
      ∙ sym (over-by N (over_one (algebra N) (element N (terms_at ts))) (terms_at ts) 1 (omega arith) refl (λ k lk. sym (at-element N (terms_at ts) k lk)))
      ∙ terms-number ts (omega arith) h

  pub value-none : (d : ℕ) → 0 < d → value_of N [] d ≡ (numbers N).zero
  unfolding terms_at
  value-none d p = value-over [] d p ∙ over-zero N (terms_at []) d p (λ j lt. refl)

  module _ (hN : 0 < N) where
    pub value-is : (ts : List (ℕ × ℤ)) (d : ℕ) → 0 < d → All (λ t. t.0 < N) ts → (x : Number N) → (numbers N).mul (whole (numbers N) d) x ≡ terms_sum N ts → value_of N ts d ≡ x
    value-is ts d p h x e = eq_of_mul N hN d p (value_of N ts d) x (value-mul ts d p h ∙ sym e)

    pub value-same : (ts us : List (ℕ × ℤ)) (d e : ℕ) → 0 < d → 0 < e → All (λ t. t.0 < N) ts → All (λ t. t.0 < N) us
        → (numbers N).mul (whole (numbers N) e) (terms_sum N ts) ≡ (numbers N).mul (whole (numbers N) d) (terms_sum N us) → value_of N ts d ≡ value_of N us e
    value-same ts us d e p q h g same = value-is ts d p h (value_of N us e) (eq_of_mul N hN e q ((numbers N).mul (whole (numbers N) d) (value_of N us e)) (terms_sum N ts)
        (mul_left_comm (numbers N) (whole (numbers N) e) (whole (numbers N) d) (value_of N us e) ∙ ap ((numbers N).mul (whole (numbers N) d)) (value-mul us e q g) ∙ sym same))
