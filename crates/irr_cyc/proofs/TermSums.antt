-- Sums of terms.
--   coefficient_at, exponent_at    the parts of the term at a place of a list
--   terms-placed          the coefficient of z^k in a list of terms as a sum of placed coefficients
--   total-terms           the sum of the absolute coefficients
--   terms-value           the number of the coefficients of a list of terms
use Rattle.std.proofs.Common.{◌≡◌, refl, sym, ◌∙◌, ap, ap₂, ℕ, ℤ, pos, zero, suc, ◌+◌, ◌<◌, ◌+ℤ◌, ◌*ℤ◌, List, [], ◌∷◌, length, slice_index_or, unsigned_abs, All, sum_by, arith}
use Rattle.std.proofs.lemmas.List.Sums.{sum_by-cons}
use native.Mathlib.Nat as Nat
use Rattle.irr_algebra.specs.Listed.{sum_below}
use Rattle.irr_algebra.specs.Ring.{whole}
use Rattle.irr_number.specs.Algebra.{algebra, at-element, at-power}
use Rattle.irr_number.specs.Element.{delta, element, multiple, power}
use Rattle.irr_number.specs.Fraction.{over_one}
use Rattle.irr_number.specs.Integers.{integers}
use Rattle.irr_number.specs.MultipleLaws.{at-multiple}
use Rattle.irr_number.specs.Number.{number, numbers, root_power}
use Rattle.irr_number.specs.SumLaws.{sum_below_first}
use Rattle.irr_rational.specs.Integer.{integer}
use Rattle.irr_canonical.specs.Coefficient.{number_of, over, total_below}
use Rattle.irr_canonical.proofs.Operations.{over-add_same, over-by, over-zero}
use Rattle.irr_canonical.proofs.Sums.{mul-number, number-multiple}
use Rattle.irr_cyc.specs.Form.{at}
use Rattle.irr_cyc.specs.Terms.{terms_at, terms_sum}
use Rattle.irr_cyc.proofs.Placed.{placed_sum}
use Rattle.irr_cyc.proofs.Values.{value-over}

abbrev pub coefficient_at : List (ℕ × ℤ) → ℕ → ℤ
coefficient_at ts i = (slice_index_or ts i (0, pos 0)).1

abbrev pub exponent_at : List (ℕ × ℤ) → ℕ → ℕ
exponent_at ts i = (slice_index_or ts i (0, pos 0)).0

pub terms-placed : (ts : List (ℕ × ℤ)) (k : ℕ) → terms_at ts k ≡ placed_sum (coefficient_at ts) (exponent_at ts) (length ts) k
unfolding terms_at placed_sum sum_below
terms-placed [] k = refl
terms-placed (t ∷ ts) k = ap (λ y. (t.1 *ℤ delta integers t.0 k) +ℤ y) (terms-placed ts k)
    ∙ sym (sum_below_first integers (length ts) (λ i. coefficient_at (t ∷ ts) i *ℤ delta integers (exponent_at (t ∷ ts) i) k))

total-first : (n : ℕ) (f : ℕ → ℕ) → total_below (suc n) f ≡ f 0 + total_below n (λ i. f (suc i))
unfolding total_below
total-first zero f = omega arith
total-first (suc n) f = ap (λ x. x + f (suc n)) (total-first n f) ∙ omega arith

pub total-terms : (ts : List (ℕ × ℤ)) → total_below (length ts) (λ i. unsigned_abs (coefficient_at ts i)) ≡ sum_by (λ t. unsigned_abs t.1) ts
unfolding total_below
total-terms [] = refl
total-terms (t ∷ ts) = total-first (length ts) (λ i. unsigned_abs (coefficient_at (t ∷ ts) i)) ∙ ap (λ x. unsigned_abs t.1 + x) (total-terms ts) ∙ sym (sum_by-cons (λ t. unsigned_abs t.1) t ts)

pub exponent-below : (ts : List (ℕ × ℤ)) (n i : ℕ) → All (λ t. t.0 < n) ts → i < length ts → exponent_at ts i < n
exponent-below ts n i h lt = h i (0, pos 0) lt

module _ (N : ℕ) where
  one-term : (j : ℕ) (c : ℤ) (p : 0 < 1) → j < N → number N (over N (λ k. c *ℤ delta integers j k) 1 p) ≡ (numbers N).mul (integer (numbers N) c) (root_power N j)
  unfolding over_one root_power
  one-term j c p lt = over-by N (over_one (algebra N) (multiple N c (power N j))) (λ k. c *ℤ delta integers j k) 1 p refl (λ k lk.
      ap (λ y. c *ℤ y) (ap (λ x. delta integers x k) (sym (Nat.mod-eq_of_lt lt)) ∙ sym (at-power N j k lk)) ∙ sym (at-multiple N c (power N j) k lk))
      ∙ number-multiple N c (power N j)

  terms-number : (ts : List (ℕ × ℤ)) (p : 0 < 1) → All (λ t. t.0 < N) ts → number N (over N (terms_at ts) 1 p) ≡ terms_sum N ts
  unfolding terms_at terms_sum
  terms-number [] p h = over-zero N (λ _. pos 0) 1 p (λ j lt. refl)
  terms-number (t ∷ ts) p h = over-add_same N (λ k. t.1 *ℤ delta integers t.0 k) (terms_at ts) (terms_at (t ∷ ts)) 1 p (λ j lt. refl) ∙ ap₂ (numbers N).add (one-term t.0 t.1 p (h 0 t (omega arith))) (terms-number ts p (λ i d lt. h (suc i) d (omega arith)))

  -- the coefficients of a list of terms over d
  pub terms-value : (ts : List (ℕ × ℤ)) (xs : List ℤ) (d : ℕ) → 0 < d → All (λ t. t.0 < N) ts → ((k : ℕ) → k < N → at xs k ≡ terms_at ts k) → (numbers N).mul (whole (numbers N) d) (number_of N xs d) ≡ terms_sum N ts
  unfolding over_one
  terms-value ts xs d p h e =
      ap ((numbers N).mul (whole (numbers N) d)) (value-over N xs d p) ∙ mul-number N (over N (at xs) d p)
      ∙ sym (over-by N (over_one (algebra N) (element N (at xs))) (terms_at ts) 1 (omega arith) refl (λ k lk. sym (at-element N (at xs) k lk ∙ e k lk)))
      ∙ terms-number ts (omega arith) h
