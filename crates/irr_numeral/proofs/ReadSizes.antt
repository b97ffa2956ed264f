-- Denominator and size of a number that is read.
--   integer-sum      an integer times a power of z as a sum of powers
--   terms-sum        a sum of terms as one
--   sum-over         over each number that the denominators divide, a number that is read is a sum of as many powers as its size
--   read-sizes       the denominator is within the limit, and the size within that of a coefficient times the order
use Rattle.std.proofs.Common.{◌≡◌, sym, ◌∙◌, ap, subst, ℕ, ℤ, pos, negsuc, zero, suc, ◌<◌, ◌≤◌, ◌*◌, List, [], ◌∷◌, get_or, map, All, arith, sum_by, unsigned_abs}
use Rattle.std.specs.Int.{◌∣◌}
use Rattle.std.proofs.lemmas.List.Sums.{sum_by-cons}
use Rattle.std.proofs.lemmas.Nat.Gcd.{le_of_dvd}
use native.Mathlib.Nat as Nat
use Rattle.irr_algebra.specs.Ring.{whole}
use Rattle.irr_algebra.proofs.Rings.{add-mul, one-mul, zero-mul, neg-mul}
use Rattle.irr_algebra.proofs.Whole.{whole-one}
use Rattle.irr_number.specs.Number.{Number, numbers, root_power}
use Rattle.irr_rational.specs.Integer.{integer}
use Rattle.irr_canonical.specs.Coefficient.{denominator, size}
use Rattle.irr_canonical.specs.RootSum.{IsRootSum}
use Rattle.irr_canonical.proofs.RootSizes.{denominator_of_IsRootSum, size_of_IsRootSum}
use Rattle.irr_canonical.proofs.RootSums.{IsRootSum-zero, IsRootSum-root, IsRootSum-neg, IsRootSum-more, IsRootSum-add_same}
use Rattle.irr_cyc.specs.Terms.{terms_sum}
use Rattle.irr_numeral.specs.declared.limits.TheConstants.{COEFFICIENT_LIMIT, DENOMINATOR_LIMIT}
use Rattle.irr_numeral.specs.ScaledTerm.{scaled_term}
use Rattle.irr_numeral.specs.WrittenValue.{IsReadAs, denominator_of, written_size}
use Rattle.irr_numeral.proofs.CommonDenominators.{positive-denominator}
use Rattle.irr_numeral.proofs.ReadNumbers.{AreRead, small-terms}
use Rattle.irr_numeral.proofs.ScaledTerms.{terms-scaled, size-scaled}

module _ (n : ℕ) where
  whole-sum : (m j : ℕ) → IsRootSum n m 1 ((numbers n).mul (whole (numbers n) m) (root_power n j))
  unfolding whole
  whole-sum zero j = subst (IsRootSum n 0 1) (sym (zero-mul (numbers n) (root_power n j))) (IsRootSum-zero n 1 (omega arith))
  whole-sum (suc m) j = subst (IsRootSum n (suc m) 1)
      (sym (add-mul (numbers n) (numbers n).one (whole (numbers n) m) (root_power n j)
      ∙ ap (λ y. (numbers n).add y ((numbers n).mul (whole (numbers n) m) (root_power n j))) (one-mul (numbers n) (root_power n j))))
      (IsRootSum-more n (suc m) (omega arith) (IsRootSum-add_same n (IsRootSum-root n j) (whole-sum m j)))

  integer-sum : (c : ℤ) (j : ℕ) → IsRootSum n (unsigned_abs c) 1 ((numbers n).mul (integer (numbers n) c) (root_power n j))
  unfolding integer
  integer-sum (pos m) j = whole-sum m j
  integer-sum (negsuc m) j = subst (IsRootSum n (suc m) 1) (sym (neg-mul (numbers n) (whole (numbers n) (suc m)) (root_power n j)))
      (IsRootSum-neg n (whole-sum (suc m) j))

  terms-sum : (ts : List (ℕ × ℤ)) → IsRootSum n (sum_by (λ t. unsigned_abs t.1) ts) 1 (terms_sum n ts)
  unfolding terms_sum
  terms-sum [] = IsRootSum-zero n 1 (omega arith)
  terms-sum (t ∷ ts) = subst (λ s. IsRootSum n s 1 ((numbers n).add ((numbers n).mul (integer (numbers n) t.1) (root_power n t.0)) (terms_sum n ts)))
      (sym (sum_by-cons (λ (u : ℕ × ℤ). unsigned_abs u.1) t ts)) (IsRootSum-add_same n (integer-sum t.1 t.0) (terms-sum ts))

  over-sum : (s d : ℕ) (x y : Number n) → 0 < d → (numbers n).mul (whole (numbers n) d) x ≡ y → IsRootSum n s 1 y → IsRootSum n s d x
  over-sum s d x y p e h = record {
    positive = p;
    powers = h.powers;
    few = h.few;
    multiple = e ∙ sym (ap (λ w. (numbers n).mul w y) (whole-one (numbers n)) ∙ one-mul (numbers n) y) ∙ h.multiple;
  }

  module _ (text : List ℕ) (x : Number n) (h : IsReadAs n text x) where
    read : AreRead n text h.terms
    read = record { are_terms = h.are_terms; spells = h.spells; increasing = h.increasing; not_zero = h.not_zero; within = h.within }

    -- over any number that each denominator divides
    pub sum-over : (e : ℕ) → 0 < e → All (λ t. denominator_of t ∣ e) h.terms → IsRootSum n (written_size e h.terms) e x
    sum-over e p v = over-sum (written_size e h.terms) e x (terms_sum n (map (scaled_term e) h.terms)) p
        (ap ((numbers n).mul (whole (numbers n) e)) h.value
        ∙ terms-scaled n e h.terms (λ k t lt. positive-denominator (get_or h.terms k t) (small-terms n text h.terms read k t lt)) v)
        (subst (λ s. IsRootSum n s 1 (terms_sum n (map (scaled_term e) h.terms))) (size-scaled e h.terms) (terms-sum (map (scaled_term e) h.terms)))

    read-sum : IsRootSum n (written_size h.small.denominator h.terms) h.small.denominator x
    read-sum = sum-over h.small.denominator h.small.common.positive h.small.common.common

    pub read-denominator : 0 < n → denominator n x ≤ DENOMINATOR_LIMIT
    read-denominator p =
        let le : denominator n x ≤ h.small.denominator = le_of_dvd h.small.common.positive
        (denominator_of_IsRootSum n p (written_size h.small.denominator h.terms) h.small.denominator x read-sum) in
        omega (arith, le, h.small.denominator_within)

    pub read-size : 0 < n → size n x ≤ COEFFICIENT_LIMIT * n
    read-size p =
        let le : size n x ≤ written_size h.small.denominator h.terms * n = size_of_IsRootSum n p
        (written_size h.small.denominator h.terms) h.small.denominator x read-sum in
        let more : written_size h.small.denominator h.terms * n ≤ COEFFICIENT_LIMIT * n = Nat.mul-le-mul_right n h.small.size_within in
        omega (arith, le, more)
