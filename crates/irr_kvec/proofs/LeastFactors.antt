-- Periods of wave vectors.
--   times-listed             multiples of whole wave vectors
--   count_reciprocal         as many times a whole wave vector as there are centrings is reciprocal
--   factor_before            where a factor fails, it is below that number
--   period_of_factor         the least factor of the numerators times the denominator is the period
use Rattle.std.proofs.Common.{◌≡◌, sym, ◌∙◌, ap, subst, ℕ, ◌*◌, ◌/◌, ◌<◌, ◌≤◌, ◌⊎◌, inl, inr, ℤ, pos, ◌*ℤ◌, List, length, arith}
use Rattle.std.specs.Int.{◌∣◌}
use native.Mathlib.Nat as Nat
use Rattle.irr_algebra.specs.Fin.{Fin}
use Rattle.irr_algebra.specs.Ring.{whole}
use Rattle.irr_number.specs.Integers.{integers}
use Rattle.irr_rational.specs.Rational.{rationals, ratio, IsWhole}
use Rattle.irr_rational.specs.Ratio.{entry}
use Rattle.irr_rational.proofs.Ratios.{ratio_same}
use Rattle.irr_rational.proofs.WholeNumbers.{multiple_of_ratio, whole_multiples}
use Rattle.irr_space.specs.Operation.{wave_component}
use Rattle.irr_space.specs.Reciprocal.{IsReciprocal, IsPeriod, times}
use Rattle.irr_lattice.proofs.Vectors.{wave-ext, wave_component-scale}
use Rattle.irr_rat.specs.declared.vec3.Vec3.{Vec3}
use Rattle.irr_rat.specs.Lowest.{AreThreeLowest}
use Rattle.irr_kvec.specs.WaveMeaning.{wave_of}
use Rattle.irr_kvec.specs.Centrings.{LatticeOf, IsCentringList}
use Rattle.irr_kvec.proofs.Lattices.{reciprocal_whole, reciprocal_multiple}
use Rattle.irr_kvec.proofs.Products.{wave_component-wave_of}
use Rattle.irr_kvec.proofs.ReducedForms.{whole_listed, at_most_of_not_below}

times-at : (n : ℕ) (num : List ℤ) (den : ℕ) (i : Fin 3) → wave_component (times n (wave_of num den)) i ≡ rationals.mul (whole rationals n) (ratio (entry num i) den)
times-at n num den i = wave_component-scale (whole rationals n) (wave_of num den) i ∙ ap (rationals.mul (whole rationals n)) (wave_component-wave_of num den i)

pub times-listed : (num v : List ℤ) (f : ℕ) → ((i : Fin 3) → entry v i ≡ pos f *ℤ entry num i) → wave_of v 1 ≡ times f (wave_of num 1)
times-listed num v f h = wave-ext (wave_of v 1) (times f (wave_of num 1)) (λ i. wave_component-wave_of v 1 i ∙ ap (λ x. ratio x 1) (h i) ∙ multiple_of_ratio f (entry num i) 1 (omega arith) ∙ sym (times-at f num 1 i))

-- f times the numerators are f times den times the fractions
times-numerators : (num : List ℤ) (den f : ℕ) → 0 < den → times (f * den) (wave_of num den) ≡ times f (wave_of num 1)
times-numerators num den f h = wave-ext (times (f * den) (wave_of num den)) (times f (wave_of num 1)) (λ i. times-at (f * den) num den i
    ∙ sym (multiple_of_ratio (f * den) (entry num i) den h) ∙ ratio_same (pos (f * den) *ℤ entry num i) (pos f *ℤ entry num i) den 1 h (omega arith) (cross (pos f) (pos den) (entry num i))
    ∙ multiple_of_ratio f (entry num i) 1 (omega arith) ∙ sym (times-at f num 1 i))
  where
    cross : (x y z : ℤ) → ((x *ℤ y) *ℤ z) *ℤ pos 1 ≡ (x *ℤ z) *ℤ y
    cross x y z = integers.mul-one ((x *ℤ y) *ℤ z) ∙ integers.mul_assoc x y z ∙ ap (λ v. x *ℤ v) (integers.mul_comm y z) ∙ sym (integers.mul_assoc x z y)

module _ (cs : List Vec3) (list : IsCentringList cs) (num : List ℤ) where
  pub count_reciprocal : IsReciprocal (LatticeOf cs) (times (length cs) (wave_of num 1))
  count_reciprocal = reciprocal_multiple cs list.zero (length cs) list.multiple (wave_of num 1) (whole_listed num)

  pub factor_before : (f : ℕ) → f ≤ length cs → (IsReciprocal (LatticeOf cs) (times f (wave_of num 1)) → ⊥) → f < length cs
  factor_before f h fails = by (Nat.eq-or-lt_of_le h)
    where
      by : (f ≡ length cs) ⊎ (f < length cs) → f < length cs
      by (inl e) = absurd (fails (subst (λ n. IsReciprocal (LatticeOf cs) (times n (wave_of num 1))) (sym e) count_reciprocal))
      by (inr l) = l

  pub period_of_factor : (den f : ℕ) → AreThreeLowest num den → 0 < f → IsReciprocal (LatticeOf cs) (times f (wave_of num 1))
      → ((n : ℕ) → 0 < n → n < f → IsReciprocal (LatticeOf cs) (times n (wave_of num 1)) → ⊥) → IsPeriod (LatticeOf cs) (wave_of num den) (f * den)
  period_of_factor den f low positive reciprocal none = record {
    positive = Nat.mul-pos positive low.positive;
    reciprocal = subst (IsReciprocal (LatticeOf cs)) (sym (times-numerators num den f low.positive)) reciprocal;
    least = least;
  }
    where
      least : (n : ℕ) → 0 < n → IsReciprocal (LatticeOf cs) (times n (wave_of num den)) → f * den ≤ n
      least n p h = subst (λ v. f * den ≤ v) quotient (Nat.mul-le-mul_right den (at_most_of_not_below (n / den) f (λ l. none (n / den) quotient_positive l
          (subst (IsReciprocal (LatticeOf cs)) (ap (λ v. times v (wave_of num den)) (sym quotient) ∙ times-numerators num den (n / den) low.positive) h))))
        where
          divides : den ∣ n
          divides = (whole_multiples (entry num) den n low).0 (λ i. subst IsWhole (times-at n num den i) (reciprocal_whole cs list.zero (times n (wave_of num den)) h i))

          quotient : n / den * den ≡ n
          quotient = Nat.div-mul_cancel den divides

          quotient_positive : 0 < n / den
          quotient_positive = by (Nat.eq-or-lt_of_le (let h : 0 ≤ n / den = omega arith in h))
            where
              by : (0 ≡ n / den) ⊎ (0 < n / den) → 0 < n / den
              by (inl e) = absurd (let z : 0 * den ≡ n = ap (λ v. v * den) e ∙ quotient in omega arith)
              by (inr l) = l
