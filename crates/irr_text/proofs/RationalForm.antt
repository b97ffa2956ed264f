-- The canonical form of a rational number is its form in lowest terms.
--   zero_in_basis            z^0 is in the basis of each order
--   numerator-lowest         a is the numerator of a/b in lowest terms
--   denominator-lowest       b is its denominator
--   rational_text-lowest     so its text is that of a and b
--   lowest-numerator         numerator and denominator of a rational are in lowest terms, and the number is their ratio
use Rattle.std.proofs.Common.{◌≡◌, sym, ◌∙◌, ap, ap₂, subst, refl, ℕ, ℤ, zero, suc, ◌<◌, ◌-◌, ◌/◌, ◌%◌, ◌^◌, arith}
use native.Mathlib.Nat as Nat
use Rattle.irr_algebra.specs.Listed.{sum_below}
use Rattle.irr_algebra.proofs.Rings.{zero-add}
use Rattle.irr_number.specs.Basis.{InBasis, IsCanonical}
use Rattle.irr_number.specs.Element.{Element}
use Rattle.irr_number.specs.Fraction.{Fraction}
use Rattle.irr_number.specs.Number.{number, root_power}
use Rattle.irr_number.specs.Algebra.{at-element}
use Rattle.irr_number.proofs.RootPowers.{root_power-zero}
use Rattle.irr_rational.specs.Integer.{integer}
use Rattle.irr_rational.specs.Rational.{Rational, rationals, ratio}
use Rattle.irr_rational.specs.Ratio.{IsLowest}
use Rattle.irr_rational.proofs.Ratios.{IsOver, ratio_is}
use Rattle.irr_rational.proofs.LowestTerms.{lowest_form}
use Rattle.irr_canonical.specs.Coefficient.{canonical, denominator, over}
use Rattle.irr_canonical.specs.PowerSum.{power_sum}
use Rattle.irr_canonical.specs.Reduction.{IsInBasis}
use Rattle.irr_canonical.proofs.Forms.{canonical_of_number}
use Rattle.irr_canonical.proofs.Operations.{IsCanonical-over}
use Rattle.irr_canonical.proofs.Sums.{mul-number-element}
use Rattle.irr_text.specs.NumberText.{numerator, fraction_text, rational_text}

-- z^0 is in the basis: the digit of 0 is 0, and p - 1 is not
pub zero_in_basis : (N : ℕ) → InBasis N 0
zero_in_basis N p m prime positive highest e = absurd (let big : 1 < p = prime.0 in let z : (0 % p ^ m) / p ^ (m - 1) ≡ 0 = ap (λ x. x / p ^ (m - 1)) (Nat.zero-mod (p ^ m)) ∙ Nat.zero-div (p ^ (m - 1)) in omega (arith, e, z))

module _ (a : ℤ) (b : ℕ) (low : IsLowest a b) where
  form : Fraction (Element 1)
  form = over 1 (λ _. a) b low.positive

  in_basis : IsInBasis 1 (λ _. a)
  in_basis zero lt n = absurd (n (zero_in_basis 1))
  in_basis (suc j) lt n = absurd (omega arith)

  form-canonical : IsCanonical 1 form
  unfolding form
  form-canonical = IsCanonical-over 1 (λ _. a) b low.positive in_basis (λ c v t. low.lowest c v (t 0 (omega arith)))

  form-over : IsOver rationals (number 1 form) a b
  unfolding form power_sum sum_below
  form-over = mul-number-element 1 form ∙ zero-add rationals (rationals.mul (integer rationals (form.num.at 0)) (root_power 1 0))
      ∙ ap (rationals.mul (integer rationals (form.num.at 0))) (root_power-zero 1) ∙ rationals.mul-one (integer rationals (form.num.at 0))
      ∙ ap (integer rationals) (at-element 1 (λ _. a) 0 (omega arith))

  canonical-lowest : canonical 1 (ratio a b) ≡ form
  canonical-lowest = canonical_of_number 1 (omega arith) form (ratio a b) form-canonical (sym (ratio_is (number 1 form) a b low.positive form-over))

  pub numerator-lowest : numerator (ratio a b) ≡ a
  unfolding numerator form
  numerator-lowest = ap (λ (f : Fraction (Element 1)). f.num.at 0) canonical-lowest ∙ at-element 1 (λ _. a) 0 (omega arith)

  pub denominator-lowest : denominator 1 (ratio a b) ≡ b
  unfolding denominator form
  denominator-lowest = ap (λ (f : Fraction (Element 1)). f.den) canonical-lowest

  pub rational_text-lowest : rational_text (ratio a b) ≡ fraction_text a b
  unfolding rational_text
  rational_text-lowest = ap₂ fraction_text numerator-lowest denominator-lowest

-- each rational number is its numerator over its denominator, in lowest terms
pub numerator_is_lowest : (x : Rational) → IsLowest (numerator x) (denominator 1 x) × (ratio (numerator x) (denominator 1 x) ≡ x)
numerator_is_lowest x = from_form (lowest_form x)
  where
    from_form : (a : ℤ) × (b : ℕ) × IsLowest a b × (ratio a b ≡ x) → IsLowest (numerator x) (denominator 1 x) × (ratio (numerator x) (denominator 1 x) ≡ x)
    from_form f = subst (λ y. IsLowest (numerator y) (denominator 1 y) × (ratio (numerator y) (denominator 1 y) ≡ y)) f.3
        (subst (λ a. IsLowest a (denominator 1 (ratio f.0 f.1)) × (ratio a (denominator 1 (ratio f.0 f.1)) ≡ ratio f.0 f.1)) (sym (numerator-lowest f.0 f.1 f.2))
        (subst (λ b. IsLowest f.0 b × (ratio f.0 b ≡ ratio f.0 f.1)) (sym (denominator-lowest f.0 f.1 f.2)) (f.2, refl)))
