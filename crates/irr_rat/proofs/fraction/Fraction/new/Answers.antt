-- Fractions in lowest terms.
use Rattle.std.proofs.Common.{◌≡◌, ◌∙◌, ◌/◌, ap, ap₂, sym, subst, pos, unsigned_abs, w64, to_z, of_z, rules}
use mir.Val.{SFits}
use Rattle.std.specs.Int.{IsGcd, w128}
use Rattle.std.specs.Int.RustNames.{int_div}
use Rattle.std.proofs.lemmas.Int.{to_z-of_z}
use Rattle.irr_rational.specs.Rational.{ratio}
use Rattle.irr_rational.specs.Ratio.{IsLowest}
use Rattle.irr_rational.proofs.LowestTerms.{lowest_quotients}
use Rattle.irr_rat.proofs.fraction.Fraction.new.Goals as goal

module _ (c : goal.After-from-2) where
  num_fits : SFits w64 c.args.num
  num_fits = c.ranges.num

  wide_fits : SFits w128 c.from.result
  wide_fits = search rules

  quotient_fits : SFits w128 c.quotient.result
  quotient_fits = search rules

  number : c.from.result ≡ c.args.num
  number = c.from.ensures ∙ to_z-of_z w64 c.args.num num_fits

  num : to_z w128 (of_z w128 c.quotient.result) ≡ int_div c.args.num (pos c.divisor-divisor.result)
  num = to_z-of_z w128 c.quotient.result quotient_fits ∙ c.quotient.ensures ∙ ap (λ z. int_div z (pos c.divisor-divisor.result)) (to_z-of_z w128 c.from.result wide_fits ∙ number)

  den : c.from-2.result / c.divisor-divisor.result ≡ c.args.den / c.divisor-divisor.result
  den = ap (λ n. n / c.divisor-divisor.result) c.from-2.ensures

  lowest : IsLowest (int_div c.args.num (pos c.divisor-divisor.result)) (c.args.den / c.divisor-divisor.result) × (ratio (int_div c.args.num (pos c.divisor-divisor.result)) (c.args.den / c.divisor-divisor.result) ≡ ratio c.args.num c.args.den)
  lowest = lowest_quotients c.args.num c.args.den c.divisor-divisor.result c.requires
      (subst (λ a. IsGcd (unsigned_abs a) c.args.den c.divisor-divisor.result) (to_z-of_z w64 c.args.num num_fits) c.divisor-divisor.ensures.greatest)

pub returns-clause-lowest : goal.returns-clause-lowest
returns-clause-lowest c = subst (λ a. IsLowest a (c.from-2.result / c.divisor-divisor.result)) (sym (num c))
    (subst (λ b. IsLowest (int_div c.args.num (pos c.divisor-divisor.result)) b) (sym (den c)) (lowest c).0)

pub returns-clause-same : goal.returns-clause-same
returns-clause-same c = ap₂ ratio (num c) (den c) ∙ (lowest c).1
