-- A numerator and a denominator over their greatest common divisor are in lowest terms.
use Rattle.std.proofs.Common.{◌≡◌, ◌∙◌, ◌/◌, ap, sym, subst, pos, unsigned_abs, to_z, of_z, rules}
use mir.Val.{SFits}
use Rattle.std.specs.Int.{IsGcd, w128}
use Rattle.std.specs.Int.RustNames.{int_div}
use Rattle.std.proofs.lemmas.Int.{to_z-of_z}
use Rattle.irr_rational.specs.Rational.{ratio}
use Rattle.irr_rational.specs.Ratio.{IsLowest}
use Rattle.irr_rational.proofs.LowestTerms.{lowest_quotients}
use Rattle.irr_numeral.proofs.print.SignedFraction.new.Goals as goal

module _ (c : goal.After-quotient) where
  fits : SFits w128 c.quotient.result
  fits = search rules

  num : to_z w128 (of_z w128 c.quotient.result) ≡ int_div c.args.num (pos c.divisor-divisor.result)
  num = to_z-of_z w128 c.quotient.result fits ∙ c.quotient.ensures ∙ ap (λ z. int_div z (pos c.divisor-divisor.result)) (to_z-of_z w128 c.args.num c.ranges.num)

  lowest : IsLowest (int_div c.args.num (pos c.divisor-divisor.result)) (c.args.den / c.divisor-divisor.result) × (ratio (int_div c.args.num (pos c.divisor-divisor.result)) (c.args.den / c.divisor-divisor.result) ≡ ratio c.args.num c.args.den)
  lowest = lowest_quotients c.args.num c.args.den c.divisor-divisor.result c.requires
      (subst (λ a. IsGcd (unsigned_abs a) c.args.den c.divisor-divisor.result) (to_z-of_z w128 c.args.num c.ranges.num) c.divisor-divisor.ensures.greatest)

pub returns-clause-lowest : goal.returns-clause-lowest
returns-clause-lowest c = subst (λ a. IsLowest a (c.args.den / c.divisor-divisor.result)) (sym (num c)) (lowest c).0

pub returns-clause-same : goal.returns-clause-same
returns-clause-same c = ap (λ a. ratio a (c.args.den / c.divisor-divisor.result)) (num c) ∙ (lowest c).1
