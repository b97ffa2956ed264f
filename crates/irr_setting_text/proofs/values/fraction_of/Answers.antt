use Rattle.std.proofs.Common.{◌∙◌, ap, ℤ, arith}
use Rattle.std.specs.Int.{w64}
use Rattle.std.proofs.lemmas.Int.{to_z-of_z, fits_signed_from_abs}
use Rattle.irr_rational.specs.Rational.{ratio}
use Rattle.irr_token.specs.Reading.{written_quotient}
use Rattle.irr_setting_text.proofs.LeastDenominators.{small_fraction}
use Rattle.irr_setting_text.proofs.values.fraction_of.Goals as goal

pub returns : goal.returns
returns c =
    let v = c.value_of_quotient-value.result in
    let small = c.value_of_quotient-value.ensures.num in
    let value = c.new.ensures.same ∙ ap (λ (n : ℤ). ratio n v.den) (to_z-of_z w64 v.num (fits_signed_from_abs w64 v.num (omega (arith, small)))) ∙ c.value_of_quotient-value.ensures.value in
    let s = small_fraction c.args.limit c.new.result.num c.new.result.den (written_quotient c.args.quotient.now) c.requires.limit.0 c.requires.not_zero c.requires.within
    c.new.ensures.lowest value in
    record { lowest = c.new.ensures.lowest; value = value; small = s.0; within = s.1 }
