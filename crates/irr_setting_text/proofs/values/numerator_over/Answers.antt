use Rattle.std.proofs.Common.{◌∙◌, ap, ℤ, pos, ◌*ℤ◌, ◌/◌, arith}
use Rattle.std.specs.Int.{w64, w128}
use Rattle.std.proofs.lemmas.Int.{to_z-of_z, fits_signed_from_abs}
use Rattle.irr_setting_text.proofs.LeastDenominators.{scaled}
use Rattle.irr_setting_text.proofs.values.numerator_over.Goals as goal

pub returns-clause-value : goal.returns-clause-value
returns-clause-value c =
    let small = c.requires.fraction.1 in
    scaled c.args.fraction.num _ c.args.fraction.den c.args.den c.requires.fraction.0.positive c.requires.positive c.requires.divides
    (to_z-of_z w64 c.multiple.result (record { sfits = c.multiple.type_inv }) ∙ c.multiple.ensures.value
    ∙ ap (λ (n : ℤ). pos (c.args.den / c.args.fraction.den) *ℤ n) (to_z-of_z w128 c.args.fraction.num (fits_signed_from_abs w128 c.args.fraction.num (omega (arith, small)))))
