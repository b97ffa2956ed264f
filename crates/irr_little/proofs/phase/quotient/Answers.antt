use Rattle.std.proofs.Common.{◌^◌, ◌∙◌, ap, ℤ, pos, to_z, of_z}
use Rattle.std.specs.Int.{w128, int_div_euclid}
use Rattle.std.proofs.lemmas.Int.{to_z-of_z}
use Rattle.irr_rational.specs.Integer.{integer}
use Rattle.irr_rational.specs.Rational.{rationals}
use Rattle.irr_little.proofs.Phases.{exact_quotient, quotient_small}
use Rattle.irr_little.proofs.phase.quotient.Goals as goal

pub returns-clause-value : goal.returns-clause-value
returns-clause-value c = ap (integer rationals) (to_z-of_z w128 c.divided.result (record { sfits = c.divided.type_inv }) ∙ c.divided.ensures
    ∙ ap (λ (z : ℤ). int_div_euclid z (pos c.args.den)) (to_z-of_z w128 c.args.number c.ranges.number))
    ∙ exact_quotient c.args.number c.args.den c.requires.positive c.requires.whole

pub returns-clause-small : goal.returns-clause-small
returns-clause-small c = quotient_small c.args.number (to_z w128 (of_z w128 c.divided.result)) c.args.den (2 ^ 120) c.requires.positive
    (ap (integer rationals) (to_z-of_z w128 c.divided.result (record { sfits = c.divided.type_inv }) ∙ c.divided.ensures
    ∙ ap (λ (z : ℤ). int_div_euclid z (pos c.args.den)) (to_z-of_z w128 c.args.number c.ranges.number))
    ∙ exact_quotient c.args.number c.args.den c.requires.positive c.requires.whole) c.requires.small
