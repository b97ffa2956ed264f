use Rattle.std.proofs.Common.{◌≡◌, sym, ◌∙◌, ap, ap₂, subst, ℤ, pos, ◌*ℤ◌, to_z, of_z}
use Rattle.std.specs.Int.{w128, int_rem_euclid}
use Rattle.std.proofs.lemmas.Int.{to_z-of_z}
use Rattle.irr_algebra.specs.Matrix.{◌⊖◌}
use Rattle.irr_rational.specs.Rational.{rationals, ratio, IsWhole}
use Rattle.irr_space.specs.Reciprocal.{sign_number}
use Rattle.irr_rat.specs.VectorMeaning.{vector}
use Rattle.irr_seitz.specs.PhaseMeaning.{sign_of}
use Rattle.irr_kvec.specs.WaveMeaning.{wave_vector}
use Rattle.irr_little.proofs.Phases.{phase_of_turns}
use Rattle.irr_little.proofs.StepNumbers.{turns_of_step}
use Rattle.irr_little.proofs.steps.step_phase.Goals as goal

pub quotient-turns-requires-clause-whole : goal.quotient-turns-requires-clause-whole
quotient-turns-requires-clause-whole c = subst IsWhole (sym (ap₂ ratio (to_z-of_z w128 c.product.result (record { sfits = c.product.type_inv })) c.from.ensures
    ∙ turns_of_step c.args.n (wave_vector c.args.first.now ⊖ wave_vector c.args.point.now) c.whole_step-step.result c.args.v.now.num c.args.v.now.den c.product.result
    c.args.v.now.lowest.positive c.whole_step-step.ensures.value c.product.ensures.value)) c.requires.whole

pub returns : goal.returns
returns c = phase_of_turns (sign_of c.args.group.now.phase) c.args.n (wave_vector c.args.first.now ⊖ wave_vector c.args.point.now)
    (vector c.args.v.now) c.quotient-turns.result c.signed.result c.remainder.result
    c.requires.positive
    (sym (c.quotient-turns.ensures.value
    ∙ ap₂ ratio (to_z-of_z w128 c.product.result (record { sfits = c.product.type_inv })) c.from.ensures
    ∙ turns_of_step c.args.n (wave_vector c.args.first.now ⊖ wave_vector c.args.point.now) c.whole_step-step.result c.args.v.now.num c.args.v.now.den c.product.result
    c.args.v.now.lowest.positive c.whole_step-step.ensures.value c.product.ensures.value))
    (c.signed.ensures.value ∙ ap₂ (λ p q. sign_number (sign_of p) *ℤ q) c.phase.ensures (to_z-of_z w128 c.quotient-turns.result
    (record { sfits = c.quotient-turns.type_inv })))
    (c.remainder.ensures ∙ ap (λ y. int_rem_euclid y (pos c.args.n)) (to_z-of_z w128 c.signed.result (record { sfits = c.signed.type_inv })))
