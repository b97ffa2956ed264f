use Rattle.std.proofs.Common.{◌∙◌, ap, ap₂, pos, ◌*ℤ◌}
use Rattle.std.specs.Int.{w128, int_rem_euclid}
use Rattle.std.proofs.lemmas.Int.{to_z-of_z}
use Rattle.irr_space.specs.Reciprocal.{sign_number}
use Rattle.irr_rat.specs.VectorMeaning.{vector}
use Rattle.irr_seitz.specs.PhaseMeaning.{sign_of}
use Rattle.irr_kvec.specs.WaveMeaning.{wave_vector}
use Rattle.irr_little.proofs.Phases.{phase_of_turns}
use Rattle.irr_little.proofs.phase.theta.Goals as goal

pub returns : goal.returns
returns c = phase_of_turns (sign_of c.args.group.now.phase) c.args.n (wave_vector c.args.w.now)
    (vector c.args.v.now) c.turns.result c.signed.result c.remainder.result
    c.requires.positive c.turns.ensures.value
    (c.signed.ensures.value ∙ ap₂ (λ p q. sign_number (sign_of p) *ℤ q) c.phase.ensures (to_z-of_z w128 c.turns.result
    (record { sfits = c.turns.type_inv })))
    (c.remainder.ensures ∙ ap (λ y. int_rem_euclid y (pos c.args.n)) (to_z-of_z w128 c.signed.result (record { sfits = c.signed.type_inv })))
