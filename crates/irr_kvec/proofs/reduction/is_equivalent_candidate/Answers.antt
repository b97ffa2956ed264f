use Rattle.std.proofs.Common.{◌∙◌, ap, subst, ℤ, List, ◌↔◌, IsTrue, arith}
use Rattle.irr_algebra.specs.Matrix.{◌⊖◌}
use Rattle.irr_space.specs.Operation.{WaveVector}
use Rattle.irr_space.specs.Reciprocal.{IsReciprocal}
use Rattle.irr_kvec.specs.WaveMeaning.{wave_of}
use Rattle.irr_kvec.specs.Centrings.{LatticeOf}
use Rattle.irr_kvec.proofs.Membership.{wave_of-differences}
use Rattle.irr_kvec.proofs.reduction.is_equivalent_candidate.Goals as goal

pub returns : goal.returns
returns c = subst (λ (k : WaveVector). IsTrue c.is_reciprocal.result ↔ IsReciprocal (LatticeOf c.args.centrings.now) k)
    (wave_of-differences c.candidate.result c.args.cells.now c.differences.result 1 (omega arith) c.differences.ensures.value
    ∙ ap (λ (v : List ℤ). wave_of v 1 ⊖ wave_of c.args.cells.now 1) c.candidate.ensures.value)
    c.is_reciprocal.ensures
