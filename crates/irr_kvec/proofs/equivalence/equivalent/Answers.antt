use Rattle.std.proofs.Common.{◌∙◌, ap, subst, ◌↔◌, IsTrue}
use Rattle.std.proofs.lemmas.Bool.{eqb-true}
use Rattle.irr_algebra.specs.Matrix.{◌⊖◌}
use Rattle.irr_space.specs.Operation.{WaveVector}
use Rattle.irr_space.specs.Reciprocal.{IsReciprocal}
use Rattle.irr_kvec.specs.WaveMeaning.{wave_of}
use Rattle.irr_kvec.specs.Centrings.{LatticeOf}
use Rattle.irr_kvec.proofs.Lattices.{reciprocal_whole}
use Rattle.irr_kvec.proofs.Membership.{same_denominator, wave_of-differences}
use Rattle.irr_kvec.proofs.equivalence.equivalent.Goals as goal

pub returns-then-a-b : goal.returns-then-a-b
returns-then-a-b c = subst (λ (k : WaveVector). IsTrue c.is_reciprocal.result ↔ IsReciprocal (LatticeOf c.args.centrings.now) k)
    (wave_of-differences c.args.a.now.num c.args.b.now.num c.differences.result c.args.a.now.den c.args.a.now.lowest.positive c.differences.ensures.value
    ∙ ap (λ d. wave_of c.args.a.now.num c.args.a.now.den ⊖ wave_of c.args.b.now.num d) c.if-a-b.true)
    c.is_reciprocal.ensures

pub returns-else-a-b : goal.returns-else-a-b
returns-else-a-b c = (
  λ t. absurd (c.if-a-b.false (eqb-true c.args.a.now.den c.args.b.now.den t)),
  λ h. absurd (c.if-a-b.false (same_denominator c.args.a.now.num c.args.b.now.num c.args.a.now.den c.args.b.now.den c.args.a.now.lowest c.args.b.now.lowest
      (reciprocal_whole c.args.centrings.now c.requires.centrings.zero _ h))),
)
