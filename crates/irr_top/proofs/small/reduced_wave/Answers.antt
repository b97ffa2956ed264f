-- The reduced wave vector.
use Rattle.std.proofs.Common.{sym, subst}
use Rattle.irr_space.specs.Reciprocal.{IsReduced}
use Rattle.irr_kvec.specs.WaveMeaning.{wave_vector}
use Rattle.irr_kvec.specs.Centrings.{LatticeOf, IsCentringList}
use Rattle.irr_top.proofs.Groups.{centring_list, reduced_of}
use Rattle.irr_top.proofs.small.reduced_wave.Goals as goal

pub reduced-requires-clause-centrings : goal.reduced-requires-clause-centrings
reduced-requires-clause-centrings c = subst IsCentringList (sym c.centrings.ensures.list)
    (centring_list c.args.group.now c.requires.group.0 c.requires.group.1)

pub reduced-requires-clause-limits : goal.reduced-requires-clause-limits
reduced-requires-clause-limits c = c.requires.limits

pub returns-clause-reduced : goal.returns-clause-reduced
returns-clause-reduced c = λ gens h. reduced_of c.args.group.now gens h (wave_vector c.args.wave.now) (wave_vector c.reduced.result)
    (subst (λ cs. IsReduced (LatticeOf cs) (wave_vector c.args.wave.now) (wave_vector c.reduced.result)) c.centrings.ensures.list
    c.reduced.ensures.reduced)
