-- The sum in lowest terms is reduced as the centrings say.
use Rattle.std.proofs.Common.{sym, subst}
use Rattle.irr_space.specs.Operation.{WaveVector}
use Rattle.irr_space.specs.Reciprocal.{IsReduced, AreEquivalent}
use Rattle.irr_kvec.specs.WaveMeaning.{wave_of, wave_vector}
use Rattle.irr_kvec.specs.Centrings.{LatticeOf, IsCentringList}
use Rattle.irr_kvec.proofs.GroupLattices.{reduced_in_group}
use Rattle.irr_close.specs.StandsFor.{stands_for}
use Rattle.irr_close.proofs.SpaceGroups.{space_group}
use Rattle.irr_little.proofs.Spaces.{centrings_of}
use Rattle.irr_little.proofs.Stars.{reduced_arm}
use Rattle.irr_product.proofs.WaveSums.{lowest_limits, lowest_is_sum}
use Rattle.irr_product.proofs.sums.sum.Goals as goal

pub reduced-requires-clause-centrings : goal.reduced-requires-clause-centrings
reduced-requires-clause-centrings c = subst IsCentringList (sym c.centrings.ensures.list) (space_group c.args.group.now).centrings

pub reduced-requires-clause-limits : goal.reduced-requires-clause-limits
reduced-requires-clause-limits c =
    let l = lowest_limits c.args.n c.requires.positive c.numerators.result c.new-vector.result c.new-vector.ensures
    c.requires.within c.numerators.ensures.small in
    record { numerators = l.0; denominator = l.1 }

pub returns : goal.returns
returns c =
    let group = c.args.group.now in
    let sum = wave_of c.new-vector.result.num c.new-vector.result.den in
    let red : IsReduced (stands_for group) sum (wave_vector c.reduced.result)
    = reduced_in_group (stands_for group) group.centrings.items (centrings_of group) sum (wave_vector c.reduced.result)
    (subst (λ cs. IsReduced (LatticeOf cs) sum (wave_vector c.reduced.result)) c.centrings.ensures.list
    c.reduced.ensures.reduced) in record {
      reduced = reduced_arm (stands_for group) sum (wave_vector c.reduced.result) red;
      equivalent = subst (λ (w : WaveVector). AreEquivalent (stands_for group) (wave_vector c.reduced.result) w)
          (lowest_is_sum c.args.n c.requires.positive c.numerators.result c.new-vector.result c.new-vector.ensures
          c.args.a.now c.args.b.now c.requires.first.divides c.requires.second.divides c.numerators.ensures.value)
          red.equivalent;
      limits = c.reduced.ensures.limits;
    }
