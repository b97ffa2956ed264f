-- The order of a wave vector.
use Rattle.std.proofs.Common.{sym, ap₂, subst, ◌*◌}
use Rattle.irr_space.specs.Reciprocal.{IsPeriod}
use Rattle.irr_kvec.specs.WaveMeaning.{wave_vector}
use Rattle.irr_kvec.specs.Centrings.{LatticeOf, IsCentringList}
use Rattle.irr_kvec.proofs.GroupLattices.{period_in_group}
use Rattle.irr_close.specs.StandsFor.{stands_for}
use Rattle.irr_little.proofs.Spaces.{centrings_of}
use Rattle.irr_close.proofs.SpaceGroups.{space_group}
use Rattle.irr_subduce.proofs.orders.own_order.Goals as goal

pub period-requires-clause-centrings : goal.period-requires-clause-centrings
period-requires-clause-centrings c = subst IsCentringList (sym c.centrings.ensures.list) (space_group c.args.group.now).centrings

pub returns : goal.returns
returns c = record {
  exponent = c.exponent.result;
  period = c.period.result;
  is_exponent = c.exponent.ensures.exponent;
  is_period = period_in_group (stands_for c.args.group.now) c.args.group.now.centrings.items (centrings_of c.args.group.now)
      (wave_vector c.args.k.now) c.period.result
      (subst (λ cs. IsPeriod (LatticeOf cs) (wave_vector c.args.k.now) c.period.result) c.centrings.ensures.list c.period.ensures);
  is_product = ap₂ ◌*◌ c.from.ensures c.from-2.ensures;
}
