-- The order is admitted; and the table has steps, so no subgroup is without one.
use Rattle.irr_rep.specs.Twisted.{phase_table}
use Rattle.irr_side.proofs.sides.small_list.Goals as goal

pub small_reps-requires : goal.small_reps-requires
small_reps-requires g c = g.met.S.Lift.admits_each (phase_table c.args.t.now).order (phase_table c.args.t.now).order_positive c.requires.within

pub unreachable-requires : goal.unreachable-requires
unreachable-requires g c = let e = rw c.in-Err-Unchained.field-0-is at c.in-Err-Unchained.ensures.complete c.requires.steps in cc
