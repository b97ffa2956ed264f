-- The traces so far.
use Rattle.std.proofs.Common.{get_or}
use Rattle.irr_seitz.specs.declared.op.Op.{Op}
use Rattle.irr_side.specs.ArmTraces.{AreEach}
use Rattle.irr_subduce.specs.PartTraces.{IsPartTrace}
use Rattle.irr_subduce.proofs.rows.part_row.Given as goal

abbrev pub invariant-loop-op : goal.invariant-loop-op
invariant-loop-op g l = AreEach (λ p (x : g.row.S.Denot). (o : Op) → IsPartTrace {V = g.S.Scalar} l.order.n l.full l.arms (get_or l.ops p o) x)
    l.op-index l.row.items
