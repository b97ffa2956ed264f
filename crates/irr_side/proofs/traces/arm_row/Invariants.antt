-- The traces so far.
use Rattle.std.proofs.Common.{get_or}
use Rattle.irr_seitz.specs.OperationMeaning.{operation}
use Rattle.irr_seitz.specs.declared.op.Op.{Op}
use Rattle.irr_side.specs.ArmTraces.{AreEach, IsArmTrace}
use Rattle.irr_side.proofs.traces.arm_row.Given as goal

abbrev pub invariant-loop-op : goal.invariant-loop-op
invariant-loop-op g l = AreEach (λ p (x : g.row.S.Denot). (o : Op) → IsArmTrace {V = g.S.Scalar} l.full l.arm
    (operation (get_or l.ops p o)) l.order.n x) l.op-index l.row.items
