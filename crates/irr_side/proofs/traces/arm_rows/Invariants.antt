-- The rows so far.
use Rattle.std.proofs.Common.{Vec, Global}
use Rattle.irr_side.specs.ArmTraces.{AreEach, IsArmRow}
use Rattle.irr_side.proofs.traces.arm_rows.Given as goal

abbrev pub invariant-loop-arm : goal.invariant-loop-arm
invariant-loop-arm g l = AreEach (λ i (row : Vec g.row.S.Denot Global). IsArmRow {V = g.S.Scalar} l.full i l.ops l.order.n row.items)
    l.arm l.rows.items
