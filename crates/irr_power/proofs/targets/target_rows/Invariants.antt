-- The rows so far.
use Rattle.std.proofs.Common.{Vec, Global, ℕ}
use Rattle.irr_side.specs.ArmTraces.{AreEach}
use Rattle.irr_power.specs.Targets.{IsTargetRow}
use Rattle.irr_power.proofs.targets.target_rows.Given as goal

abbrev pub invariant-loop-arm : goal.invariant-loop-arm
invariant-loop-arm g l = AreEach (λ i (row : Vec ℕ Global). IsTargetRow {V = g.S.Scalar} l.full i l.ops row.items) l.arm l.rows.items
