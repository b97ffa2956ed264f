-- The numbers so far.
use Rattle.std.proofs.Common.{get_or, ℕ}
use Rattle.irr_seitz.specs.OperationMeaning.{operation}
use Rattle.irr_seitz.specs.declared.op.Op.{Op}
use Rattle.irr_side.specs.ArmTraces.{AreEach}
use Rattle.irr_power.specs.Targets.{IsTarget}
use Rattle.irr_power.proofs.targets.target_row.Given as goal

abbrev pub invariant-loop-op : goal.invariant-loop-op
invariant-loop-op g l = AreEach (λ p (n : ℕ). (o : Op) → IsTarget {V = g.S.Scalar} l.full l.arm (operation (get_or l.ops p o)) n)
    l.op-index l.row.items
