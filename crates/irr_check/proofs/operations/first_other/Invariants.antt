-- The operations so far are the same.
use Rattle.std.proofs.Common.{ℕ, ◌<◌}
use Rattle.irr_rep.specs.Twisted.{operation_places}
use Rattle.irr_check.specs.Operations.{AreSameAt}
use Rattle.irr_check.proofs.operations.first_other.Given as goal

abbrev pub invariant-loop-i : goal.invariant-loop-i
invariant-loop-i l = (k : ℕ) → k < l.i → AreSameAt l.group.ops.items (operation_places l.t) l.ops k
