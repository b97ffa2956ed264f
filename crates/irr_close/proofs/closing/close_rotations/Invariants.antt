-- The operations before the next one have their products in the list.
use Rattle.std.proofs.Common.{ℕ, ◌<◌, ◌≤◌, ◌-◌, length}
use Rattle.std.specs.List.{HoldsAt}
use Rattle.irr_seitz.specs.OperationMeaning.{operation}
use Rattle.irr_close.specs.Closing.{HasProducts, IsPartial}
use Rattle.irr_close.proofs.closing.close_rotations.Given as goal

abbrev pub invariant-loop-i : goal.invariant-loop-i
invariant-loop-i l = record {
  partial : IsPartial l.generators l.ops.items;
  within : l.i ≤ length l.ops.items;
  products : (k : ℕ) → k < l.i → HoldsAt (λ g. HasProducts l.ops.items (operation g).rotation l.generators (length l.generators)) l.ops.items k;
}

abbrev pub decreases-loop-i : goal.decreases-loop-i
decreases-loop-i l = 48 - l.i
