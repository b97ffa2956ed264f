-- The operations so far.
use Rattle.std.proofs.Common.{ℕ, ◌≡◌, ◌<◌, length, get_or, slice_index}
use Rattle.irr_rat.specs.VectorMeaning.{vector}
use Rattle.irr_seitz.specs.OperationMeaning.{operation}
use Rattle.irr_seitz.specs.declared.op.Op.{Op}
use Rattle.irr_site.specs.Points.{fixing}
use Rattle.irr_site.proofs.operations.site_ops.Given as goal

abbrev pub invariant-loop-place : goal.invariant-loop-place
invariant-loop-place l = (length l.fixing.items ≡ l.place-index)
    × ((i : ℕ) (d : Op) → i < l.place-index
    → operation (get_or l.fixing.items i d) ≡ fixing (operation (get_or l.group.ops.items (slice_index l.places i) d)) (vector l.x))
