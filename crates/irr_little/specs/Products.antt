-- Products of canonical operations.
--   IsProduct group i j l t     g_i g_j = (1|t) g_l, for the canonical operations with these numbers
use Rattle.std.specs.Prelude.{ℕ, ◌≡◌, ◌<◌, length, slice_index_or}
use Rattle.irr_space.specs.Operation.{Vector, ◌⊙◌, translation}
use Rattle.irr_seitz.specs.OperationMeaning.{operation}
use Rattle.irr_seitz.specs.declared.op.Op.{Op}
use Rattle.irr_close.specs.declared.group.Group.{Group}

pub record IsProduct (group : Group) (i j l : ℕ) (t : Vector) : Type 0 where
  pub below : l < length group.ops.items
  pub is : (d : Op) → operation (slice_index_or group.ops.items i d) ⊙ operation (slice_index_or group.ops.items j d)
      ≡ translation t ⊙ operation (slice_index_or group.ops.items l d)
