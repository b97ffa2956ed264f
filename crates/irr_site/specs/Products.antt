-- The numbers of the products of the rotations of a group.
--   rotation_at group i d         the rotation of the canonical operation with the number i, where d stands past the end
--   IsRotationProduct group i j l   that of the number l is the product of those of i and j
--   AreProducts group xs          xs are the numbers of all products, row by row
use Rattle.std.specs.Prelude.{ℕ, ◌≡◌, ◌<◌, ◌*◌, List, length, slice_index_or}
use Rattle.irr_algebra.specs.Matrix.{◌·◌}
use Rattle.irr_space.specs.Operation.{Rotation}
use Rattle.irr_seitz.specs.OperationMeaning.{operation}
use Rattle.irr_seitz.specs.declared.op.Op.{Op}
use Rattle.irr_rep.specs.Table.{AreEntries}
use Rattle.irr_close.specs.declared.group.Group.{Group}

abbrev pub rotation_at : Group → ℕ → Op → Rotation
rotation_at group i d = (operation (slice_index_or group.ops.items i d)).rotation

pub record IsRotationProduct (group : Group) (i j l : ℕ) : Type 0 where
  pub below : l < length group.ops.items
  pub is : (d : Op) → rotation_at group l d ≡ rotation_at group i d · rotation_at group j d

pub record AreProducts (group : Group) (xs : List ℕ) : Type 0 where
  pub count : length xs ≡ length group.ops.items * length group.ops.items
  pub entries : AreEntries (length group.ops.items) (IsRotationProduct group) xs
