-- Squares of canonical operations.
--   IsDouble group n x            x is the square of the canonical operation with the number n
--   AreDoubles group ns xs        xs are so for the numbers ns, in order
use Rattle.std.specs.Prelude.{ℕ, ◌≡◌, List, length, slice_index_or}
use Rattle.irr_space.specs.Operation.{◌⊙◌}
use Rattle.irr_seitz.specs.OperationMeaning.{operation}
use Rattle.irr_seitz.specs.declared.op.Op.{Op}
use Rattle.irr_close.specs.declared.group.Group.{Group}
use Rattle.irr_side.specs.ArmTraces.{AreEach}

abbrev pub IsDouble : Group → ℕ → Op → Type 0
IsDouble group n x = (d : Op)
    → operation x ≡ operation (slice_index_or group.ops.items n d) ⊙ operation (slice_index_or group.ops.items n d)

abbrev pub AreDoubles : Group → List ℕ → List Op → Type 0
AreDoubles group ns xs = AreEach (λ p (x : Op). (n : ℕ) → IsDouble group (slice_index_or ns p n) x) (length ns) xs
