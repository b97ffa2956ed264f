-- Rotations of determinant 1 or -1 have inverses.
--   are_invertible    those of a list
use Rattle.std.proofs.Common.{◌≡◌, refl, unsigned_abs}
use Rattle.std.specs.Prelude.{List, get_or}
use Rattle.std.specs.List.{All}
use Rattle.irr_seitz.specs.declared.op.Op.{Op}
use Rattle.irr_seitz.specs.OperationMeaning.{operation}
use Rattle.irr_seitz.specs.Rotation.{determinant}
use Rattle.irr_seitz.proofs.Adjugate.{adjoint, mul-adjoint}
use Rattle.irr_close.specs.Centring.{AreInvertible}

pub are_invertible : (gs : List Op) → All (λ s. unsigned_abs (determinant (operation s).rotation) ≡ 1) gs → AreInvertible gs
are_invertible gs h k d l = let R = (operation (get_or gs k d)).rotation in (adjoint (determinant R) R, mul-adjoint (determinant R) R refl (h k d l))
