-- The exponent of rotations.
--   HaveSmallPowers ops     no entry of a power of a rotation is above 9
--   Return ops n            the n-th power of each rotation is the unit
--   IsLeastReturn ops n     n is the least positive number for which they return
use Rattle.std.specs.Prelude.{ℕ, ◌≡◌, ◌<◌, ◌≤◌, List}
use Rattle.std.specs.List.{All}
use Rattle.irr_algebra.specs.Matrix.{unit}
use Rattle.irr_number.specs.Integers.{integers}
use Rattle.irr_theory.specs.Extension.{matrix_power}
use Rattle.irr_seitz.specs.Rotation.{IsWithin}
use Rattle.irr_seitz.specs.OperationMeaning.{operation}
use Rattle.irr_seitz.specs.declared.op.Op.{Op}

abbrev pub HaveSmallPowers : List Op → Type 0
HaveSmallPowers ops = All (λ g. (k : ℕ) → IsWithin 9 (matrix_power (operation g).rotation k)) ops

abbrev pub Return : List Op → ℕ → Type 0
Return ops n = All (λ g. matrix_power (operation g).rotation n ≡ unit integers 3) ops

pub record IsLeastReturn (ops : List Op) (n : ℕ) : Type 0 where
  pub positive : 0 < n
  pub power : Return ops n
  pub least : (k : ℕ) → 0 < k → Return ops k → n ≤ k
