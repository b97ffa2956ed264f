-- The order of a rotation.
--   IsFiniteOrder R n    n is the least positive number such that the n-th power of R is the unit
use Rattle.std.specs.Prelude.{ℕ, ◌≡◌, ◌<◌}
use Rattle.irr_algebra.specs.Matrix.{unit}
use Rattle.irr_number.specs.Integers.{integers}
use Rattle.irr_theory.specs.Extension.{matrix_power}
use Rattle.irr_space.specs.Operation.{Rotation}

pub record IsFiniteOrder (R : Rotation) (n : ℕ) : Type 0 where
  pub positive : 0 < n
  pub power : matrix_power R n ≡ unit integers 3
  pub least : (k : ℕ) → 0 < k → k < n → ¬ (matrix_power R k ≡ unit integers 3)
