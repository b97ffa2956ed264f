-- What holds of each operation of a made input, so that products stay small.
--   row_size R i      the sum of the absolute values of a row
--   IsSigned g        each row has at most one entry that is not 0, of size 1; the vector is in the unit cell, in quarters
use Rattle.std.specs.Prelude.{ℕ, ◌+◌, ◌≤◌, unsigned_abs}
use Rattle.std.specs.Int.{◌∣◌}
use Rattle.irr_algebra.specs.Fin.{Fin}
use Rattle.irr_algebra.specs.Fin.Fin.{first, next}
use Rattle.irr_space.specs.Operation.{Rotation}
use Rattle.irr_space.specs.CanonicalOperation.{IsInCell}
use Rattle.irr_seitz.specs.OperationMeaning.{operation}
use Rattle.irr_seitz.specs.declared.op.Op.{Op}

abbrev pub row_size : Rotation → Fin 3 → ℕ
row_size R i = (unsigned_abs (R.at i first) + unsigned_abs (R.at i (next first))) + unsigned_abs (R.at i (next (next first)))

pub record IsSigned (g : Op) : Type 0 where
  pub rows : (i : Fin 3) → row_size (operation g).rotation i ≤ 1
  pub in_cell : IsInCell (operation g).vector
  pub quarters : g.den ∣ 4
