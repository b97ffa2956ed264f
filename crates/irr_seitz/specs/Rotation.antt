-- Rotations as a program keeps them, nine whole numbers row by row.
--   rotation_of rot      the matrix
--   IsWithin b R         each entry of R is at most b in absolute value
--   determinant R        the determinant, by the rule of Sarrus
use Rattle.std.specs.Prelude.{ℕ, ℤ, pos, List, [], ◌≤◌, ◌+ℤ◌, ◌-ℤ◌, ◌*ℤ◌, slice_index_or, unsigned_abs}
use Rattle.irr_algebra.specs.Fin.{Fin, to_nat}
use Rattle.irr_algebra.specs.Fin.Fin.{first, next}
use Rattle.irr_space.specs.Operation.{Rotation}

unfoldable pub rotation_of : List (List ℤ) → Rotation
rotation_of rot = record { at = λ i j. slice_index_or (slice_index_or rot (to_nat i) []) (to_nat j) (pos 0) }

abbrev pub IsWithin : ℕ → Rotation → Type 0
IsWithin b R = (i j : Fin 3) → unsigned_abs (R.at i j) ≤ b

-- x y z and u v w and p q r are the rows
abbrev pub signed_sum : (x y z u v w p q r : ℤ) → ℤ
signed_sum x y z u v w p q r = ((((x *ℤ v) *ℤ r) +ℤ ((y *ℤ w) *ℤ p)) +ℤ ((z *ℤ u) *ℤ q)) -ℤ ((((z *ℤ v) *ℤ p) +ℤ ((y *ℤ u) *ℤ r)) +ℤ ((x *ℤ w) *ℤ q))

unfoldable pub determinant : Rotation → ℤ
determinant R = signed_sum
    (R.at first first) (R.at first (next first)) (R.at first (next (next first)))
    (R.at (next first) first) (R.at (next first) (next first)) (R.at (next first) (next (next first)))
    (R.at (next (next first)) first) (R.at (next (next first)) (next first)) (R.at (next (next first)) (next (next first)))
