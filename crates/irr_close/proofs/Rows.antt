-- Rotations from their rows.
--   same_rows, rows_same      the same rows make the same rotation, and the other way round
--   small_rows, rows_small    small rows make a rotation with small entries, and the other way round
use Rattle.std.proofs.Common.{◌≡◌, ap, List, [], get_or, ℤ, ◌≤◌, unsigned_abs}
use Rattle.irr_algebra.specs.Fin.{Fin, to_nat}
use Rattle.irr_algebra.specs.Fin.Fin.{first, next}
use Rattle.irr_algebra.proofs.Matrices.{matrix-ext}
use Rattle.irr_space.specs.Operation.{Rotation}
use Rattle.irr_rat.proofs.Vectors.{each_of_three}
use Rattle.irr_seitz.specs.Rotation.{rotation_of, IsWithin}
use Rattle.irr_close.specs.Rows.{IsSameRow, IsSmallRow}

pub rows_same : (a b : List (List ℤ)) → IsSameRow (get_or a 0 []) (get_or b 0 []) → IsSameRow (get_or a 1 []) (get_or b 1 [])
    → IsSameRow (get_or a 2 []) (get_or b 2 []) → rotation_of a ≡ rotation_of b
unfolding rotation_of to_nat
rows_same a b x y z = matrix-ext (each_of_three (λ i. (j : Fin 3) → (rotation_of a).at i j ≡ (rotation_of b).at i j)
    (each_of_three (λ j. (rotation_of a).at first j ≡ (rotation_of b).at first j) x.0 x.1 x.2)
    (each_of_three (λ j. (rotation_of a).at (next first) j ≡ (rotation_of b).at (next first) j) y.0 y.1 y.2)
    (each_of_three (λ j. (rotation_of a).at (next (next first)) j ≡ (rotation_of b).at (next (next first)) j) z.0 z.1 z.2))

pub same_rows : (a b : List (List ℤ)) → rotation_of a ≡ rotation_of b → IsSameRow (get_or a 0 []) (get_or b 0 [])
    × IsSameRow (get_or a 1 []) (get_or b 1 []) × IsSameRow (get_or a 2 []) (get_or b 2 [])
unfolding rotation_of to_nat
same_rows a b e = (row first, row (next first), row (next (next first)))
  where
    row : (i : Fin 3) → IsSameRow (get_or a (to_nat i) []) (get_or b (to_nat i) [])
    row i = (ap (λ (R : Rotation). R.at i first) e, ap (λ (R : Rotation). R.at i (next first)) e, ap (λ (R : Rotation). R.at i (next (next first))) e)

pub rows_small : (a : List (List ℤ)) → IsSmallRow (get_or a 0 []) → IsSmallRow (get_or a 1 []) → IsSmallRow (get_or a 2 [])
    → IsWithin 9 (rotation_of a)
unfolding rotation_of to_nat
rows_small a x y z = each_of_three (λ i. (j : Fin 3) → unsigned_abs ((rotation_of a).at i j) ≤ 9)
    (each_of_three (λ j. unsigned_abs ((rotation_of a).at first j) ≤ 9) x.0 x.1 x.2)
    (each_of_three (λ j. unsigned_abs ((rotation_of a).at (next first) j) ≤ 9) y.0 y.1 y.2)
    (each_of_three (λ j. unsigned_abs ((rotation_of a).at (next (next first)) j) ≤ 9) z.0 z.1 z.2)

pub small_rows : (a : List (List ℤ)) → IsWithin 9 (rotation_of a) → IsSmallRow (get_or a 0 []) × IsSmallRow (get_or a 1 [])
    × IsSmallRow (get_or a 2 [])
unfolding rotation_of to_nat
small_rows a h = (row first, row (next first), row (next (next first)))
  where
    row : (i : Fin 3) → IsSmallRow (get_or a (to_nat i) [])
    row i = (h i first, h i (next first), h i (next (next first)))
