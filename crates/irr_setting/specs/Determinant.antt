-- Determinants and cofactors of three rows.
--   determinant_in R m     the determinant of a matrix over a ring, by the rule of Sarrus
--   after i                the index after i, counted round
--   cofactor m i j         the cofactor of an entry
--   adjugate m             the cofactors, rows and columns exchanged
--   row_dot x y            the product of a row and a column of three whole numbers
--   cross_at x y j k       an entry of the vector product of two rows
--   column_dot x m j       the product of a row and a column of a matrix
use Rattle.std.specs.Prelude.{ℕ, ℤ, pos, List, [], ◌+ℤ◌, ◌-ℤ◌, ◌*ℤ◌, slice_index_or}
use Rattle.irr_algebra.specs.Fin.{Fin}
use Rattle.irr_algebra.specs.Fin.Fin.{first, next}
use Rattle.irr_algebra.specs.Ring.{Ring}
use Rattle.irr_algebra.specs.Matrix.{Matrix}
use Rattle.irr_space.specs.Operation.{Rotation}

-- the product of an entry of each row
abbrev pub triple : (R : Ring) → Matrix R 3 3 → Fin 3 → Fin 3 → Fin 3 → R.Carrier
triple R m i j k = R.mul (R.mul (m.at first i) (m.at (next first) j)) (m.at (next (next first)) k)

unfoldable pub determinant_in : (R : Ring) → Matrix R 3 3 → R.Carrier
determinant_in R m = R.add
    (R.add (R.add (triple R m first (next first) (next (next first))) (triple R m (next first) (next (next first)) first)) (triple R m (next (next first)) first (next first)))
    (R.neg (R.add (R.add (triple R m (next (next first)) (next first) first) (triple R m (next first) first (next (next first)))) (triple R m first (next (next first)) (next first))))

abbrev pub after : Fin 3 → Fin 3
after first = next first
after (next first) = next (next first)
after (next (next first)) = first
after (next (next (next i))) = first

abbrev pub cofactor : Rotation → Fin 3 → Fin 3 → ℤ
cofactor m i j = (m.at (after i) (after j) *ℤ m.at (after (after i)) (after (after j))) -ℤ (m.at (after i) (after (after j)) *ℤ m.at (after (after i)) (after j))

unfoldable pub adjugate : Rotation → Rotation
adjugate m = record { at = λ i j. cofactor m j i }

abbrev pub row_dot : List ℤ → List ℤ → ℤ
row_dot x y = ((slice_index_or x 0 (pos 0) *ℤ slice_index_or y 0 (pos 0)) +ℤ (slice_index_or x 1 (pos 0) *ℤ slice_index_or y 1 (pos 0)))
    +ℤ (slice_index_or x 2 (pos 0) *ℤ slice_index_or y 2 (pos 0))

-- the vector product of two rows
abbrev pub cross_at : List ℤ → List ℤ → ℕ → ℕ → ℤ
cross_at x y j k = (slice_index_or x j (pos 0) *ℤ slice_index_or y k (pos 0)) -ℤ (slice_index_or x k (pos 0) *ℤ slice_index_or y j (pos 0))

abbrev pub column_dot : List ℤ → List (List ℤ) → ℕ → ℤ
column_dot x m j = ((slice_index_or x 0 (pos 0) *ℤ slice_index_or (slice_index_or m 0 []) j (pos 0)) +ℤ (slice_index_or x 1 (pos 0) *ℤ slice_index_or (slice_index_or m 1 []) j (pos 0)))
    +ℤ (slice_index_or x 2 (pos 0) *ℤ slice_index_or (slice_index_or m 2 []) j (pos 0))
