-- Rows of three whole numbers.
--   IsSameRow a b      the three numbers are the same
--   IsSmallRow a       none is above 9 in absolute value
use Rattle.std.specs.Prelude.{ℤ, pos, List, ◌≡◌, ◌≤◌, slice_index_or, unsigned_abs}

abbrev pub IsSameRow : List ℤ → List ℤ → Type 0
IsSameRow a b = (slice_index_or a 0 (pos 0) ≡ slice_index_or b 0 (pos 0)) × (slice_index_or a 1 (pos 0) ≡ slice_index_or b 1 (pos 0))
    × (slice_index_or a 2 (pos 0) ≡ slice_index_or b 2 (pos 0))

abbrev pub IsSmallRow : List ℤ → Type 0
IsSmallRow a = (unsigned_abs (slice_index_or a 0 (pos 0)) ≤ 9) × (unsigned_abs (slice_index_or a 1 (pos 0)) ≤ 9)
    × (unsigned_abs (slice_index_or a 2 (pos 0)) ≤ 9)
