-- The table of a site group in the program.
--   IsPlaceProduct group xs a b x     the rotation of the number at x is the product of those at a and b
use Rattle.std.specs.Prelude.{ℕ, ◌<◌, List, length, slice_index}
use Rattle.irr_close.specs.declared.group.Group.{Group}
use Rattle.irr_site.specs.Products.{IsRotationProduct}

abbrev pub IsPlaceProduct : Group → List ℕ → ℕ → ℕ → ℕ → Type 0
IsPlaceProduct group xs a b x = (x < length xs)
    × IsRotationProduct group (slice_index xs a) (slice_index xs b) (slice_index xs x)
