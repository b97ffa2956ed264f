-- The entries of the table of a little group.
--   AreClosed group xs                   xs are at most 48 numbers of operations, and have those of their products
--   IsProductEntry group xs a b x        g_i g_j = (1|t) g_l, for the numbers i, j, l at the positions a, b, x
--   IsPhaseEntry group k n xs a b x      g_i g_j = (1|t) g_l, for the numbers i, j at the positions a, b, and x is the exponent of the phase of t
use Rattle.std.specs.Prelude.{ℕ, ◌<◌, ◌≤◌, List, length, slice_index, Contains}
use Rattle.irr_space.specs.Operation.{Vector, WaveVector}
use Rattle.irr_space.specs.Reciprocal.{IsPhase}
use Rattle.irr_seitz.specs.PhaseMeaning.{sign_of}
use Rattle.irr_rep.specs.declared.table.TheConstants.{PLACES_LIMIT}
use Rattle.irr_close.specs.declared.group.Group.{Group}
use Rattle.irr_little.specs.Products.{IsProduct}

pub record AreClosed (group : Group) (xs : List ℕ) : Type 0 where
  pub few : length xs ≤ PLACES_LIMIT
  pub below : (p : ℕ) → Contains xs p → p < length group.ops.items
  pub products : (i j l : ℕ) (t : Vector) → Contains xs i → Contains xs j → IsProduct group i j l t → Contains xs l

abbrev pub IsProductEntry : Group → List ℕ → ℕ → ℕ → ℕ → Type 0
IsProductEntry group xs a b x = (x < length xs) × ((t : Vector) × IsProduct group (slice_index xs a) (slice_index xs b) (slice_index xs x) t)

abbrev pub IsPhaseEntry : Group → WaveVector → ℕ → List ℕ → ℕ → ℕ → ℕ → Type 0
IsPhaseEntry group k n xs a b x = (l : ℕ) × (t : Vector) × IsProduct group (slice_index xs a) (slice_index xs b) l t
    × IsPhase (sign_of group.phase) n k t x
