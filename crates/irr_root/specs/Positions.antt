-- Where places stand in a list of places.
--   IsDistinct members               no place stands twice in the list
--   ArePositionsIn members h ps      for each place below h a position in the list: its own, if it is one of them
use Rattle.std.specs.Prelude.{ℕ, ◌≡◌, ◌<◌, List, length, slice_index, All}

-- each place once
abbrev pub IsDistinct : List ℕ → Type 0
IsDistinct members = (a b : ℕ) → a < length members → b < length members → slice_index members a ≡ slice_index members b → a ≡ b

-- the k-th member stands at k
pub record ArePositionsIn (members : List ℕ) (h : ℕ) (positions : List ℕ) : Type 0 where
  pub count : length positions ≡ h
  pub within : All (λ k. k < length members) positions
  pub placed : (k : ℕ) → k < length members → slice_index members k < h → slice_index positions (slice_index members k) ≡ k
