-- Bytes that are told or not told: those that a source has left, and those that a sink holds.
--   IsEmptied left             no byte is left, where that is told
--   LosesFront old new piece   the bytes lost piece, at their front
--   LosesAll old new bytes     the bytes were these, and none is left
--   Grows old new piece        the bytes gained piece, at their end
-- In each of the last three the bytes are told or not told as before.
use Rattle.std.specs.Prelude.{◌≡◌, ℕ, List, [], ◌++◌, ⊤, Option, None, Some}

-- no byte is left, where that is told
abbrev pub IsEmptied : Option (List ℕ) → Type 0
IsEmptied None = ⊤
IsEmptied (Some left) = left ≡ []

-- what was there is piece, and then what is there now
abbrev pub LosesFront : Option (List ℕ) → Option (List ℕ) → List ℕ → Type 0
LosesFront None None piece = ⊤
LosesFront (Some old) (Some new) piece = old ≡ piece ++ new
LosesFront _ _ piece = ⊥

-- what was there is bytes, and nothing is there now
abbrev pub LosesAll : Option (List ℕ) → Option (List ℕ) → List ℕ → Type 0
LosesAll None None bytes = ⊤
LosesAll (Some old) (Some new) bytes = (bytes ≡ old) × (new ≡ [])
LosesAll _ _ bytes = ⊥

-- what is there now is what was there, and then piece
abbrev pub Grows : Option (List ℕ) → Option (List ℕ) → List ℕ → Type 0
Grows None None piece = ⊤
Grows (Some old) (Some new) piece = new ≡ old ++ piece
Grows _ _ piece = ⊥
