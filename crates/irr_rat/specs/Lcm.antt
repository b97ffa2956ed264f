-- Least common multiples.
--   IsLcm a b m     m is the least common multiple of a and b
use Rattle.std.specs.Prelude.{ℕ}
use Rattle.std.specs.Int.{◌∣◌}

-- both divide m, and m divides each number that both divide
abbrev pub IsLcm : ℕ → ℕ → ℕ → Type 0
IsLcm a b m = (a ∣ m) × (b ∣ m) × ((d : ℕ) → a ∣ d → b ∣ d → m ∣ d)
