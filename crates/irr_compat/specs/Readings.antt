-- Rows read at the first point of a line.
--   AreTurnedBy n ts f g     g(a) is z^x f(b), for the place b and the exponent x of the turn with the number a
use Rattle.std.specs.Prelude.{ℕ, ◌≡◌, List, length, slice_index_or}
use Rattle.irr_algebra.specs.Fin.{Fin, to_nat}
use Rattle.irr_number.specs.Number.{Number, numbers, root_power}
use Rattle.irr_compat.specs.declared.turns.Turn.{Turn}

pub record AreTurnedBy (n : ℕ) (ts : List Turn) {h m : ℕ} (f : Fin h → Number n) (g : Fin m → Number n) : Type 0 where
  pub count : length ts ≡ m
  pub is : (a : Fin m) (b : Fin h) (t : Turn) → to_nat b ≡ (slice_index_or ts (to_nat a) t).place
      → g a ≡ (numbers n).mul (root_power n (slice_index_or ts (to_nat a) t).exponent) (f b)
