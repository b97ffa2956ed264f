-- Lists of equally spaced numbers.
--   AreRepeated first step times es   the numbers first, first + step, .. in this order, each as often as `times` says
use Rattle.std.specs.Prelude.{ℕ, ◌≡◌, ◌<◌, ◌+◌, ◌*◌, List, length, slice_index, All}
use Rattle.std.specs.List.Sorted.{IsNonDecreasing}
use Rattle.irr_canonical.specs.Coefficient.{total_below}
use Rattle.irr_extension.specs.Exponents.{times_in}

pub record AreRepeated (first step : ℕ) (times es : List ℕ) : Type 0 where
  pub each : All (λ e. (a : ℕ) × (a < length times) × (e ≡ first + a * step)) es
  pub increasing : IsNonDecreasing es
  pub often : (a : ℕ) → a < length times → times_in (first + a * step) es ≡ slice_index times a
  pub count : length es ≡ total_below (length times) (slice_index times)
