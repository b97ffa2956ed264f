-- Sums of a character over the products x n y n^-1, where places have powers of z beside them.
--   IsTurned T M v place exponent z      z is the place with z^exponent beside it, among the numbers of order M
--   place_or s k                         the place with the number k, and s where there is none
--   listed_value T M v positions f z     the number of z times the number of f at the position that is listed for its place
--   listed_member T members k            the k-th member
--   sandwich_value T M v members positions f x y k    the value at x n y n^-1 for the k-th member n
--   sandwich_sum, sandwich_sums          these values added up, and those at x j (y i y i^-1) j^-1 for all members i and j
use Rattle.std.specs.Prelude.{ℕ, ◌≡◌, ◌<◌, ◌*◌, ◌/◌, List, length, slice_index, slice_index_or}
use Rattle.std.specs.Int.{◌∣◌}
use native.Mathlib.Decide.{dec_lt}
use Rattle.irr_algebra.specs.Fin.{Fin, to_nat}
use Rattle.irr_algebra.specs.Listed.{sum_below}
use Rattle.irr_algebra.proofs.Indices.{from_nat}
use Rattle.irr_number.specs.Number.{Number, numbers, root_power}
use Rattle.irr_theory.specs.Lifted.{Lifted}
use Rattle.irr_space.specs.PhaseTable.{PhaseTable, phases_over}
use Rattle.irr_extension.specs.Product.{sandwich}

-- z of the order of T, as a number of order M
pub record IsTurned {h : ℕ} (T : PhaseTable h) (M : ℕ) (v : T.order ∣ M) (place exponent : ℕ) (z : Lifted (phases_over T M v)) : Type 0 where
  pub at_place : place ≡ to_nat z.place
  pub power : z.number ≡ root_power M (exponent * (M / T.order))

-- by the decision that there is one
unfoldable pub place_by : {h : ℕ} → Fin h → (k : ℕ) → Dec (k < h) → Fin h
place_by {h} s k (yes l) = from_nat h k l
place_by s k (no f) = s

abbrev pub place_or : {h : ℕ} → Fin h → ℕ → Fin h
place_or {h} s k = place_by s k (dec_lt k h)

-- the value of the character at z
unfoldable pub listed_value : {h : ℕ} (T : PhaseTable h) (M : ℕ) (v : T.order ∣ M) (positions : List ℕ) (f : List (Number M))
    → Lifted (phases_over T M v) → Number M
listed_value T M v positions f z = (numbers M).mul z.number (slice_index_or f (slice_index positions (to_nat z.place)) (numbers M).zero)

-- the place of the k-th member
abbrev pub listed_member : {h : ℕ} (T : PhaseTable h) → List ℕ → ℕ → Fin h
listed_member T members k = place_or T.start (slice_index members k)

module _ {h : ℕ} (T : PhaseTable h) (M : ℕ) (v : T.order ∣ M) (members positions : List ℕ) (f : List (Number M)) where
  -- at x n y n^-1
  abbrev pub sandwich_value : (x y : Lifted (phases_over T M v)) → ℕ → Number M
  sandwich_value x y k = listed_value T M v positions f (sandwich (phases_over T M v) x (listed_member T members k) y)

  abbrev pub sandwich_sum : (x y : Lifted (phases_over T M v)) → Number M
  sandwich_sum x y = sum_below (numbers M) (length members) (sandwich_value x y)

  -- at x j (y i y i^-1) j^-1
  abbrev pub sandwich_sums : (x y : Lifted (phases_over T M v)) → Number M
  sandwich_sums x y = sum_below (numbers M) (length members) (λ i. sandwich_sum x (sandwich (phases_over T M v) y (listed_member T members i) y))
