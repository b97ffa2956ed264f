-- The positions of the first values.
use Rattle.std.proofs.Common.{ℕ, ◌≡◌, ◌<◌, length, slice_index}
use Rattle.irr_climb.proofs.splits.positions.Given as goal

abbrev pub invariant-loop-value : goal.invariant-loop-value
invariant-loop-value l = record {
  count : length l.at.items ≡ l.value-index;
  within : (a : ℕ) → a < l.value-index → slice_index l.at.items a < length l.list;
  values : (a : ℕ) → a < l.value-index → slice_index l.list (slice_index l.at.items a) ≡ slice_index l.values a;
}
