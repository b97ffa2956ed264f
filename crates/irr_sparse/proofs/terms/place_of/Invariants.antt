-- The place is from low to high.
use Rattle.std.proofs.Common.{ℕ, ◌<◌, ◌≤◌, ◌-◌, length}
use Rattle.irr_sparse.specs.TermList.{exponent_at}
use Rattle.irr_sparse.proofs.terms.place_of.Given as goal

abbrev pub invariant-loop-low : goal.invariant-loop-low
invariant-loop-low l = record {
  ordered : l.low ≤ l.high;
  within : l.high ≤ length l.terms;
  before : (i : ℕ) → i < l.low → exponent_at l.terms i < l.exponent;
  after : l.high < length l.terms → l.exponent ≤ exponent_at l.terms l.high;
}

abbrev pub decreases-loop-low : goal.decreases-loop-low
decreases-loop-low l = l.high - l.low
