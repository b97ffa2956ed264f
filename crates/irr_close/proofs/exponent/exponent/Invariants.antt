use Rattle.std.proofs.Common.{ℕ, ◌<◌, ◌≤◌, ◌-◌}
use Rattle.irr_close.specs.Exponent.{Return}
use Rattle.irr_close.proofs.exponent.exponent.Given as goal

-- no number so far lets the rotations return, and one to come does
abbrev pub invariant-loop-n : goal.invariant-loop-n
invariant-loop-n l = record {
  positive : 0 < l.n;
  before : l.n ≤ 48;
  none : (k : ℕ) → 0 < k → k < l.n → Return l.ops k → ⊥;
}

abbrev pub decreases-loop-n : goal.decreases-loop-n
decreases-loop-n l = 48 - l.n
