-- No prime below the factor divides the number.
use Rattle.std.proofs.Common.{ℕ, ◌<◌, ◌≤◌, ◌-◌}
use Rattle.std.specs.Int.{◌∣◌}
use Rattle.irr_number.specs.Prime.{IsPrime}
use Rattle.irr_sparse.proofs.parts.least_factor.Given as goal

abbrev pub invariant-loop-factor : goal.invariant-loop-factor
invariant-loop-factor l = record {
  from : l.p ≤ l.factor;
  within : l.factor ≤ l.number;
  left : (q : ℕ) → IsPrime q → q < l.factor → ¬ (q ∣ l.number);
}

abbrev pub decreases-loop-factor : goal.decreases-loop-factor
decreases-loop-factor l = l.number - l.factor
