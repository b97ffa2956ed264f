-- The places of the class below the present one have lost the coefficient, and all others are as they were.
use Rattle.std.proofs.Common.{length, ◌-◌, ℕ, ◌≡◌, ◌≢◌, ◌%◌, ◌<◌, ◌≤◌, ◌-ℤ◌}
use Rattle.irr_cyc.specs.Form.{at}
use Rattle.irr_cyc.proofs.reduction.take_from_class.Given as goal

abbrev pub invariant-loop-place : goal.invariant-loop-place
invariant-loop-place l = record {
  place : l.place % l.step ≡ l.top % l.step;
  class : (i : ℕ) → i < length l.initial.coefficients → i % l.step ≡ l.top % l.step → i < l.place → at l.coefficients i ≡ at l.initial.coefficients i -ℤ l.coefficient;
  left : (i : ℕ) → i < length l.initial.coefficients → l.place ≤ i → at l.coefficients i ≡ at l.initial.coefficients i;
  others : (i : ℕ) → i < length l.initial.coefficients → i % l.step ≢ l.top % l.step → at l.coefficients i ≡ at l.initial.coefficients i;
}

abbrev pub decreases-loop-place : goal.decreases-loop-place
decreases-loop-place l = length l.initial.coefficients - l.place
