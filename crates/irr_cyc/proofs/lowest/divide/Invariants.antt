-- The coefficients so far have been divided.
use Rattle.std.proofs.Common.{ℕ, ◌<◌, ◌≤◌, ◌≡◌, length, ◌*ℤ◌}
use Rattle.irr_cyc.specs.Form.{at}
use Rattle.irr_cyc.proofs.lowest.divide.Given as goal

abbrev pub invariant-loop-coefficient : goal.invariant-loop-coefficient
invariant-loop-coefficient l = record {
  done : (j : ℕ) → j < length l.initial.coefficients → j < l.coefficient-index → l.divisor *ℤ at l.coefficients j ≡ at l.initial.coefficients j;
  left : (j : ℕ) → j < length l.initial.coefficients → l.coefficient-index ≤ j → at l.coefficients j ≡ at l.initial.coefficients j;
}
