-- The sum so far.
use Rattle.std.proofs.Common.{ℕ, ◌≡◌, ◌≤◌, ◌*◌}
use Rattle.irr_space.specs.PhaseTable.{exponents_below}
use Rattle.irr_rep.specs.Twisted.{phase_table}
use Rattle.irr_climb.specs.Steps.{IsStep}
use Rattle.irr_climb.proofs.induced.blocks.exponents_of_powers.Given as goal

abbrev pub invariant-loop-a : goal.invariant-loop-a
invariant-loop-a l = record {
  few : l.sum ≤ l.a * 12000;
  is_sum : (M : ℕ) (is : IsStep M l.step) → l.sum ≡ exponents_below (phase_table l.step.outer).start (phase_table l.step.outer).product
      (phase_table l.step.outer).exponent is.quotient.generator l.a;
}
