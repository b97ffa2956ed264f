-- The power so far.
use Rattle.std.proofs.Common.{ℕ, ◌≡◌, ◌<◌}
use Rattle.irr_algebra.specs.Fin.{to_nat}
use Rattle.irr_space.specs.PhaseTable.{place_power}
use Rattle.irr_rep.specs.Twisted.{phase_table, place_count}
use Rattle.irr_climb.specs.Steps.{IsStep}
use Rattle.irr_climb.proofs.induced.blocks.generator_power.Given as goal

abbrev pub invariant-loop : goal.invariant-loop
invariant-loop l = record {
  within : l.power < place_count l.step.outer;
  is_power : (M : ℕ) (is : IsStep M l.step)
      → l.power ≡ to_nat (place_power (phase_table l.step.outer).start (phase_table l.step.outer).product is.quotient.generator l.counter);
}
