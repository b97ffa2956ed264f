-- The next power.
use Rattle.std.proofs.Common.{◌≡◌, sym, ◌∙◌, subst, rules}
use Rattle.irr_algebra.specs.Fin.{to_nat}
use Rattle.irr_space.specs.PhaseTable.{place_power}
use Rattle.irr_rep.specs.Twisted.{phase_table}
use Rattle.irr_climb.proofs.ConjugateRows.{generator_below}
use Rattle.irr_climb.proofs.SplitSearch.{power_start, power_step}
use Rattle.irr_climb.proofs.induced.blocks.generator_power.Goals as goal

pub loop-init : goal.loop-init
loop-init c = record {
  within = c.args.step.now.outer.not_empty;
  is_power = λ M is. power_start (phase_table c.args.step.now.outer) is.quotient.generator;
}

pub table-power-requires-clause-row : goal.table-power-requires-clause-row
table-power-requires-clause-row c = generator_below c.requires.step.1

pub loop-preserved : goal.loop-preserved
loop-preserved c = record {
  within = c.table-power.ensures.within;
  is_power = λ M is. power_step (phase_table c.args.step.now.outer) is.quotient.generator c.loop.counter c.loop.power c.table-power.result
      (c.loop.invariant.is_power M is) (λ p q r s. c.table-power.ensures.product p q (r ∙ sym is.generator) s);
}

pub returns-clause-power : goal.returns-clause-power
returns-clause-power c M is =
    let done : c.loop.counter ≡ c.args.b = search rules in
    subst (λ k. c.loop.power ≡ to_nat (place_power (phase_table c.args.step.now.outer).start (phase_table c.args.step.now.outer).product
    is.quotient.generator k)) done (c.loop.invariant.is_power M is)
