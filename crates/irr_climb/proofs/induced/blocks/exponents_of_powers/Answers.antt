-- One exponent more.
use Rattle.std.proofs.Common.{◌≡◌, sym, ◌∙◌, subst, rules, arith}
use Rattle.irr_space.specs.PhaseTable.{exponents_below}
use Rattle.irr_rep.specs.Twisted.{phase_table}
use Rattle.irr_climb.proofs.ConjugateRows.{generator_below}
use Rattle.irr_climb.proofs.InducedBlocks.{sum_start, sum_step}
use Rattle.irr_climb.proofs.induced.blocks.exponents_of_powers.Goals as goal

pub loop-a-init : goal.loop-a-init
loop-a-init c = record {
  few = omega arith;
  is_sum = λ M is. sum_start (phase_table c.args.step.now.outer) is.quotient.generator;
}

pub phase-sum-requires-clause-row : goal.phase-sum-requires-clause-row
phase-sum-requires-clause-row c = generator_below c.requires.step.1

pub loop-a-preserved : goal.loop-a-preserved
loop-a-preserved c = record {
  few = let l = c.loop-a.invariant.few in let m = c.phase-sum.ensures.limited in omega (arith, l, m);
  is_sum = λ M is. sum_step (phase_table c.args.step.now.outer) is.quotient.generator c.loop-a.a c.loop-a.sum c.generator_power.result
      c.phase-sum.result
      (c.loop-a.invariant.is_sum M is) (c.generator_power.ensures.power M is) (λ p q r s. c.phase-sum.ensures.exponent p q (r ∙ sym is.generator) s);
}

pub returns-clause-sum : goal.returns-clause-sum
returns-clause-sum c M is =
    let done : c.loop-a.a ≡ c.args.b = search rules in
    let T = phase_table c.args.step.now.outer in
    subst (λ k. c.loop-a.sum ≡ exponents_below T.start T.product T.exponent is.quotient.generator k) done (c.loop-a.invariant.is_sum M is)
