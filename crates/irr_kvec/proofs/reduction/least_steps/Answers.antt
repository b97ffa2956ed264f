use Rattle.std.proofs.Common.{sym, subst, ℤ, List, length, arith, below_more}
use Rattle.irr_space.specs.Reciprocal.{AreEquivalent, IsReduced}
use Rattle.irr_kvec.specs.WaveMeaning.{wave_of}
use Rattle.irr_kvec.specs.Centrings.{LatticeOf}
use Rattle.irr_kvec.proofs.Steps.{candidate}
use Rattle.irr_kvec.proofs.ReducedForms.{number_before, number_small, first_is_reduced}
use Rattle.irr_kvec.proofs.reduction.least_steps.Goals as goal

pub is_equivalent_candidate-requires-clause-number : goal.is_equivalent_candidate-requires-clause-number
is_equivalent_candidate-requires-clause-number c = let s = number_small c.args.centrings.now c.requires.centrings c.args.cells.now in omega (arith, c.loop-number.invariant.before)

pub candidate-requires-clause-number : goal.candidate-requires-clause-number
candidate-requires-clause-number c = let s = number_small c.args.centrings.now c.requires.centrings c.args.cells.now in omega (arith, c.loop-number.invariant.before)

pub overflow_add-number : goal.overflow_add-number
overflow_add-number c = let s = number_small c.args.centrings.now c.requires.centrings c.args.cells.now in record { fits = omega (arith, c.loop-number.invariant.before) }

pub loop-number-smaller : goal.loop-number-smaller
loop-number-smaller c = let l = number_before c.args.centrings.now c.requires.centrings c.args.cells.now c.loop-number.number c.loop-number.invariant.before
    (λ e. cc (c.is_equivalent_candidate.ensures.1 e, c.loop-number-test.true)) in omega arith

pub loop-number-preserved : goal.loop-number-preserved
loop-number-preserved c = record {
  before = let l = number_before c.args.centrings.now c.requires.centrings c.args.cells.now c.loop-number.number c.loop-number.invariant.before
      (λ e. cc (c.is_equivalent_candidate.ensures.1 e, c.loop-number-test.true)) in omega arith;
  none = below_more (λ y. AreEquivalent (LatticeOf c.args.centrings.now) (wave_of (candidate (length c.args.centrings.now) y) 1) (wave_of c.args.cells.now 1) → ⊥) c.loop-number.number
      c.loop-number.invariant.none (λ e. cc (c.is_equivalent_candidate.ensures.1 e, c.loop-number-test.true));
}

pub returns-clause-reduced : goal.returns-clause-reduced
returns-clause-reduced c = subst (λ (v : List ℤ). IsReduced (LatticeOf c.args.centrings.now) (wave_of c.args.cells.now 1) (wave_of v 1)) (sym c.candidate.ensures.value)
    (first_is_reduced c.args.centrings.now c.requires.centrings c.args.cells.now c.loop-number.number (c.is_equivalent_candidate.ensures.0 c.loop-number-test.false) c.loop-number.invariant.none)
