use Rattle.std.proofs.Common.{sym, subst, ◌*◌, ◌<◌, ◌≤◌, ◌^◌, arith, below_more}
use native.Mathlib.Nat as Nat
use Rattle.irr_space.specs.Reciprocal.{IsReciprocal, times}
use Rattle.irr_kvec.specs.WaveMeaning.{wave_of}
use Rattle.irr_kvec.specs.Centrings.{LatticeOf}
use Rattle.irr_kvec.proofs.ReducedForms.{count_positive}
use Rattle.irr_kvec.proofs.LeastFactors.{times-listed, factor_before, period_of_factor}
use Rattle.irr_kvec.proofs.periods.period.Goals as goal

pub loop-factor-init : goal.loop-factor-init
loop-factor-init c = record {
  positive = omega arith;
  before = let h = count_positive c.args.centrings.now c.requires.centrings c.args.k.now.num in omega arith;
  none = λ n l p e. absurd (omega arith);
}

pub multiples-requires-clause-few : goal.multiples-requires-clause-few
multiples-requires-clause-few c = omega (arith, c.loop-factor.invariant.before, c.requires.centrings.few)

pub overflow_add-factor : goal.overflow_add-factor
overflow_add-factor c = record { fits = omega (arith, c.loop-factor.invariant.before, c.requires.centrings.few) }

pub loop-factor-smaller : goal.loop-factor-smaller
loop-factor-smaller c = let l = factor_before c.args.centrings.now c.requires.centrings c.args.k.now.num c.loop-factor.factor c.loop-factor.invariant.before
    (λ e. cc (c.is_reciprocal.ensures.1 (subst (IsReciprocal (LatticeOf c.args.centrings.now)) (sym (times-listed c.args.k.now.num c.multiples.result c.loop-factor.factor c.multiples.ensures.value)) e), c.loop-factor-test.true)) in omega arith

pub loop-factor-preserved : goal.loop-factor-preserved
loop-factor-preserved c = record {
  positive = omega arith;
  before = let l = factor_before c.args.centrings.now c.requires.centrings c.args.k.now.num c.loop-factor.factor c.loop-factor.invariant.before
      (λ e. cc (c.is_reciprocal.ensures.1 (subst (IsReciprocal (LatticeOf c.args.centrings.now)) (sym (times-listed c.args.k.now.num c.multiples.result c.loop-factor.factor c.multiples.ensures.value)) e), c.loop-factor-test.true)) in omega arith;
  none = below_more (λ n. 0 < n → IsReciprocal (LatticeOf c.args.centrings.now) (times n (wave_of c.args.k.now.num 1)) → ⊥) c.loop-factor.factor c.loop-factor.invariant.none
      (λ p e. cc (c.is_reciprocal.ensures.1 (subst (IsReciprocal (LatticeOf c.args.centrings.now)) (sym (times-listed c.args.k.now.num c.multiples.result c.loop-factor.factor c.multiples.ensures.value)) e), c.loop-factor-test.true));
}

pub overflow_mul-result : goal.overflow_mul-result
overflow_mul-result c =
    let few : c.loop-factor.factor ≤ 32 = omega (arith, c.loop-factor.invariant.before, c.requires.centrings.few) in
    let b : c.loop-factor.factor * c.args.k.now.den ≤ 32 * 10 ^ 7 = Nat.mul-le-mul few c.requires.limits.denominator in
    record { fits = omega arith }

pub returns : goal.returns
returns c = period_of_factor c.args.centrings.now c.requires.centrings c.args.k.now.num c.args.k.now.den c.loop-factor.factor c.args.k.now.lowest c.loop-factor.invariant.positive
    (subst (IsReciprocal (LatticeOf c.args.centrings.now)) (times-listed c.args.k.now.num c.multiples.result c.loop-factor.factor c.multiples.ensures.value) (c.is_reciprocal.ensures.0 c.loop-factor-test.false))
    (λ n p l. c.loop-factor.invariant.none n l p)
