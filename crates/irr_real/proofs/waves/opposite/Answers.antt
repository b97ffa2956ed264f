use Rattle.std.proofs.Common.{sym, ap, subst, ◌≤◌, ◌^◌, ◌∙◌, unsigned_abs}
use Rattle.irr_rational.specs.Ratio.{entry}
use Rattle.irr_canonical.proofs.Sizes.{unsigned_abs-neg}
use Rattle.irr_real.proofs.Opposites.{opposite_lowest, opposite_wave}
use Rattle.irr_real.proofs.waves.opposite.Goals as goal

pub invariant_of-result : goal.invariant_of-result
invariant_of-result c = record {
  lowest = opposite_lowest c.args.k.now.num c.negatives-num.result c.args.k.now.den c.negatives-num.ensures.value
      c.args.k.now.lowest;
}

pub returns-clause-opposite : goal.returns-clause-opposite
returns-clause-opposite c = opposite_wave c.args.k.now.num c.negatives-num.result c.args.k.now.den
    c.negatives-num.ensures.value
    c.args.k.now.lowest.positive

pub returns-clause-limits : goal.returns-clause-limits
returns-clause-limits c = record {
  numerators = λ i. subst (λ n. n ≤ 10 ^ 14)
      (sym (ap unsigned_abs (c.negatives-num.ensures.value i) ∙ unsigned_abs-neg (entry c.args.k.now.num i)))
      (c.requires.limits.numerators i);
  denominator = c.requires.limits.denominator;
}
