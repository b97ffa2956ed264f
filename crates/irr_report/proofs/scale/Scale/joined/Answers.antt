-- The least common multiple of the denominators, and the sizes over it.
use Rattle.std.proofs.Common.{◌<◌, ◌*◌, ◌/◌, subst, arith, inl, inr}
use Rattle.irr_rat.proofs.Multiples.{lcm_of_gcd, lcm_positive}
use Rattle.irr_numeral.specs.declared.limits.TheConstants.{COEFFICIENT_LIMIT}
use Rattle.irr_report.proofs.scale.Scale.joined.Goals.{then-earlier-later, else-earlier-later}
use Rattle.irr_report.proofs.scale.Scale.joined.Goals as goal

pub returns-then-common-gt-DENOMINATOR_LIMIT-clause-none : goal.returns-then-common-gt-DENOMINATOR_LIMIT-clause-none
returns-then-common-gt-DENOMINATOR_LIMIT-clause-none c = λ _. (
  c.args.self.denominator / c.gcd.result * c.args.denominator,
  lcm_of_gcd c.args.self.denominator c.args.denominator c.gcd.result c.args.self.positive c.gcd.ensures,
  inl c.if-common-gt-DENOMINATOR_LIMIT.true,
)

pub returns-then-greatest-gt-COEFFICIENT_LIMIT-clause-none : goal.returns-then-greatest-gt-COEFFICIENT_LIMIT-clause-none
returns-then-greatest-gt-COEFFICIENT_LIMIT-clause-none c = λ _. (
  c.args.self.denominator / c.gcd.result * c.args.denominator,
  lcm_of_gcd c.args.self.denominator c.args.denominator c.gcd.result c.args.self.positive c.gcd.ensures,
  inr (elim c.if-earlier-later.branch [
    | then-earlier-later w ↦ inr (subst (λ x. COEFFICIENT_LIMIT < x) w.greatest-is c.if-greatest-gt-COEFFICIENT_LIMIT.true)
    | else-earlier-later w ↦ inl (subst (λ x. COEFFICIENT_LIMIT < x) w.greatest-is c.if-greatest-gt-COEFFICIENT_LIMIT.true)
  ]),
)

pub invariant_of-result : goal.invariant_of-result
invariant_of-result c = record {
  positive = lcm_positive c.args.self.denominator c.args.denominator (c.args.self.denominator / c.gcd.result * c.args.denominator) c.args.self.positive c.requires.positive
      (lcm_of_gcd c.args.self.denominator c.args.denominator c.gcd.result c.args.self.positive c.gcd.ensures);
  denominator_within = omega (arith, c.if-common-gt-DENOMINATOR_LIMIT.false);
  size_within = omega (arith, c.if-greatest-gt-COEFFICIENT_LIMIT.false);
}

pub returns-clause-joined : goal.returns-clause-joined
returns-clause-joined c = record {
  common = lcm_of_gcd c.args.self.denominator c.args.denominator c.gcd.result c.args.self.positive c.gcd.ensures;
  earlier = elim c.if-earlier-later.branch [
    | then-earlier-later w ↦ omega (arith, w.greatest-is, w.if-earlier-later)
    | else-earlier-later w ↦ omega (arith, w.greatest-is)
  ];
  later = elim c.if-earlier-later.branch [
    | then-earlier-later w ↦ omega (arith, w.greatest-is)
    | else-earlier-later w ↦ omega (arith, w.greatest-is, w.if-earlier-later)
  ];
  reached = elim c.if-earlier-later.branch [
    | then-earlier-later w ↦ inr w.greatest-is
    | else-earlier-later w ↦ inl w.greatest-is
  ];
}
