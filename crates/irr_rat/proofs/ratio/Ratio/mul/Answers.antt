use Rattle.std.proofs.Common.{sym, ◌∙◌, ap₂, subst, pos, ◌<ℤ◌}
use Rattle.irr_rat.specs.RatioMeaning.{fraction}
use Rattle.irr_rat.proofs.Fractions.{fraction-mul, product_positive}
use Rattle.irr_rat.proofs.ratio.Ratio.mul.Goals as goal

pub lowest-requires-clause-positive : goal.lowest-requires-clause-positive
lowest-requires-clause-positive g c =
    let exact = g.met.I.Integral.exact_law in
    let below = g.met.I.One.mul_law c.args.self.now.den c.args.other.now.den c.mul-2.result c.mul-2.ensures exact c.requires.denominator.0 in
    subst (λ x. pos 0 <ℤ x) (sym below) (product_positive (g.I.Number.value c.args.self.now.den) (g.I.Number.value c.args.other.now.den) c.args.self.now.reduced.positive c.args.other.now.reduced.positive)

pub returns : goal.returns
returns g c =
    let exact = g.met.I.Integral.exact_law in
    let above = g.met.I.One.mul_law c.args.self.now.num c.args.other.now.num c.mul.result c.mul.ensures exact c.requires.numerator.0 in
    let below = g.met.I.One.mul_law c.args.self.now.den c.args.other.now.den c.mul-2.result c.mul-2.ensures exact c.requires.denominator.0 in
    c.lowest.ensures ∙ ap₂ fraction above below ∙ fraction-mul (g.I.Number.value c.args.self.now.num) (g.I.Number.value c.args.self.now.den) (g.I.Number.value c.args.other.now.num) (g.I.Number.value c.args.other.now.den) c.args.self.now.reduced.positive c.args.other.now.reduced.positive
