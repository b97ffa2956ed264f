use Rattle.std.proofs.Common.{sym, ◌∙◌, ap₂, subst, subst₂, pos, ◌+ℤ◌, ◌<ℤ◌}
use Rattle.irr_rat.specs.RatioMeaning.{fraction, HasNegative}
use Rattle.irr_rat.proofs.Fractions.{fraction-add, product_positive}
use Rattle.irr_rat.proofs.ratio.Ratio.add.Goals as goal

pub lowest-requires-clause-positive : goal.lowest-requires-clause-positive
lowest-requires-clause-positive g c =
    let exact = g.met.I.Integral.exact_law in
    let below = g.met.I.One.mul_law c.args.self.now.den c.args.other.now.den c.mul-3.result c.mul-3.ensures exact c.requires.denominator.0 in
    subst (λ x. pos 0 <ℤ x) (sym below) (product_positive (g.I.Number.value c.args.self.now.den) (g.I.Number.value c.args.other.now.den) c.args.self.now.reduced.positive c.args.other.now.reduced.positive)

pub lowest-requires-clause-num : goal.lowest-requires-clause-num
lowest-requires-clause-num g c =
    let exact = g.met.I.Integral.exact_law in
    let left = g.met.I.One.mul_law c.args.self.now.num c.args.other.now.den c.mul.result c.mul.ensures exact c.requires.left.0 in
    let right = g.met.I.One.mul_law c.args.other.now.num c.args.self.now.den c.mul-2.result c.mul-2.ensures exact c.requires.right.0 in
    let total = g.met.I.Zero.add_law c.mul.result c.mul-2.result c.add.result c.add.ensures exact (subst₂ (λ x y. g.I.Number.fits (x +ℤ y)) (sym left) (sym right) c.requires.sum.0) ∙ ap₂ ◌+ℤ◌ left right in
    let below = g.met.I.One.mul_law c.args.self.now.den c.args.other.now.den c.mul-3.result c.mul-3.ensures exact c.requires.denominator.0 in
    subst (HasNegative g.I.Number.fits) (sym total) c.requires.sum

pub returns : goal.returns
returns g c =
    let exact = g.met.I.Integral.exact_law in
    let left = g.met.I.One.mul_law c.args.self.now.num c.args.other.now.den c.mul.result c.mul.ensures exact c.requires.left.0 in
    let right = g.met.I.One.mul_law c.args.other.now.num c.args.self.now.den c.mul-2.result c.mul-2.ensures exact c.requires.right.0 in
    let total = g.met.I.Zero.add_law c.mul.result c.mul-2.result c.add.result c.add.ensures exact (subst₂ (λ x y. g.I.Number.fits (x +ℤ y)) (sym left) (sym right) c.requires.sum.0) ∙ ap₂ ◌+ℤ◌ left right in
    let below = g.met.I.One.mul_law c.args.self.now.den c.args.other.now.den c.mul-3.result c.mul-3.ensures exact c.requires.denominator.0 in
    c.lowest.ensures ∙ ap₂ fraction total below ∙ fraction-add (g.I.Number.value c.args.self.now.num) (g.I.Number.value c.args.self.now.den) (g.I.Number.value c.args.other.now.num) (g.I.Number.value c.args.other.now.den) c.args.self.now.reduced.positive c.args.other.now.reduced.positive
