use Rattle.std.proofs.Common.{◌≡◌, sym, ◌∙◌, subst₂, ◌<ℤ◌}
use Rattle.std.specs.Ordering.{MatchOrdering}
use Rattle.std.proofs.lemmas.Option.{same_Some}
use Rattle.std.proofs.lemmas.Cmp.{int_ranked}
use Rattle.irr_rat.proofs.Fractions.{match_of_fractions}
use Rattle.irr_rat.proofs.ratio.Ratio.cmp.Goals as goal

pub returns : goal.returns
returns g c =
    let exact = g.met.I.Integral.exact_law in
    let left = g.met.I.One.mul_law c.args.self.now.num c.args.other.now.den c.mul.result c.mul.ensures exact c.requires.left.0 in
    let right = g.met.I.One.mul_law c.args.other.now.num c.args.self.now.den c.mul-2.result c.mul-2.ensures exact c.requires.right.0 in
    let same = same_Some _ _ (sym (g.met.I.Ord.matches_partial_cmp c.mul.result c.mul-2.result) ∙ g.met.I.Number.order_law c.mul.result c.mul-2.result exact) in
    match_of_fractions c.cmp.result (g.I.Number.value c.args.self.now.num) (g.I.Number.value c.args.self.now.den) (g.I.Number.value c.args.other.now.num) (g.I.Number.value c.args.other.now.den)
    c.args.self.now.reduced.positive c.args.other.now.reduced.positive
    (subst₂ (λ x y. MatchOrdering c.cmp.result (x <ℤ y) (x ≡ y) (y <ℤ x)) left right (int_ranked _ _ c.cmp.result (c.cmp.ensures ∙ same)))
