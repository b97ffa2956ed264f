use Rattle.std.proofs.Common.{sym, subst}
use Rattle.irr_rational.specs.Order.{IsFloor}
use Rattle.irr_rat.specs.RatioMeaning.{fraction}
use Rattle.irr_rat.proofs.Fractions.{floor_of_fraction}
use Rattle.irr_rat.proofs.ratio.Ratio.floor.Goals as goal

pub returns : goal.returns
returns g c = subst (IsFloor (fraction (g.I.Number.value c.args.self.now.num) (g.I.Number.value c.args.self.now.den))) (sym (c.div_euclid.ensures.value g.met.I.Integral.exact_law))
    (floor_of_fraction (g.I.Number.value c.args.self.now.num) (g.I.Number.value c.args.self.now.den) c.args.self.now.reduced.positive)
