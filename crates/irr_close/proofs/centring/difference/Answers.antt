use Rattle.std.proofs.Common.{sym, subst}
use Rattle.irr_rat.specs.VectorMeaning.{vector}
use Rattle.irr_close.proofs.Denominators.{IsOver, over-sub, over_of_divides, over_modulo, divides_of_over, fits_difference}
use Rattle.irr_close.proofs.centring.difference.Goals as goal

pub sub-requires : goal.sub-requires
sub-requires c = fits_difference c.args.a.now.num c.args.b.now.num c.args.a.now.den c.args.b.now.den c.args.a.now.lowest.positive
    c.args.b.now.lowest.positive
    c.requires.small c.requires.other_small c.requires.in_cell c.requires.other_in_cell c.requires.denominator

pub returns-clause-divides : goal.returns-clause-divides
returns-clause-divides c = λ D p h k. divides_of_over c.reduce.result.num c.reduce.result.den D c.reduce.result.lowest
    (over_modulo D (vector c.sub.result) (vector c.reduce.result)
    (subst (IsOver D) (sym c.sub.ensures) (over-sub D (vector c.args.a.now) (vector c.args.b.now)
    (over_of_divides c.args.a.now.num c.args.a.now.den D c.args.a.now.lowest.positive h)
    (over_of_divides c.args.b.now.num c.args.b.now.den D c.args.b.now.lowest.positive k)))
    c.reduce.ensures.whole)
