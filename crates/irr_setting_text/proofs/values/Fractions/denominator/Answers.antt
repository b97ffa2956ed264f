use Rattle.irr_setting_text.proofs.LeastDenominators.{least_of_three}
use Rattle.irr_setting_text.proofs.values.Fractions.denominator.Goals as goal

pub returns-clause-least : goal.returns-clause-least
returns-clause-least c = least_of_three c.args.self.now.x.den c.args.self.now.y.den c.args.self.now.z.den c.in_ok-both.both c.in_ok-all.all
    c.in_ok-both.ensures.least c.in_ok-all.ensures.least
