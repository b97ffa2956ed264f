use Rattle.irr_setting_text.specs.LineReading.{Divide}
use Rattle.irr_setting_text.proofs.LeastDenominators.{least_of_rows}
use Rattle.irr_setting_text.proofs.RowValues.{divide_more}
use Rattle.irr_setting_text.proofs.values.denominator_of_rows.Goals as goal

pub returns-clause-least : goal.returns-clause-least
returns-clause-least c = least_of_rows (Divide c.args.first.now) (Divide c.args.second.now) (Divide c.args.third.now) c.in_ok-x.x c.in_ok-y.y c.in_ok-z.z c.in_ok-both.both
    c.in_ok-all.all (divide_more c.args.first.now) (divide_more c.args.second.now) (divide_more c.args.third.now)
    c.in_ok-x.ensures.least c.in_ok-y.ensures.least c.in_ok-z.ensures.least c.in_ok-both.ensures.least c.in_ok-all.ensures.least
