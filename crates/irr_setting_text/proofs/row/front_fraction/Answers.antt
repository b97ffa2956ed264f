use Rattle.irr_setting_text.proofs.LineParts.{fraction_front}
use Rattle.irr_setting_text.proofs.row.front_fraction.Goals as goal

pub returns-clause-fraction : goal.returns-clause-fraction
returns-clause-fraction c = fraction_front c.args.rest.place c.args.rest.text.now c.behind-rest.result.place c.behind-rest.result.text.now c.run_length-run.result
    c.split_at.result.0.now c.split_at.result.1.now c.front_quotient.result.0 c.front_quotient.result.1.place c.front_quotient.result.1.text.now
    c.behind-rest.ensures.rest c.run_length-run.ensures.within c.run_length-run.ensures.no_blank c.run_length-run.ensures.longest
    c.split_at.ensures.front c.split_at.ensures.back c.front_quotient.ensures.quotient
