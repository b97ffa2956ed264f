-- The text is read from left to right.
use Rattle.irr_input.proofs.PointTexts.{read_parts}
use Rattle.irr_input.proofs.point.fractions.Goals as goal

pub returns-clause-parts : goal.returns-clause-parts
returns-clause-parts c = read_parts c.args.text.now c.front_quotient.result.1.text.now c.behind_comma.result.text.now c.front_quotient-2.result.1.text.now c.behind_comma-2.result.text.now
    c.front_quotient-3.result.1.text.now c.front_quotient.result.1.place c.behind_comma.result.place c.front_quotient-2.result.1.place c.behind_comma-2.result.place c.front_quotient-3.result.1.place
    c.front_quotient.result.0 c.front_quotient-2.result.0 c.front_quotient-3.result.0
    c.front_quotient.ensures.quotient c.behind_comma.ensures.rest c.front_quotient-2.ensures.quotient c.behind_comma-2.ensures.rest c.front_quotient-3.ensures.quotient
