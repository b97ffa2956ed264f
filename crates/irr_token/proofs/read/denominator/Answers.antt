use Rattle.std.proofs.Common.{rules}
use Rattle.irr_token.specs.Reading.{placed_number, BeginsWith}
use Rattle.irr_token.proofs.Signs.{over_step}
use Rattle.irr_token.proofs.read.denominator.Goals as goal

pub returns-clause-denominator : goal.returns-clause-denominator
returns-clause-denominator c = λ d ts is sp.
    let at : BeginsWith 47 c.args.rest.text.now = search rules in
    over_step c.args.rest.place c.args.rest.text.now c.behind_mark.result.place c.behind_mark.result.text.now c.front_number.result.1.place c.front_number.result.1.text.now
    (placed_number c.front_number.result.0) d ts at is c.behind_mark.ensures.rest c.front_number.ensures.number sp
