use Rattle.std.proofs.Common.{rules}
use Rattle.irr_token.specs.Reading.{BeginsWith}
use Rattle.irr_token.proofs.Signs.{minus_step, plus_step}
use Rattle.irr_token.proofs.read.sign.Goals as goal

pub returns-then-begins_with-clause-sign : goal.returns-then-begins_with-clause-sign
returns-then-begins_with-clause-sign c = λ s n ts sp.
    let at : BeginsWith 45 c.args.rest.text.now = search rules in
    minus_step c.args.rest.place c.args.rest.text.now c.behind_mark.result.place c.behind_mark.result.text.now s n ts at c.behind_mark.ensures.rest sp

pub returns-then-begins_with-2-clause-sign : goal.returns-then-begins_with-2-clause-sign
returns-then-begins_with-2-clause-sign c = λ s n ts sp.
    let at : BeginsWith 43 c.args.rest.text.now = search rules in
    plus_step c.args.rest.place c.args.rest.text.now c.behind_mark-then-begins_with-2.result.place c.behind_mark-then-begins_with-2.result.text.now s n ts at
    c.behind_mark-then-begins_with-2.ensures.rest sp
