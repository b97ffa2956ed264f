use Rattle.std.proofs.Common.{rules}
use Rattle.irr_token.specs.Reading.{BeginsWith}
use Rattle.irr_triplet.proofs.TermTokens.{minus_front, plus_front}
use Rattle.irr_triplet.proofs.written.sign.Goals as goal

pub returns-then-begins_with-clause-sign : goal.returns-then-begins_with-clause-sign
returns-then-begins_with-clause-sign c = λ s ts un sp.
    let at : BeginsWith 45 c.args.rest.text.now = search rules in
    minus_front c.args.rest.place c.args.rest.text.now c.behind_mark.result.place c.behind_mark.result.text.now s ts at c.behind_mark.ensures.rest un sp

pub returns-then-begins_with-2-clause-sign : goal.returns-then-begins_with-2-clause-sign
returns-then-begins_with-2-clause-sign c = λ s ts un sp.
    let at : BeginsWith 43 c.args.rest.text.now = search rules in
    plus_front c.args.rest.place c.args.rest.text.now c.behind_mark-then-begins_with-2.result.place c.behind_mark-then-begins_with-2.result.text.now s ts at
    c.behind_mark-then-begins_with-2.ensures.rest un sp
