-- A text parts in one way into a front of this length, blanks, and a rest that begins with none.
use Rattle.std.proofs.Common.{arith}
use Rattle.irr_token.proofs.Blanks.{behind_parts}
use Rattle.irr_token.proofs.read.behind.Goals as goal

pub returns-clause-rest : goal.returns-clause-rest
returns-clause-rest c = λ front blanks tail long are stop e.
    let parts = behind_parts c.args.rest.text.now c.split_at.result.1.now c.split_at-2.result.1.now c.args.count c.blank_run-blanks.result front blanks tail c.split_at.ensures.back c.split_at-2.ensures.back
    c.blank_run-blanks.ensures.blanks c.blank_run-blanks.ensures.longest c.blank_run-blanks.ensures.within long are stop e in
    (parts.0, omega (arith, parts.1, long))
