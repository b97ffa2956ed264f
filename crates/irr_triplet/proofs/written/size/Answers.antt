use Rattle.std.proofs.Common.{rules}
use Rattle.irr_token.specs.Reading.{placed_number}
use Rattle.irr_triplet.specs.WrittenTerms.{BeginsWithDigit}
use Rattle.irr_triplet.proofs.TermTokens.{no_size, some_size}
use Rattle.irr_triplet.proofs.written.size.Goals as goal

pub returns-then-not-begins_with_digit-clause-size : goal.returns-then-not-begins_with_digit-clause-size
returns-then-not-begins_with_digit-clause-size c = λ n ts is sp.
    let no : ¬ (BeginsWithDigit c.args.rest.text.now) = search rules in
    no_size c.args.rest.place c.args.rest.text.now n ts no sp

pub returns-clause-size : goal.returns-clause-size
returns-clause-size c = λ n ts is sp.
    let at : BeginsWithDigit c.args.rest.text.now = search rules in
    some_size c.args.rest.place c.args.rest.text.now c.front_number.result.1.place c.front_number.result.1.text.now (placed_number c.front_number.result.0) n ts at is c.front_number.ensures.number sp
