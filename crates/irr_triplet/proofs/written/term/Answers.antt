-- A letter behind the number, or none.
use Rattle.std.proofs.Common.{◌≡◌, sym, ◌∙◌, Some, None}
use Rattle.std.specs.Option.{option_map}
use Rattle.irr_token.specs.Reading.{placed_number}
use Rattle.irr_triplet.specs.WrittenTerms.{front_letter}
use Rattle.irr_triplet.proofs.TermTokens.{lettered_term, other_term}
use Rattle.irr_triplet.proofs.written.term.Goals as goal

pub returns-in-Some-clause-term : goal.returns-in-Some-clause-term
returns-in-Some-clause-term c = λ s b ts is sp.
    let at : front_letter c.size.result.1.text.now ≡ Some c.in-Some.letter = sym c.letter_at.ensures ∙ c.in-Some.is in
    lettered_term c.args.rest.place c.sign-negative.result.1.place c.size.result.1.place c.args.rest.text.now c.sign-negative.result.1.text.now c.size.result.1.text.now c.sign-negative.result.0
    (option_map placed_number c.size.result.0) c.sign-negative.ensures.sign c.size.ensures.size c.behind_mark.result.place c.behind_mark.result.text.now c.in-Some.letter at c.behind_mark.ensures.rest s b ts is sp

pub returns-in-None-clause-term : goal.returns-in-None-clause-term
returns-in-None-clause-term c = λ s b ts is sp.
    let at : front_letter c.size.result.1.text.now ≡ None = sym c.letter_at.ensures ∙ c.in-None.is in
    other_term c.args.rest.place c.sign-negative.result.1.place c.size.result.1.place c.args.rest.text.now c.sign-negative.result.1.text.now c.size.result.1.text.now c.sign-negative.result.0
    (option_map placed_number c.size.result.0) c.sign-negative.ensures.sign c.size.ensures.size c.front_quotient.result.1.place c.front_quotient.result.1.text.now c.front_quotient.result.0 at c.front_quotient.ensures.quotient s b ts is sp
