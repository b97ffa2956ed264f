-- The blanks at the front, and then a quote or none.
use Rattle.std.proofs.Common.{rules, refl, inl, inr, ◌++◌}
use Rattle.irr_token.specs.Reading.{BeginsWith}
use Rattle.irr_triplet.specs.WrittenTriplet.{quote_tokens}
use Rattle.irr_triplet.proofs.TripletParting.{front_skipped, quote_skipped, no_quote}
use Rattle.irr_triplet.proofs.reading.opened.Goals as goal

pub returns-then-begins_with-clause-rest : goal.returns-then-begins_with-clause-rest
returns-then-begins_with-clause-rest c = λ blanks rest q ts are e un sp.
    let at : BeginsWith 39 c.behind-rest.result.text.now = search rules in
    quote_skipped 39 c.behind-rest.result.place c.behind_mark.result.place c.behind-rest.result.text.now c.behind_mark.result.text.now q ts (inl refl) refl at c.behind_mark.ensures.rest un
    (front_skipped c.args.text.now c.behind-rest.result.text.now c.behind-rest.result.place blanks rest (quote_tokens q ++ ts) c.behind-rest.ensures.rest are e sp)

pub returns-then-begins_with-2-clause-rest : goal.returns-then-begins_with-2-clause-rest
returns-then-begins_with-2-clause-rest c = λ blanks rest q ts are e un sp.
    let at : BeginsWith 34 c.behind-rest.result.text.now = search rules in
    quote_skipped 34 c.behind-rest.result.place c.behind_mark-then-begins_with-2.result.place c.behind-rest.result.text.now c.behind_mark-then-begins_with-2.result.text.now q ts (inr refl) refl at
    c.behind_mark-then-begins_with-2.ensures.rest un
    (front_skipped c.args.text.now c.behind-rest.result.text.now c.behind-rest.result.place blanks rest (quote_tokens q ++ ts) c.behind-rest.ensures.rest are e sp)

pub returns-clause-rest : goal.returns-clause-rest
returns-clause-rest c = λ blanks rest q ts are e un sp.
    let single : ¬ (BeginsWith 39 c.behind-rest.result.text.now) = search rules in
    let double : ¬ (BeginsWith 34 c.behind-rest.result.text.now) = search rules in
    no_quote c.behind-rest.result.place c.behind-rest.result.text.now q ts single double
    (front_skipped c.args.text.now c.behind-rest.result.text.now c.behind-rest.result.place blanks rest (quote_tokens q ++ ts) c.behind-rest.ensures.rest are e sp)
