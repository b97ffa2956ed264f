-- How a request ends.
use Rattle.std.proofs.Common.{sym, ◌∙◌, refl}
use Rattle.irr_top.specs.Request.{made_number}
use Rattle.irr_top.specs.Outcome.OutcomeOf.{answered}
use Rattle.irr_top.proofs.InputBytes.{some_bytes}
use Rattle.irr_top.proofs.MadeRequests.{read_request, is_made}
use Rattle.irr_top.proofs.Outcomes.{outcome_more}
use Rattle.irr_top.proofs.Statuses.{served_read}
use Rattle.irr_top.proofs.answer.answer.Goals as goal

pub returns-in-Some-clause-outcome : goal.returns-in-Some-clause-outcome
returns-in-Some-clause-outcome g c = let b = some_bytes (g.I.Source.view c.args.source.now).left in
    answered b.0 b.1 (c.answer_made.ensures b.0)

pub returns-in-Some-clause-fault : goal.returns-in-Some-clause-fault
returns-in-Some-clause-fault g c = λ e. absurd (served_read (c.answer_made.ensures (some_bytes (g.I.Source.view c.args.source.now).left).0) e)

pub returns-in-Some-clause-end : goal.returns-in-Some-clause-end
returns-in-Some-clause-end g c = λ none. absurd (is_made (made_number c.args.request.now) c.in-Some.number
    (sym c.made_number.ensures ∙ c.in-Some.is) none)

pub returns-in-Some-clause-unread : goal.returns-in-Some-clause-unread
returns-in-Some-clause-unread g c = λ n. refl

pub returns-in-None-clause-outcome : goal.returns-in-None-clause-outcome
returns-in-None-clause-outcome g c = outcome_more (λ bytes s text a. read_request c.args.request.now (sym c.made_number.ensures ∙ c.in-None.is) a)
    c.answer_read.ensures.outcome

pub returns-in-None-clause-fault : goal.returns-in-None-clause-fault
returns-in-None-clause-fault g c = λ e. sym c.made_number.ensures ∙ c.in-None.is

pub returns-in-None-clause-end : goal.returns-in-None-clause-end
returns-in-None-clause-end g c = λ none. c.answer_read.ensures.end

pub returns-in-None-clause-unread : goal.returns-in-None-clause-unread
returns-in-None-clause-unread g c = λ n. absurd (n (sym c.made_number.ensures ∙ c.in-None.is))
