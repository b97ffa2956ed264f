-- What a task is answered, where the group is known.
use Rattle.std.proofs.Common.{subst, refl, List, ℕ}
use Rattle.irr_top.specs.Answer.AsksOfGroup.{order_too_large, reply}
use Rattle.irr_top.specs.Outcome.{Ended}
use Rattle.irr_top.specs.Outcome.Serves.{serves, without_memory}
use Rattle.irr_top.proofs.answer.answer_group.Goals as goal

pub returns-in-Ok : goal.returns-in-Ok
returns-in-Ok g c = λ gens is.
    let r = c.in-Ok.ensures.reply gens is in
    serves (reply r.0 r.1) (subst (λ (text : List ℕ). Ended c.in-Ok.reply.status text (g.O.Sink.view c.args.sink.now)
    (g.O.Sink.view c.finish.new.sink) c.finish.result) c.deref.ensures.value c.finish.ensures)

pub returns-in-Err-OrderTooLarge : goal.returns-in-Err-OrderTooLarge
returns-in-Err-OrderTooLarge g c = λ gens is.
    let f = rw c.in-Err-OrderTooLarge.field-0-is at c.in-Err-OrderTooLarge.ensures.none gens is in
    serves (order_too_large f) c.refuse.ensures

pub returns-in-Err-Memory : goal.returns-in-Err-Memory
returns-in-Err-Memory g c = λ gens is. without_memory refl
