-- What is answered on an input.
use Rattle.std.proofs.Common.{subst, refl, List}
use Rattle.irr_input.specs.declared.input.GenLine.{GenLine}
use Rattle.irr_top.specs.Asked.{AsksOfGenerators, operations_of}
use Rattle.irr_top.specs.Asked.AsksOfInput.{missing, question}
use Rattle.irr_top.specs.Outcome.{Serves}
use Rattle.irr_top.specs.Outcome.Serves.{serves}
use Rattle.irr_top.specs.Task.{asked_by}
use Rattle.irr_top.proofs.Outcomes.{serves_more}
use Rattle.irr_top.proofs.answer.answer_input.Goals as goal

pub returns-in-Some : goal.returns-in-Some
returns-in-Some g c = serves_more (λ s text a. question (asked_by c.in-Some.task) c.in-Some.ensures.some a)
    (subst (λ (lines : List GenLine). Serves (AsksOfGenerators (asked_by c.in-Some.task) (operations_of lines)) (g.O.Sink.view c.args.sink.now)
    (g.O.Sink.view c.answer_task.new.sink) c.answer_task.result) c.deref.ensures.value c.answer_task.ensures)

pub returns : goal.returns
returns g c = serves (missing (c.in-None.ensures.none refl)) c.refuse.ensures
