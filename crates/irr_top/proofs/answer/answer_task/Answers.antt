-- What a task is answered, where the lines of generators are known.
use Rattle.std.proofs.Common.{◌∙◌, refl, subst, sym, List}
use Rattle.std.specs.List.{All}
use Rattle.std.proofs.lemmas.List.Elements.{All-map}
use Rattle.irr_seitz.specs.OperationMeaning.{operation}
use Rattle.irr_seitz.specs.declared.op.Op.{Op}
use Rattle.irr_triplet.specs.Readable.{IsReadable}
use Rattle.irr_input.specs.declared.input.GenLine.{GenLine}
use Rattle.irr_top.specs.Asked.{AsksOfGenerators}
use Rattle.irr_top.specs.Outcome.{Serves}
use Rattle.irr_top.specs.Outcome.Serves.{without_memory}
use Rattle.irr_top.specs.Task.{asked_by}
use Rattle.irr_top.proofs.answer.answer_task.Goals as goal

pub answer_generators-requires-clause-readable : goal.answer_generators-requires-clause-readable
answer_generators-requires-clause-readable g c = subst (λ (gs : List Op). All (λ x. IsReadable (operation x)) gs)
    (sym (c.deref.ensures.value ∙ c.in-Ok.ensures))
    (All-map (λ x. IsReadable (operation x)) (λ (g : GenLine). g.op) c.args.lines.now c.requires.readable)

pub returns-in-Ok : goal.returns-in-Ok
returns-in-Ok g c = subst (λ gs. Serves (AsksOfGenerators (asked_by c.args.task.now) gs) (g.O.Sink.view c.args.sink.now)
    (g.O.Sink.view c.answer_generators.new.sink) c.answer_generators.result) (c.deref.ensures.value ∙ c.in-Ok.ensures) c.answer_generators.ensures

pub returns-in-Err : goal.returns-in-Err
returns-in-Err g c = without_memory refl
