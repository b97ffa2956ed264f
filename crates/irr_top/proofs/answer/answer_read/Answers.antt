-- How a request ends that reads its input.
use Rattle.std.proofs.Common.{◌≡◌, refl, subst, rules, ℕ, ◌≤◌, List, length}
use Rattle.irr_io.specs.Views.{SinkView}
use Rattle.irr_top.specs.Asked.{AsksOfBytes, AsksOfLines, input_limit}
use Rattle.irr_top.specs.Asked.AsksOfBytes.{too_long, lines}
use Rattle.irr_top.specs.Outcome.{Serves}
use Rattle.irr_top.specs.Outcome.Serves.{serves, without_memory}
use Rattle.irr_top.specs.Outcome.OutcomeOf.{answered, read_fault}
use Rattle.irr_top.specs.declared.request.Request.{Request}
use Rattle.irr_top.specs.declared.status.Status.{Status}
use Rattle.irr_top.specs.declared.status.Status.TheVariants.{Done, Memory, ReadFault}
use Rattle.irr_top.proofs.Outcomes.{ended_other, serves_more}
use Rattle.irr_top.proofs.InputBytes.{all_read, at_end, some_bytes, too_many}
use Rattle.irr_top.proofs.answer.answer_read.Goals as goal

-- bytes that are not too many
few : (r : Request) (now bytes : List ℕ) {before after : SinkView} {t : Status} → now ≡ bytes
    → length bytes ≤ input_limit
    → Serves (AsksOfLines r now) before after t → Serves (AsksOfBytes r bytes) before after t
few r now bytes {before} {after} {t} e l s = serves_more (λ s text a. lines l a) (subst (λ b. Serves (AsksOfLines r b) before after t) e s)

pub returns-in-Ok-clause-outcome : goal.returns-in-Ok-clause-outcome
returns-in-Ok-clause-outcome g c = answered c.in-Ok.bytes.items (all_read _ _ c.in-Ok.bytes.items c.in-Ok.ensures.all)
    (few c.args.request.now _ c.in-Ok.bytes.items c.deref.ensures.value (search rules) c.answer_lines.ensures)

pub returns-in-Ok-clause-end : goal.returns-in-Ok-clause-end
returns-in-Ok-clause-end g c = λ d. at_end _ _ c.in-Ok.bytes.items c.in-Ok.ensures.all

pub returns-in-Err-Read-clause-outcome : goal.returns-in-Err-Read-clause-outcome
returns-in-Err-Read-clause-outcome g c = read_fault (let f = rw c.in-Err-Read.field-0-is at c.in-Err-Read.ensures.failed in f refl) refl

pub returns-in-Err-TooLong-clause-outcome : goal.returns-in-Err-TooLong-clause-outcome
returns-in-Err-TooLong-clause-outcome g c =
    let t = too_many input_limit (g.I.Source.view c.args.source.now).left (g.I.Source.view c.read_all.new.source).left
    (let f = rw c.in-Err-TooLong.field-0-is at c.in-Err-TooLong.ensures.too_long in f refl) in
    answered t.0 t.1 (serves (too_long t.2) c.refuse.ensures)

pub returns-in-Err-TooLong-clause-end : goal.returns-in-Err-TooLong-clause-end
returns-in-Err-TooLong-clause-end g c = λ e. absurd (ended_other Done c.refuse.ensures (λ k. cc) (λ k. cc) (λ k. cc) e)

pub returns-in-Err-Memory-clause-outcome : goal.returns-in-Err-Memory-clause-outcome
returns-in-Err-Memory-clause-outcome g c = let b = some_bytes (g.I.Source.view c.args.source.now).left in
    answered b.0 b.1 (without_memory refl)

pub returns-in-Err-Memory-clause-end : goal.returns-in-Err-Memory-clause-end
returns-in-Err-Memory-clause-end g c = λ e. absurd (let k : Memory ≡ Done = e in cc)

pub returns-in-Err-Read-clause-end : goal.returns-in-Err-Read-clause-end
returns-in-Err-Read-clause-end g c = λ e. absurd (let k : ReadFault ≡ Done = e in cc)
