use Rattle.std.proofs.Common.{refl, ◌≡◌, length, ap, ◌∙◌, ◌+◌, rules}
use Rattle.irr_report.specs.declared.stage.StepError.TheVariants as errors
use Rattle.irr_report.specs.ReportStages.{IsFilling, StepFails}
use Rattle.irr_report.proofs.Each.{one-order}
use Rattle.irr_report.proofs.StageSteps.{memory_fails, matrix-no_words, matrix-fails, matrix-steps, last-steps}
use Rattle.irr_report.proofs.steps.matrix.Goals as goal

pub values-requires-clause-admitted : goal.values-requires-clause-admitted
values-requires-clause-admitted g c = c.requires.admitted c.args.counted.order.n c.args.counted.order.positive c.args.counted.order.limited

pub values-requires-clause-scaled : goal.values-requires-clause-scaled
values-requires-clause-scaled g c = c.args.part.scaled

pub from_entries-matrix-requires-clause-some_rows : goal.from_entries-matrix-requires-clause-some_rows
from_entries-matrix-requires-clause-some_rows g c = c.args.part.dim.some

pub from_entries-matrix-requires-clause-some_cols : goal.from_entries-matrix-requires-clause-some_cols
from_entries-matrix-requires-clause-some_cols g c = c.args.part.dim.some

pub from_entries-matrix-requires-clause-filled : goal.from_entries-matrix-requires-clause-filled
from_entries-matrix-requires-clause-filled g c = c.in_ok-entries.ensures.count ∙ c.square-size.ensures

pub from_entries-matrix-requires-clause-one_order : goal.from_entries-matrix-requires-clause-one_order
from_entries-matrix-requires-clause-one_order g c = one-order g.S.Scalar.order_of c.args.counted.order.n c.in_ok-entries.entries.items c.in_ok-entries.ensures.orders

pub with_matrix-requires : goal.with_matrix-requires
with_matrix-requires g c = c.in_ok-entries.ensures.scaled

pub returns-in_err-words-clause-fails : goal.returns-in_err-words-clause-fails
returns-in_err-words-clause-fails g c = let made : StepFails (IsFilling c.args.counted c.args.part) c.args.line.now errors.Memory = memory_fails (IsFilling c.args.counted c.args.part) c.args.line.now in search rules

pub returns-in_default-clause-fails : goal.returns-in_default-clause-fails
returns-in_default-clause-fails g c = matrix-no_words c.args.counted c.args.part (c.len.result + 1) c.deref.result.now c.args.line.now (ap (λ n. n + 1) (let made : c.len.result ≡ length c.args.part.mats.items = (let l = c.len.ensures in search rules) in made)) (c.deref.ensures.value ∙ c.in_ok-words.ensures) (c.in_default.ensures.none refl)

pub returns-in_err-entries-clause-fails : goal.returns-in_err-entries-clause-fails
returns-in_err-entries-clause-fails g c = let made : StepFails (IsFilling c.args.counted c.args.part) c.args.line.now c.in_err-entries.field-0.0 = matrix-fails c.args.counted c.args.part (c.len.result + 1) c.deref.result.now c.args.line.now c.in-Some.text.now c.in_err-entries.field-0.0 (ap (λ n. n + 1) (let made : c.len.result ≡ length c.args.part.mats.items = (let l = c.len.ensures in search rules) in made)) (c.deref.ensures.value ∙ c.in_ok-words.ensures) c.in-Some.ensures.some c.square-size.result c.square-size.ensures c.in_err-entries.ensures.fault in search rules

pub returns-in_err-next-clause-fails : goal.returns-in_err-next-clause-fails
returns-in_err-next-clause-fails g c = let made : StepFails (IsFilling c.args.counted c.args.part) c.args.line.now errors.Memory = memory_fails (IsFilling c.args.counted c.args.part) c.args.line.now in search rules

pub returns-then-is_unfilled-clause-steps : goal.returns-then-is_unfilled-clause-steps
returns-then-is_unfilled-clause-steps g c = matrix-steps c.args.counted c.args.part c.from_entries-matrix.result _ (c.len.result + 1) c.deref.result.now c.args.line.now c.in-Some.text.now (ap (λ n. n + 1) (let made : c.len.result ≡ length c.args.part.mats.items = (let l = c.len.ensures in search rules) in made)) (c.deref.ensures.value ∙ c.in_ok-words.ensures) c.in-Some.ensures.some c.square-size.result c.square-size.ensures c.in_ok-entries.entries.items c.from_entries-matrix.ensures.entries c.in_ok-entries.ensures.read c.from_entries-matrix.ensures.rows c.from_entries-matrix.ensures.cols c.in_ok-next.next (c.is_unfilled.ensures.more c.if-is_unfilled.true) c.in_ok-next.ensures.dim c.in_ok-next.ensures.chars c.in_ok-next.ensures.mats c.in_ok-next.ensures.scale

pub returns-in_err-counted-clause-fails : goal.returns-in_err-counted-clause-fails
returns-in_err-counted-clause-fails g c = let made : StepFails (IsFilling c.args.counted c.args.part) c.args.line.now errors.Memory = memory_fails (IsFilling c.args.counted c.args.part) c.args.line.now in search rules

pub returns-clause-steps : goal.returns-clause-steps
returns-clause-steps g c = last-steps c.args.counted c.args.part c.from_entries-matrix.result _ (c.len.result + 1) c.deref.result.now c.args.line.now c.in-Some.text.now (ap (λ n. n + 1) (let made : c.len.result ≡ length c.args.part.mats.items = (let l = c.len.ensures in search rules) in made)) (c.deref.ensures.value ∙ c.in_ok-words.ensures) c.in-Some.ensures.some c.square-size.result c.square-size.ensures c.in_ok-entries.entries.items c.from_entries-matrix.ensures.entries c.in_ok-entries.ensures.read c.from_entries-matrix.ensures.rows c.from_entries-matrix.ensures.cols c.in_ok-counted.counted c.in_ok-next.next (c.is_unfilled.ensures.last c.if-is_unfilled.false) c.in_ok-counted.ensures.wave c.in_ok-counted.ensures.order c.in_ok-counted.ensures.ops c.in_ok-counted.ensures.count c.in_ok-counted.ensures.reps c.in_ok-next.ensures.dim c.in_ok-next.ensures.chars c.in_ok-next.ensures.mats
