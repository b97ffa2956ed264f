-- What is answered on the lines of an input.
use Rattle.std.proofs.Common.{refl}
use Rattle.irr_input.specs.InputLines.{content, sub_content}
use Rattle.irr_top.specs.Asked.{input_limit}
use Rattle.irr_top.specs.Asked.AsksOfLines.{faulty_line, limited_line, input}
use Rattle.irr_top.specs.Outcome.Serves.{serves, without_memory}
use Rattle.irr_top.proofs.LineNumbers.{lines_within}
use Rattle.irr_top.proofs.LimitedSections.{limited_section}
use Rattle.irr_top.proofs.Outcomes.{serves_more}
use Rattle.irr_top.proofs.answer.answer_lines.Goals as goal

pub answer_input-requires-clause-few : goal.answer_input-requires-clause-few
answer_input-requires-clause-few g c = lines_within c.args.bytes.now c.in-Ok.input.lines input_limit c.in-Ok.ensures.lines c.requires.within

pub answer_input-requires-clause-sections : goal.answer_input-requires-clause-sections
answer_input-requires-clause-sections g c = limited_section c.in-Ok.input.sub c.in-Ok.input.lines
    (lines_within c.args.bytes.now c.in-Ok.input.lines input_limit c.in-Ok.ensures.lines c.requires.within)
    c.in-Ok.ensures.setting c.in-Ok.ensures.subgroup c.in-Ok.ensures.few_subgroup

pub returns-in-Ok : goal.returns-in-Ok
returns-in-Ok g c = serves_more (λ s text a. input c.in-Ok.input.gens.items (sub_content c.in-Ok.input.sub) (content c.in-Ok.input.report) c.in-Ok.input.lines
    c.in-Ok.ensures.input c.in-Ok.ensures.lines a) c.answer_input.ensures

pub returns-in-Err-Bad : goal.returns-in-Err-Bad
returns-in-Err-Bad g c = serves (faulty_line (let f = rw c.in-Err-Bad.field-0-is at c.in-Err-Bad.ensures.fault in f)) c.refuse.ensures

pub returns-in-Err-ReportRange : goal.returns-in-Err-ReportRange
returns-in-Err-ReportRange g c = serves (limited_line (let f = rw c.in-Err-ReportRange.field-0-is at c.in-Err-ReportRange.ensures.fault in f))
    c.refuse-in-Err-ReportRange.ensures

pub returns-in-Err-Memory : goal.returns-in-Err-Memory
returns-in-Err-Memory g c = without_memory refl
