use Rattle.std.proofs.Common.{◌≡◌, refl, ◌+◌, ◌<◌, length, rules, arith}
use Rattle.std.specs.Prelude.{IsTrue}
use Rattle.std.proofs.lemmas.Grind.{common_steps}
use Rattle.irr_input.specs.declared.keyword.Keyword.TheVariants.{Report}
use Rattle.irr_input.specs.declared.input.InputError.{InputError}
use Rattle.irr_input.specs.InputLines.{IsAt}
use Rattle.irr_input.specs.LineReading.{IsEndFault}
use Rattle.irr_input.proofs.LineCounts.{none_counted, all_counted}
use Rattle.irr_input.proofs.SubgroupReadings.{end_misplaced, report_faulty}
use Rattle.irr_input.proofs.section.read_end.Goals as goal

pub returns-then-is_empty-clause-lines : goal.returns-then-is_empty-clause-lines
returns-then-is_empty-clause-lines g c =
    let none : length c.args.left.text.now ≡ 0 = grind (arith, common_steps) in
    (0, all_counted c.args.left.text.now c.args.left.text.now 0 (none_counted c.args.left.text.now) none, omega arith)

pub returns-then-not-is_at-clause-fault : goal.returns-then-not-is_at-clause-fault
returns-then-not-is_at-clause-fault g c =
    let some : 0 < length c.args.left.text.now = grind (arith, common_steps) in
    let none : ¬ (IsAt Report c.args.left.text.now) = (λ a. let t : IsTrue c.is_at.result = c.is_at.ensures.1 a in absurd (cc (c.if-not-is_at.true))) in
    end_misplaced c.args.left.lines (c.args.left.lines + 1) c.args.left.text.now some none refl

pub returns-in_err-report-clause-fault : goal.returns-in_err-report-clause-fault
returns-in_err-report-clause-fault g c =
    let e : InputError = c.in_err-report.field-0.0 in
    let t : IsTrue c.is_at.result = search rules in
    let r : IsEndFault c.args.left.lines c.args.left.text.now e = report_faulty c.args.left.lines c.args.left.text.now e (c.is_at.ensures.0 t) c.in_err-report.ensures.fault in
    search rules
