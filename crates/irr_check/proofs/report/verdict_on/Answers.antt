-- The verdict with a table.
use Rattle.std.proofs.Common.{sym, ◌∙◌, subst, All, Some, None}
use Rattle.irr_seitz.specs.PhaseMeaning.{sign_of}
use Rattle.irr_close.specs.StandsFor.{stands_for}
use Rattle.irr_rep.specs.Twisted.{operation_places, phase_table, place_count}
use Rattle.irr_report.specs.Content.{content_of}
use Rattle.irr_check.specs.declared.verdict.Verdict.TheVariants.{No}
use Rattle.irr_check.specs.declared.verdict.Clause.TheVariants.{Order}
use Rattle.irr_check.specs.Operations.{IsFirstOther}
use Rattle.irr_check.specs.Trials.Reading.{dimensions}
use Rattle.irr_report.specs.Limits.{IsChecked}
use Rattle.irr_check.specs.Listed.{families_of}
use Rattle.irr_check.specs.Verdict.{IsFamiliesVerdict, IsVerdict}
use Rattle.irr_check.proofs.ReportVerdicts.{checked_at, families_verdict_of, operations_verdict, order_verdict}
use Rattle.irr_check.proofs.report.verdict_on.Goals as goal

pub returns-then-report-order : goal.returns-then-report-order
returns-then-report-order g c =
    let group = c.args.group.now in
    let report = c.args.report.now in
    subst (λ n. IsVerdict dimensions (sign_of group.phase) (stands_for group) (content_of report) (No Order 0 n 0))
    (sym c.order-then-report-order.ensures.order)
    (order_verdict group report c.requires.limits (operation_places c.args.t.now) (phase_table c.args.t.now) c.requires.table
    (λ e. c.if-report-order.true (e ∙ sym c.order.ensures.order)))

pub returns-in-Some : goal.returns-in-Some
returns-in-Some g c =
    let group = c.args.group.now in
    let report = c.args.report.now in
    operations_verdict group report c.requires.limits (operation_places c.args.t.now) (phase_table c.args.t.now) c.requires.table
    (c.if-report-order.false ∙ c.order.ensures.order) c.in-Some.i
    (subst (λ ops. IsFirstOther group.ops.items (operation_places c.args.t.now) ops (Some c.in-Some.i)) c.deref.ensures.value c.in-Some.ensures.first)

pub families_verdict-requires-clause-checked : goal.families_verdict-requires-clause-checked
families_verdict-requires-clause-checked g c =
    let group = c.args.group.now in
    let report = c.args.report.now in
    let T = phase_table c.args.t.now in
    subst (All (IsChecked T.order (place_count c.args.t.now))) (sym c.deref-2.ensures.value)
    (checked_at group report c.requires.limits (operation_places c.args.t.now) T c.requires.table (c.if-report-order.false ∙ c.order.ensures.order)
    (subst (λ ops. IsFirstOther group.ops.items (operation_places c.args.t.now) ops None) c.deref.ensures.value c.in_default.ensures.first))

pub returns : goal.returns
returns g c =
    let group = c.args.group.now in
    let report = c.args.report.now in
    let T = phase_table c.args.t.now in
    families_verdict_of group report c.requires.limits (operation_places c.args.t.now) T c.requires.table
    (c.if-report-order.false ∙ c.order.ensures.order)
    (subst (λ ops. IsFirstOther group.ops.items (operation_places c.args.t.now) ops None) c.deref.ensures.value c.in_default.ensures.first)
    c.in_ok-verdict.verdict
    (subst (λ reps. IsFamiliesVerdict dimensions T (families_of T reps) c.in_ok-verdict.verdict) c.deref-2.ensures.value c.in_ok-verdict.ensures)
