-- The verdict on a report.
use Rattle.irr_seitz.specs.PhaseMeaning.{sign_of}
use Rattle.irr_close.specs.StandsFor.{stands_for}
use Rattle.irr_cyc.specs.declared.orders.TheConstants.{ORDER_LIMIT}
use Rattle.irr_rep.specs.Twisted.{operation_places, phase_table}
use Rattle.irr_report.specs.Content.{content_of}
use Rattle.irr_check.proofs.ReportVerdicts.{order_within, sizes_of}
use Rattle.irr_check.proofs.Verdicts.{complete_of_yes, verdict_meant_of}
use Rattle.irr_check.proofs.report.check.Goals as goal

pub returns-in_ok-verdict-in-Ok-clause-verdict : goal.returns-in_ok-verdict-in-Ok-clause-verdict
returns-in_ok-verdict-in-Ok-clause-verdict g c =
    let group = c.args.group.now in
    let report = c.args.report.now in
    verdict_meant_of (sign_of group.phase) (stands_for group) (content_of report) (sizes_of report c.requires) c.in_ok-verdict-in-Ok.ensures

pub returns-in_ok-verdict-in-Ok-clause-yes : goal.returns-in_ok-verdict-in-Ok-clause-yes
returns-in_ok-verdict-in-Ok-clause-yes g c is_yes =
    let group = c.args.group.now in
    let report = c.args.report.now in
    complete_of_yes (sign_of group.phase) (stands_for group) (content_of report) (sizes_of report c.requires) c.in_ok-verdict-in-Ok.ensures is_yes

pub returns-in_ok-verdict-in-Ok-clause-accepted : goal.returns-in_ok-verdict-in-Ok-clause-accepted
returns-in_ok-verdict-in-Ok-clause-accepted g c n order =
    let t = c.in-Ok.t in
    order_within c.args.group.now c.args.report.now c.requires (operation_places t) (phase_table t) c.in-Ok.ensures.table ORDER_LIMIT
    c.in-Ok.ensures.accepted n order
