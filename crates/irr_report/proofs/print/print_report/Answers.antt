-- The lines are those of the content.
use Rattle.std.proofs.Common.{◌∙◌, ap}
use Rattle.irr_text.specs.ReportText.{report_text}
use Rattle.irr_report.proofs.Contents.{printed-content}
use Rattle.irr_report.proofs.ListReports.{content-list}
use Rattle.irr_report.proofs.print.print_report.Goals as goal

pub returns-clause-text : goal.returns-clause-text
returns-clause-text g c = c.in_ok-text.ensures ∙ printed-content c.args.r.now c.requires

pub returns-clause-list : goal.returns-clause-list
returns-clause-list g c = λ h ops T L is. c.in_ok-text.ensures ∙ printed-content c.args.r.now c.requires
    ∙ ap report_text (content-list c.args.r.now ops T L is)
