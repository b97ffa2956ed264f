-- Line by line.
use Rattle.irr_report.proofs.PrintedReports.{report_text-lines}
use Rattle.irr_report.proofs.laws.printed_reports_have_lines.Goals as goal

pub returns : goal.returns
returns c = report_text-lines
