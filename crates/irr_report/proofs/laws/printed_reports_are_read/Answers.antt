-- Part by part.
use Rattle.irr_report.proofs.ReadableReports.{read-readable}
use Rattle.irr_report.proofs.laws.printed_reports_are_read.Goals as goal

pub returns : goal.returns
returns c = read-readable
