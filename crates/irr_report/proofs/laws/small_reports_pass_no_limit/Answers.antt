-- Line by line.
use Rattle.irr_report.proofs.ModestReports.{modest-within}
use Rattle.irr_report.proofs.laws.small_reports_pass_no_limit.Goals as goal

pub returns : goal.returns
returns c = modest-within
