-- Part by part.
use Rattle.irr_report.proofs.OneReport.{one-report, one-report-text}
use Rattle.irr_report.proofs.laws.one_report_is_written.Goals as goal

pub returns-clause-lines : goal.returns-clause-lines
returns-clause-lines c = one-report

pub returns-clause-text : goal.returns-clause-text
returns-clause-text c = one-report-text
