-- The report of a wave vector.
use Rattle.irr_lattice.proofs.ReportOfOne.{one_report, one_report-is_report, report_text-one}
use Rattle.irr_lattice.proofs.reports_of_no_generators.Goals as goal

pub returns : goal.returns
returns c = λ s k w n p r o. (one_report w n p, one_report-is_report w n p s k r o, report_text-one w n p)
