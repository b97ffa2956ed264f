-- From what passes no limit.
use Rattle.irr_triplet.specs.TripletFault.{IsTextOf}
use Rattle.irr_report.specs.ReportFault.{IsWaveText}
use Rattle.irr_report.proofs.ReadLimits.{read-limited}
use Rattle.irr_report.proofs.laws.read_reports_are_limited.Goals as goal

pub returns : goal.returns
returns c = read-limited IsWaveText IsTextOf
