-- Its numbers are within the limits, and no line passes one.
use Rattle.irr_report.proofs.ModestReports.{modest-small, modest-within}
use Rattle.irr_report.proofs.ReadableReports.{read-readable}
use Rattle.irr_report.proofs.laws.small_reports_are_read.Goals as goal

pub returns : goal.returns
returns c = λ r modest parts places sizes. read-readable r (modest-small r modest places sizes) parts (modest-within r modest)
