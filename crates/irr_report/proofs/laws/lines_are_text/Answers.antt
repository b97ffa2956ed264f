-- No line has the end of a line in it.
use Rattle.irr_report.proofs.LineEnds.{text-of-report}
use Rattle.irr_report.proofs.laws.lines_are_text.Goals as goal

pub returns : goal.returns
returns c = text-of-report
