-- The lines so far lead to the stage, and those of the rest follow.
use Rattle.std.proofs.Common.{length, ◌+◌, ◌≤◌}
use Rattle.irr_report.specs.ReportStages.{ReadSoFar}
use Rattle.irr_report.proofs.read.read_report.Given as goal

abbrev pub invariant-loop-rest : goal.invariant-loop-rest
invariant-loop-rest g l = ReadSoFar l.text l.rest l.number l.stage × (l.number + length l.rest ≤ length l.text)

abbrev pub decreases-loop-rest : goal.decreases-loop-rest
decreases-loop-rest g l = length l.rest
