-- The lines so far are skipped, and the rest follows them.
use Rattle.std.proofs.Common.{length, ◌+◌, ◌≤◌}
use Rattle.irr_input.proofs.LineReadings.{SkippedTo}
use Rattle.irr_input.proofs.lines.needed_line.Given as goal

abbrev pub invariant-loop-rest : goal.invariant-loop-rest
invariant-loop-rest l = SkippedTo l.left.lines l.left.text.now l.lines l.rest × (l.lines + length l.rest ≤ l.left.lines + length l.left.text.now) × (l.left.lines ≤ l.lines)

abbrev pub decreases-loop-rest : goal.decreases-loop-rest
decreases-loop-rest l = length l.rest
