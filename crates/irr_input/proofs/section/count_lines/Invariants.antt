-- So many lines are counted, and those of the rest follow.
use Rattle.std.proofs.Common.{length, ◌+◌, ◌≤◌}
use Rattle.irr_input.proofs.LineCounts.{CountedSoFar}
use Rattle.irr_input.proofs.section.count_lines.Given as goal

abbrev pub invariant-loop-rest : goal.invariant-loop-rest
invariant-loop-rest l = CountedSoFar l.text l.rest l.lines × (l.lines + length l.rest ≤ length l.text)

abbrev pub decreases-loop-rest : goal.decreases-loop-rest
decreases-loop-rest l = length l.rest
