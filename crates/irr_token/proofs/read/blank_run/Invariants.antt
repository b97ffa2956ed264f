-- The bytes so far are blanks.
use Rattle.std.proofs.Common.{◌≤◌, ◌-◌, length, take}
use Rattle.irr_token.specs.Kinds.{AreBlanks}
use Rattle.irr_token.proofs.read.blank_run.Given as goal

abbrev pub invariant-loop-run : goal.invariant-loop-run
invariant-loop-run l = (l.run ≤ length l.text) × AreBlanks (take l.run l.text)

abbrev pub decreases-loop-run : goal.decreases-loop-run
decreases-loop-run l = length l.text - l.run
