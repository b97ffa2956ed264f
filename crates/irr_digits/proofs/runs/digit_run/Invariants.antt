-- The bytes so far are digits.
use Rattle.std.proofs.Common.{◌≤◌, ◌-◌, length, take}
use Rattle.std.specs.Str.Parse.{AllDigits}
use Rattle.irr_digits.proofs.runs.digit_run.Given as goal

abbrev pub invariant-loop-run : goal.invariant-loop-run
invariant-loop-run l = (l.run ≤ length l.text) × AllDigits 10 (take l.run l.text)

abbrev pub decreases-loop-run : goal.decreases-loop-run
decreases-loop-run l = length l.text - l.run
