-- The bytes so far have no blank.
use Rattle.std.proofs.Common.{◌≤◌, ◌-◌, length, take}
use Rattle.irr_setting_text.specs.WrittenLine.{HasNoBlank}
use Rattle.irr_setting_text.proofs.row.run_length.Given as goal

abbrev pub invariant-loop-run : goal.invariant-loop-run
invariant-loop-run l = (l.run ≤ length l.text) × HasNoBlank (take l.run l.text)

abbrev pub decreases-loop-run : goal.decreases-loop-run
decreases-loop-run l = length l.text - l.run
