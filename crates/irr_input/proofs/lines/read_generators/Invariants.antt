-- The lines so far say the generators, and the rest follows them.
use Rattle.std.proofs.Common.{length, ◌+◌, ◌≤◌}
use Rattle.irr_input.specs.LineReading.{AreRead}
use Rattle.irr_input.proofs.LineReadings.{AreReadable}
use Rattle.irr_input.proofs.lines.read_generators.Given as goal

abbrev pub invariant-loop-line : goal.invariant-loop-line
invariant-loop-line l = AreRead l.gens.items l.left.lines l.left.text.now l.lines l.rest × AreReadable l.gens.items × (length l.gens.items ≤ l.lines)
    × (l.lines + length l.rest ≤ l.left.lines + length l.left.text.now) × (l.left.lines ≤ l.lines)

abbrev pub decreases-loop-line : goal.decreases-loop-line
decreases-loop-line l = length l.rest
