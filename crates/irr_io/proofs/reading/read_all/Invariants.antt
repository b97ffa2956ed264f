-- The front of the buffer is what was read, and each read brings it nearer to the limit.
use Rattle.std.proofs.Common.{◌+◌, ◌-◌}
use Rattle.irr_io.proofs.SoFar.{FilledSoFar}
use Rattle.irr_io.proofs.reading.read_all.Given as goal

abbrev pub invariant-loop-filled : goal.invariant-loop-filled
invariant-loop-filled g l =
    FilledSoFar (g.I.Source.view l.initial.source) (g.I.Source.view l.source) l.bytes.items l.filled l.limit

abbrev pub decreases-loop-filled : goal.decreases-loop-filled
decreases-loop-filled g l = l.limit + 1 - l.filled
