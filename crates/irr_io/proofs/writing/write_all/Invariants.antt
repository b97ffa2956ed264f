-- The first bytes are written, and each write leaves less to write.
use Rattle.std.proofs.Common.{length, ◌-◌}
use Rattle.irr_io.proofs.SoFar.{WrittenSoFar}
use Rattle.irr_io.proofs.writing.write_all.Given as goal

abbrev pub invariant-loop-done : goal.invariant-loop-done
invariant-loop-done g l =
    WrittenSoFar (g.O.Sink.view l.initial.sink) (g.O.Sink.view l.sink) l.bytes l.done

abbrev pub decreases-loop-done : goal.decreases-loop-done
decreases-loop-done g l = length l.bytes - l.done
