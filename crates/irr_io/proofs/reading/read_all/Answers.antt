-- After a read that put some bytes behind the first, the front is longer.
use Rattle.std.proofs.Common.{rules}
use Rattle.irr_io.proofs.SoFar.{FilledSoFar-more}
use Rattle.irr_io.proofs.reading.read_all.Goals as goal

pub loop-filled-preserved : goal.loop-filled-preserved
loop-filled-preserved g c =
    let read = c.in_ok-n.ensures in
    FilledSoFar-more c.read_after.new.bytes.items c.in_ok-n.n c.loop-filled.invariant (search rules) (search rules) read.fits c.if-n-eq0.false read.taken read.never_falls read.counted
