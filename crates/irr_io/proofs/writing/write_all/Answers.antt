-- After a write that took some bytes of the rest, more of them are written.
use Rattle.std.proofs.Common.{rules}
use Rattle.std.proofs.lemmas.List.{take_rest}
use Rattle.irr_io.proofs.SoFar.{WrittenSoFar-more}
use Rattle.irr_io.proofs.writing.write_all.Goals as goal

pub loop-done-preserved : goal.loop-done-preserved
loop-done-preserved g c =
    let wrote = c.in_ok-done.ensures in
    let rest = take_rest c.args.bytes.now c.loop-done.done in
    WrittenSoFar-more _ c.in_ok-done.field-0 c.loop-done.invariant (search rules) rest wrote.fits wrote.progress wrote.gained wrote.never_falls wrote.counted
