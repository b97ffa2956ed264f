-- The places so far.
use Rattle.std.proofs.Common.{◌≡◌, vec_len}
use Rattle.irr_chain.proofs.series.tests.rotations.table_of.Given as goal

abbrev pub invariant-loop-i : goal.invariant-loop-i
invariant-loop-i l = vec_len l.places ≡ l.i
