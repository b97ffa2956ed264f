-- The places so far are those of the operations that carry k to -k, so far.
use Rattle.irr_kvec.specs.WaveMeaning.{wave_vector}
use Rattle.irr_little.specs.Places.{AreListed}
use Rattle.irr_real.specs.Places.{IsReversingPlace}
use Rattle.irr_real.proofs.places.reversing_places.Given as goal

abbrev pub invariant-loop-place : goal.invariant-loop-place
invariant-loop-place l = AreListed (IsReversingPlace l.group (wave_vector l.k)) l.place l.places.items
