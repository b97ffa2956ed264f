-- The places so far are those of the little group so far.
use Rattle.irr_kvec.specs.WaveMeaning.{wave_vector}
use Rattle.irr_little.specs.Places.{AreListed, IsLittlePlace}
use Rattle.irr_little.proofs.places.little_places.Given as goal

abbrev pub invariant-loop-place : goal.invariant-loop-place
invariant-loop-place l = AreListed (IsLittlePlace l.group (wave_vector l.k)) l.place l.places.items
