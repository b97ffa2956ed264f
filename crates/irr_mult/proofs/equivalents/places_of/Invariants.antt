-- The places so far.
use Rattle.irr_mult.proofs.SamePlaces.{SameSoFar}
use Rattle.irr_mult.proofs.equivalents.places_of.Given as goal

abbrev pub invariant-loop-i : goal.invariant-loop-i
invariant-loop-i l = SameSoFar l.waves l.k l.i l.places.items
