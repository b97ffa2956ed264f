-- The terms so far are within the limits.
use Rattle.irr_numeral.proofs.LimitPlaces.{AreWithin}
use Rattle.irr_numeral.proofs.limits.first_beyond.Given as goal

abbrev pub invariant-loop-term : goal.invariant-loop-term
invariant-loop-term l = AreWithin l.n l.terms l.term-index
