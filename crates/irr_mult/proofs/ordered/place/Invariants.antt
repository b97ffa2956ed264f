-- Those before it.
use Rattle.irr_mult.proofs.OrderedLists.{BelowSoFar}
use Rattle.irr_mult.proofs.ordered.place.Given as goal

abbrev pub invariant-loop-i : goal.invariant-loop-i
invariant-loop-i l = BelowSoFar l.found l.wave l.i
