-- The parts on the stars so far.
use Rattle.irr_mult.specs.Traced.{AreTraced, SpaceRepresentation}
use Rattle.irr_mult.proofs.AllListings.{AllSoFar}
use Rattle.irr_mult.proofs.listing.all_parts.Given as goal

abbrev pub invariant-loop-i : goal.invariant-loop-i
invariant-loop-i g l = (A : SpaceRepresentation) (t : AreTraced g.S.Scalar.order_of g.S.Scalar.value A l.stars l.traces)
    → AllSoFar g.S.Scalar.order_of g.S.Scalar.value A l.stars l.traces t l.i l.parts.items
