-- The products so far.
use Rattle.irr_star.proofs.StarLists.{ProductsSoFar}
use Rattle.irr_star.proofs.listing.products.Given as goal

abbrev pub invariant-loop-i : goal.invariant-loop-i
invariant-loop-i l = ProductsSoFar l.group l.arms l.t l.i 0 l.products.items

abbrev pub invariant-loop-p : goal.invariant-loop-p
invariant-loop-p l = ProductsSoFar l.group l.arms l.t l.i l.p l.products.items
