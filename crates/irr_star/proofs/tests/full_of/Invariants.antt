-- The matrices so far.
use Rattle.irr_rep.proofs.SingleEntries.{SinglesSoFar}
use Rattle.irr_star.proofs.tests.full_of.Given as goal

abbrev pub invariant-loop-e : goal.invariant-loop-e
invariant-loop-e g l = SinglesSoFar l.order.n l.e-index l.mats.items
