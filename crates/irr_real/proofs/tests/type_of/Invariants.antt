-- The matrices so far.
use Rattle.irr_real.proofs.PowerMatrices.{MatricesSoFar}
use Rattle.irr_real.proofs.tests.type_of.Given as goal

abbrev pub invariant-loop-powers : goal.invariant-loop-powers
invariant-loop-powers g l = MatricesSoFar l.order.n l.rows l.powers-index l.mats.items
