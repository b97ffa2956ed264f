-- The first numbers.
use Rattle.irr_mult.proofs.LiftedRows.{LiftedSoFar}
use Rattle.irr_mult.proofs.lifting.lifted.Given as goal

abbrev pub invariant-loop-x : goal.invariant-loop-x
invariant-loop-x g l = LiftedSoFar g.S.Scalar.order_of g.S.Scalar.value l.order.n l.row l.x-index l.made.items
