-- The entries so far.
use Rattle.irr_real.proofs.PowerMatrices.{PowersSoFar}
use Rattle.irr_real.proofs.tests.matrix.Given as goal

abbrev pub invariant-loop-power : goal.invariant-loop-power
invariant-loop-power g l = PowersSoFar g.S.Scalar.order_of g.S.Scalar.value l.order.n l.power-index l.entries.items
