-- The numbers so far.
use Rattle.irr_check.proofs.MadeReports.{RootsSoFar}
use Rattle.irr_check.proofs.tests.roots.Given as goal

abbrev pub invariant-loop-e : goal.invariant-loop-e
invariant-loop-e g l = RootsSoFar g.S.Scalar.order_of g.S.Scalar.value l.order.n l.e-index l.row.items
