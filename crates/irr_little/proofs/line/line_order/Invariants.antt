-- The order of the points so far.
use Rattle.irr_little.proofs.LineOrders.{IsOrderSoFar}
use Rattle.irr_little.proofs.line.line_order.Given as goal

abbrev pub invariant-loop-i : goal.invariant-loop-i
invariant-loop-i l = IsOrderSoFar l.group l.points l.exponent l.i l.common
