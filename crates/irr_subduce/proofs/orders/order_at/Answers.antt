-- The order is above the limit.
use Rattle.std.proofs.Common.{subst, ◌<◌}
use Rattle.irr_subduce.proofs.orders.order_at.Goals as goal

pub returns-then-order-from-clause-refused : goal.returns-then-order-from-clause-refused
returns-then-order-from-clause-refused c = (subst (λ m. m < c.own_order-order.result) c.from.ensures c.if-order-from.true, c.own_order-order.ensures)
