-- The inverse carries the inverse of the phase.
use Rattle.std.proofs.Common.{sym, ap₂, ◌-◌, ◌*◌, ◌%◌}
use Rattle.irr_rep.specs.Twisted.{phase_table}
use Rattle.irr_root.proofs.TurnedProducts.{opposite-turned}
use Rattle.irr_root.proofs.sandwich.opposite.Goals as goal

pub returns-clause-turned : goal.returns-clause-turned
returns-clause-turned c M v k e =
    let T = phase_table c.args.t.now in
    let place = c.inverse-place.ensures.inverse k e in
    opposite-turned T M v k c.inverse-place.result ((c.order-order.result - 1) * c.phase.result % c.order-order.result) place
    (ap₂ (λ a b. (a - 1) * b % a) c.order-order.ensures.order (c.phase.ensures.exponent k (T.opposite k) e (sym place)))
