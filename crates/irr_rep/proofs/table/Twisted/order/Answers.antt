-- The order stands in the program's value.
use Rattle.std.proofs.Common.{sym}
use Rattle.irr_rep.proofs.Readings.{order-phase_table}
use Rattle.irr_rep.proofs.table.Twisted.order.Goals as goal

pub returns-clause-order : goal.returns-clause-order
returns-clause-order c = sym (order-phase_table c.args.self.now)
