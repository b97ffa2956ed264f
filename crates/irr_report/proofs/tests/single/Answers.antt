-- One entry has one order.
use Rattle.irr_rep.proofs.SingleEntries.{only_item, single_order}
use Rattle.irr_report.proofs.tests.single.Goals as goal

pub from_entries-requires-clause-one_order : goal.from_entries-requires-clause-one_order
from_entries-requires-clause-one_order g c =
    single_order g.S.Scalar.order_of c.args.order.now.n c.push.new.self.items c.in_ok-entry.entry
    (only_item c.push.new.self.items c.new-entries.result.items c.in_ok-entry.entry c.in_ok-push.ensures.items c.new-entries.ensures.items)
    c.in_ok-entry.ensures.order
