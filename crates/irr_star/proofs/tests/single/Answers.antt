-- One entry.
use Rattle.std.proofs.Common.{sym, ◌∙◌, subst}
use Rattle.irr_canonical.specs.RootSum.{IsRootSum}
use Rattle.irr_canonical.proofs.RootSums.{IsRootSum-root}
use Rattle.irr_rep.proofs.SingleEntries.{only_item, single_order, single_within}
use Rattle.irr_star.proofs.tests.single.Goals as goal

pub from_entries-requires-clause-one_order : goal.from_entries-requires-clause-one_order
from_entries-requires-clause-one_order g c =
    single_order g.S.Scalar.order_of c.args.order.now.n c.push.new.self.items c.in_ok-entry.entry
    (only_item c.push.new.self.items c.new-entries.result.items c.in_ok-entry.entry c.in_ok-push.ensures.items
    c.new-entries.ensures.items)
    c.in_ok-entry.ensures.order

pub returns-clause-within : goal.returns-clause-within
returns-clause-within g c =
    let n = c.args.order.now.n in
    single_within g.S.Scalar.value n c.from_entries.result.entries.items c.in_ok-entry.entry
    (c.from_entries.ensures.entries
    ∙ only_item c.push.new.self.items c.new-entries.result.items c.in_ok-entry.entry c.in_ok-push.ensures.items
    c.new-entries.ensures.items)
    (subst (IsRootSum n 1 1) (sym c.in_ok-entry.ensures.value) (IsRootSum-root n c.args.e))
