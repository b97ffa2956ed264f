-- One more entry.
use Rattle.std.proofs.Common.{rules, ◌≡◌, subst, length}
use Rattle.irr_mult.specs.declared.part.RepParts.{RepParts}
use Rattle.irr_side.proofs.EachItems.{each_more, each_none}
use Rattle.irr_subduce.specs.Meetings.{AreEntries, IsEntry}
use Rattle.irr_subduce.proofs.entries.entries.Goals as goal

pub loop-a-init : goal.loop-a-init
loop-a-init g c group sub image k ws s = each_none (λ a (r : RepParts). IsEntry sub image c.args.order.now.n s.given.is_side a r)
    c.new-entries.result.items c.new-entries.ensures.items

pub loop-a-preserved : goal.loop-a-preserved
loop-a-preserved g c group sub image k ws s = each_more (λ a (r : RepParts). IsEntry sub image c.args.order.now.n s.given.is_side a r)
    c.loop-a.a c.loop-a.entries.items c.push.new.self.items c.in_ok-entry.entry c.in_ok-push.ensures.items
    (c.loop-a.invariant group sub image k ws s) (c.in_ok-entry.ensures group sub image k ws s)

pub returns : goal.returns
returns g c group sub image k ws s =
    let done : c.loop-a.a ≡ length c.args.side.now.fulls.items = search rules in
    subst (λ n. AreEntries sub image c.args.order.now.n s.given.is_side n c.loop-a.entries.items) done
    (c.loop-a.invariant group sub image k ws s)
