-- One more member.
use Rattle.std.proofs.Common.{rules, ◌≡◌, subst, length}
use Rattle.irr_side.proofs.EachItems.{each_more, each_none}
use Rattle.irr_power.specs.Meetings.{AreEntries, IsEntry}
use Rattle.irr_power.proofs.entries.entries.Goals as goal

pub loop-member-init : goal.loop-member-init
loop-member-init g c group k sums s = each_none _ c.new-entries.result.items c.new-entries.ensures.items

pub loop-member-preserved : goal.loop-member-preserved
loop-member-preserved g c group k sums s = each_more (IsEntry c.args.order.now.n s.given.is_side) c.loop-member.member c.loop-member.entries.items
    c.push.new.self.items c.in_ok-entry.entry c.in_ok-push.ensures.items (c.loop-member.invariant group k sums s)
    (c.in_ok-entry.ensures group k sums s)

pub returns : goal.returns
returns g c group k sums s =
    let done : c.loop-member.member ≡ length c.args.side.now.fulls.items = search rules in
    subst (λ n. AreEntries c.args.order.now.n s.given.is_side n c.loop-member.entries.items) done (c.loop-member.invariant group k sums s)
