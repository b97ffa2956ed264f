-- One more star.
use Rattle.std.proofs.Common.{rules, ◌≡◌, sym, subst, length, get_or}
use Rattle.irr_kvec.specs.Centrings.{IsWithinLimits}
use Rattle.irr_mult.specs.StarSearch.{IsReducedIn}
use Rattle.irr_mult.specs.declared.star.StarCharacters.{StarCharacters}
use Rattle.irr_side.specs.ArmTraces.{AreEach}
use Rattle.irr_side.proofs.EachItems.{each_none, each_of_list}
use Rattle.irr_subduce.specs.Meetings.{IsMeeting}
use Rattle.irr_subduce.specs.declared.meetings.Meeting.{Meeting}
use Rattle.irr_subduce.proofs.meetings.meetings.Goals as goal

pub loop-star-init : goal.loop-star-init
loop-star-init g c = each_none _ c.new-made.result.items c.new-made.ensures.items

pub meeting_at-requires-clause-limits : goal.meeting_at-requires-clause-limits
meeting_at-requires-clause-limits g c = subst (λ (e : StarCharacters g.row.S.Denot). IsWithinLimits e.wave) (sym c.star-item.is)
    (c.requires.limits c.loop-star.star-index c.star-item.result c.loop-star-test.true)

pub meeting_at-requires-clause-reduced : goal.meeting_at-requires-clause-reduced
meeting_at-requires-clause-reduced g c = subst (λ (e : StarCharacters g.row.S.Denot). IsReducedIn c.args.sub.now.group e.wave)
    (sym c.star-item.is) (c.requires.reduced c.loop-star.star-index c.star-item.result c.loop-star-test.true)

pub loop-star-preserved : goal.loop-star-preserved
loop-star-preserved g c = each_of_list (λ (e : StarCharacters g.row.S.Denot) (t : Meeting).
    IsMeeting c.args.group.now c.args.sub.now c.args.waves.now e.wave t)
    c.args.stars.now c.loop-star.star-index c.loop-star-test.true c.star-item.result c.star-item.is c.loop-star.made.items
    c.push.new.self.items c.in_ok-meeting.meeting c.in_ok-push.ensures.items c.loop-star.invariant c.in_ok-meeting.ensures

pub returns : goal.returns
returns g c =
    let done : c.loop-star.star-index ≡ length c.args.stars.now = search rules in
    subst (λ m. AreEach (λ n (t : Meeting). (e : StarCharacters g.row.S.Denot)
    → IsMeeting c.args.group.now c.args.sub.now c.args.waves.now (get_or c.args.stars.now n e).wave t) m c.loop-star.made.items)
    done c.loop-star.invariant
