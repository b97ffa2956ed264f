-- The meetings so far.
use Rattle.std.proofs.Common.{get_or}
use Rattle.irr_mult.specs.declared.star.StarCharacters.{StarCharacters}
use Rattle.irr_side.specs.ArmTraces.{AreEach}
use Rattle.irr_subduce.specs.Meetings.{IsMeeting}
use Rattle.irr_subduce.specs.declared.meetings.Meeting.{Meeting}
use Rattle.irr_subduce.proofs.meetings.meetings.Given as goal

abbrev pub invariant-loop-star : goal.invariant-loop-star
invariant-loop-star g l = AreEach (λ n (t : Meeting). (e : StarCharacters g.row.S.Denot)
    → IsMeeting l.group l.sub l.waves (get_or l.stars n e).wave t) l.star-index l.made.items
