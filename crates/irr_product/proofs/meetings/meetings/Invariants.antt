-- The meetings so far.
use Rattle.std.proofs.Common.{get_or}
use Rattle.irr_mult.specs.declared.star.StarCharacters.{StarCharacters}
use Rattle.irr_side.specs.ArmTraces.{AreEach}
use Rattle.irr_product.specs.Meetings.{IsMeeting}
use Rattle.irr_product.specs.declared.meetings.Meeting.{Meeting}
use Rattle.irr_product.proofs.meetings.meetings.Given as goal

abbrev pub invariant-loop-star : goal.invariant-loop-star
invariant-loop-star g l = AreEach (λ n (t : Meeting g.row.S.Denot). (e : StarCharacters g.row.S.Denot)
    → IsMeeting {V = g.S.Scalar} l.group l.order.n l.left.fulls.items l.right.fulls.items l.sums (get_or l.stars n e).wave t)
    l.star-index l.made.items
