-- The rows so far.
use Rattle.std.proofs.Common.{get_or, Vec, Global}
use Rattle.irr_side.specs.ArmTraces.{AreEach}
use Rattle.irr_power.specs.Halves.{difference_of, sum_of}
use Rattle.irr_power.specs.Meetings.{IsSquareRow}
use Rattle.irr_power.specs.declared.meetings.Meeting.{Meeting}
use Rattle.irr_power.proofs.rows.star_rows.Given as goal

abbrev pub invariant-loop-meeting : goal.invariant-loop-meeting
invariant-loop-meeting g l = AreEach (λ i (row : Vec g.row.S.Denot Global). (t : Meeting)
    → IsSquareRow {V = g.S.Scalar} sum_of l.order.n l.full (get_or l.meetings i t) row.items) l.meeting-index l.symmetric.items
    × AreEach (λ i (row : Vec g.row.S.Denot Global). (t : Meeting)
    → IsSquareRow {V = g.S.Scalar} difference_of l.order.n l.full (get_or l.meetings i t) row.items) l.meeting-index l.antisymmetric.items
