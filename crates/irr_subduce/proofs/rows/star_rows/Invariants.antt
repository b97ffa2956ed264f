-- The rows so far.
use Rattle.std.proofs.Common.{get_or, Vec, Global}
use Rattle.irr_side.specs.ArmTraces.{AreEach}
use Rattle.irr_subduce.specs.PartTraces.{IsPartRow}
use Rattle.irr_subduce.specs.declared.meetings.Meeting.{Meeting}
use Rattle.irr_subduce.proofs.rows.star_rows.Given as goal

abbrev pub invariant-loop-meeting : goal.invariant-loop-meeting
invariant-loop-meeting g l = AreEach (λ n (row : Vec g.row.S.Denot Global). (t : Meeting)
    → IsPartRow {V = g.S.Scalar} l.order.n l.full (get_or l.meetings n t).arms.items (get_or l.meetings n t).images.items row.items)
    l.meeting-index l.rows.items
