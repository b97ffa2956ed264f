-- One more star.
use Rattle.std.proofs.Common.{rules, ◌≡◌, sym, subst, length, get_or, Vec, Global}
use Rattle.irr_side.specs.ArmTraces.{AreEach}
use Rattle.irr_side.proofs.EachItems.{each_none, each_of_list}
use Rattle.irr_power.specs.Halves.{difference_of, sum_of}
use Rattle.irr_power.specs.Meetings.{HasSquareRows, IsSquareRow}
use Rattle.irr_power.specs.declared.meetings.Meeting.{Meeting}
use Rattle.irr_power.proofs.rows.star_rows.Goals as goal

pub loop-meeting-init : goal.loop-meeting-init
loop-meeting-init g c = (
  each_none _ c.new-symmetric.result.items c.new-symmetric.ensures.items,
  each_none _ c.new-antisymmetric.result.items c.new-antisymmetric.ensures.items,
)

pub square_rows-requires : goal.square_rows-requires
square_rows-requires g c = subst (λ (t : Meeting). HasSquareRows {V = g.S.Scalar} c.args.order.now.n c.args.full.now t) (sym c.meeting-item.is)
    (c.requires c.loop-meeting.meeting-index c.meeting-item.result c.loop-meeting-test.true)

pub loop-meeting-preserved : goal.loop-meeting-preserved
loop-meeting-preserved g c = (
  each_of_list (λ (t : Meeting) (row : Vec g.row.S.Denot Global). IsSquareRow {V = g.S.Scalar} sum_of c.args.order.now.n c.args.full.now t row.items)
      c.args.meetings.now c.loop-meeting.meeting-index c.loop-meeting-test.true c.meeting-item.result c.meeting-item.is
      c.loop-meeting.symmetric.items c.push.new.self.items c.in_ok-sym.sym c.in_ok-push.ensures.items c.loop-meeting.invariant.0 c.in_ok-sym.ensures.0,
  each_of_list (λ (t : Meeting) (row : Vec g.row.S.Denot Global). IsSquareRow {V = g.S.Scalar} difference_of c.args.order.now.n c.args.full.now t row.items)
      c.args.meetings.now c.loop-meeting.meeting-index c.loop-meeting-test.true c.meeting-item.result c.meeting-item.is
      c.loop-meeting.antisymmetric.items c.push-in-loop-meeting.new.self.items c.in_ok-sym.anti c.in_ok-push-2.ensures.items
      c.loop-meeting.invariant.1 c.in_ok-sym.ensures.1,
)

pub returns : goal.returns
returns g c =
    let done : c.loop-meeting.meeting-index ≡ length c.args.meetings.now = search rules in (
      subst (λ m. AreEach (λ i (row : Vec g.row.S.Denot Global). (t : Meeting)
          → IsSquareRow {V = g.S.Scalar} sum_of c.args.order.now.n c.args.full.now (get_or c.args.meetings.now i t) row.items) m
          c.loop-meeting.symmetric.items) done c.loop-meeting.invariant.0,
      subst (λ m. AreEach (λ i (row : Vec g.row.S.Denot Global). (t : Meeting)
          → IsSquareRow {V = g.S.Scalar} difference_of c.args.order.now.n c.args.full.now (get_or c.args.meetings.now i t) row.items) m
          c.loop-meeting.antisymmetric.items) done c.loop-meeting.invariant.1,
    )
