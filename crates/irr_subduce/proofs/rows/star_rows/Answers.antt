-- One more row.
use Rattle.std.proofs.Common.{rules, ◌≡◌, sym, subst, subst₂, ℕ, ◌<◌, List, length, get_or, Vec, Global}
use Rattle.irr_seitz.specs.declared.op.Op.{Op}
use Rattle.irr_side.specs.ArmTraces.{AreEach}
use Rattle.irr_side.proofs.EachItems.{each_none, each_of_list}
use Rattle.irr_subduce.specs.Meetings.{HasPartRows}
use Rattle.irr_subduce.specs.PartTraces.{IsPartRow, PartAt}
use Rattle.irr_subduce.specs.declared.meetings.Meeting.{Meeting}
use Rattle.irr_subduce.proofs.rows.star_rows.Goals as goal

pub loop-meeting-init : goal.loop-meeting-init
loop-meeting-init g c = each_none _ c.new-rows.result.items c.new-rows.ensures.items

pub part_row-requires : goal.part_row-requires
part_row-requires g c = subst₂ (λ (arms : List ℕ) (ops : List Op). (p : ℕ) (o : Op) → p < length ops
    → PartAt {V = g.S.Scalar} c.args.order.now.n c.args.full.now arms (get_or ops p o))
    (sym c.as_slice.ensures.value) (sym c.as_slice-in-loop-meeting.ensures.value)
    (subst (λ (t : Meeting). HasPartRows {V = g.S.Scalar} c.args.order.now.n c.args.full.now t) (sym c.meeting-item.is)
    (c.requires c.loop-meeting.meeting-index c.meeting-item.result c.loop-meeting-test.true))

pub loop-meeting-preserved : goal.loop-meeting-preserved
loop-meeting-preserved g c = each_of_list
    (λ (t : Meeting) (row : Vec g.row.S.Denot Global). IsPartRow {V = g.S.Scalar} c.args.order.now.n c.args.full.now t.arms.items t.images.items row.items)
    c.args.meetings.now c.loop-meeting.meeting-index c.loop-meeting-test.true c.meeting-item.result c.meeting-item.is c.loop-meeting.rows.items
    c.push.new.self.items c.in_ok-row.row c.in_ok-push.ensures.items c.loop-meeting.invariant
    (subst₂ (λ (arms : List ℕ) (ops : List Op). IsPartRow {V = g.S.Scalar} c.args.order.now.n c.args.full.now arms ops c.in_ok-row.row.items)
    c.as_slice.ensures.value c.as_slice-in-loop-meeting.ensures.value c.in_ok-row.ensures)

pub returns : goal.returns
returns g c =
    let done : c.loop-meeting.meeting-index ≡ length c.args.meetings.now = search rules in
    subst (λ m. AreEach (λ n (row : Vec g.row.S.Denot Global). (t : Meeting)
    → IsPartRow {V = g.S.Scalar} c.args.order.now.n c.args.full.now (get_or c.args.meetings.now n t).arms.items (get_or c.args.meetings.now n t).images.items row.items)
    m c.loop-meeting.rows.items) done c.loop-meeting.invariant
