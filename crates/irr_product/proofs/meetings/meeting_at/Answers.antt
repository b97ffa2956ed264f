-- The members of the group, for the traces.
use Rattle.std.proofs.Common.{sym, subst₂, List}
use Rattle.std.specs.List.{All}
use Rattle.irr_seitz.specs.declared.op.Op.{Op}
use Rattle.irr_star.specs.declared.full.Full.{Full}
use Rattle.irr_side.specs.ArmTraces.{AreTables, HasMembers}
use Rattle.irr_product.proofs.MeetingRows.{all_members}
use Rattle.irr_product.proofs.meetings.meeting_at.Goals as goal

pub tables-requires : goal.tables-requires
tables-requires g c = subst₂ (λ (fs : List (Full g.row.S.Denot g.S.Scalar)) (os : List Op). All (HasMembers c.args.order.now.n os) fs)
    (sym c.as_slice.ensures.value) (sym c.as_slice-2.ensures.value)
    (all_members c.args.group.now c.args.order.now.n c.in_ok-ops.ops.items c.in_ok-ops.ensures.members
    c.args.left.now.fulls.items c.requires.left)

pub tables-requires-2 : goal.tables-requires-2
tables-requires-2 g c = subst₂ (λ (fs : List (Full g.row.S.Denot g.S.Scalar)) (os : List Op). All (HasMembers c.args.order.now.n os) fs)
    (sym c.as_slice-3.ensures.value) (sym c.as_slice-4.ensures.value)
    (all_members c.args.group.now c.args.order.now.n c.in_ok-ops.ops.items c.in_ok-ops.ensures.members
    c.args.right.now.fulls.items c.requires.right)

pub returns : goal.returns
returns g c = record {
  ops = c.in_ok-ops.ops.items;
  members = c.in_ok-ops.ensures.members;
  numbering = c.in_ok-ops.ensures.numbering;
  left = subst₂ (λ (fs : List (Full g.row.S.Denot g.S.Scalar)) (os : List Op). AreTables fs os c.args.order.now.n c.in_ok-first.first.items)
      c.as_slice.ensures.value c.as_slice-2.ensures.value c.in_ok-first.ensures;
  right = subst₂ (λ (fs : List (Full g.row.S.Denot g.S.Scalar)) (os : List Op). AreTables fs os c.args.order.now.n c.in_ok-second.second.items)
      c.as_slice-3.ensures.value c.as_slice-4.ensures.value c.in_ok-second.ensures;
  classes = c.in_ok-classes.ensures c.args.group.now c.requires.reduced c.requires.sums;
}
