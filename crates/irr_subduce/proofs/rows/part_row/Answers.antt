-- One more trace.
use Rattle.std.proofs.Common.{rules, ◌≡◌, sym, subst, length, get_or}
use Rattle.irr_seitz.specs.declared.op.Op.{Op}
use Rattle.irr_side.specs.ArmTraces.{AreEach}
use Rattle.irr_side.proofs.EachItems.{each_none, each_of_list}
use Rattle.irr_subduce.specs.PartTraces.{IsPartTrace, PartAt}
use Rattle.irr_subduce.proofs.rows.part_row.Goals as goal

pub loop-op-init : goal.loop-op-init
loop-op-init g c = each_none _ c.new-row.result.items c.new-row.ensures.items

pub part_trace-requires : goal.part_trace-requires
part_trace-requires g c = record {
  part = subst (λ (o : Op). PartAt {V = g.S.Scalar} c.args.order.now.n c.args.full.now c.args.arms.now o) (sym c.op-item.is)
      (c.requires c.loop-op.op-index c.op-item.result c.loop-op-test.true);
}

pub loop-op-preserved : goal.loop-op-preserved
loop-op-preserved g c = each_of_list
    (λ (o : Op) x. IsPartTrace {V = g.S.Scalar} c.args.order.now.n c.args.full.now c.args.arms.now o x)
    c.args.ops.now c.loop-op.op-index c.loop-op-test.true c.op-item.result c.op-item.is c.loop-op.row.items
    c.push.new.self.items c.in_ok-trace.trace c.in_ok-push.ensures.items c.loop-op.invariant c.in_ok-trace.ensures

pub returns : goal.returns
returns g c =
    let done : c.loop-op.op-index ≡ length c.args.ops.now = search rules in
    subst (λ n. AreEach (λ p (x : g.row.S.Denot). (o : Op) → IsPartTrace {V = g.S.Scalar} c.args.order.now.n c.args.full.now c.args.arms.now
    (get_or c.args.ops.now p o) x) n c.loop-op.row.items) done c.loop-op.invariant
