-- One more trace.
use Rattle.std.proofs.Common.{rules, ◌≡◌, sym, subst, length, get_or}
use Rattle.irr_seitz.specs.OperationMeaning.{operation}
use Rattle.irr_seitz.specs.declared.op.Op.{Op}
use Rattle.irr_side.specs.ArmTraces.{AreEach, HasMember, IsArmTrace}
use Rattle.irr_side.proofs.EachItems.{each_none, each_of_list}
use Rattle.irr_side.proofs.LiftedTraces.{member_at}
use Rattle.irr_side.proofs.traces.arm_row.Goals as goal

pub loop-op-init : goal.loop-op-init
loop-op-init g c = each_none _ c.new-row.result.items c.new-row.ensures.items

pub arm_trace-requires-clause-member : goal.arm_trace-requires-clause-member
arm_trace-requires-clause-member g c =
    let m = member_at c.args.full.now.group c.args.ops.now c.requires.members.members c.loop-op.op-index c.op-item.result
    c.loop-op-test.true c.op-item.is in
    record { induced = c.requires.members.induced; member = m.0; small = m.1; divides = c.requires.members.divides }

pub loop-op-preserved : goal.loop-op-preserved
loop-op-preserved g c = each_of_list
    (λ (o : Op) x. IsArmTrace {V = g.S.Scalar} c.args.full.now c.args.arm (operation o) c.args.order.now.n x)
    c.args.ops.now c.loop-op.op-index c.loop-op-test.true c.op-item.result c.op-item.is c.loop-op.row.items
    c.push.new.self.items c.in_ok-trace.trace c.in_ok-push.ensures.items c.loop-op.invariant c.in_ok-trace.ensures

pub returns : goal.returns
returns g c =
    let done : c.loop-op.op-index ≡ length c.args.ops.now = search rules in
    subst (λ n. AreEach (λ p (x : g.row.S.Denot). (o : Op) → IsArmTrace {V = g.S.Scalar} c.args.full.now c.args.arm
    (operation (get_or c.args.ops.now p o)) c.args.order.now.n x) n c.loop-op.row.items) done c.loop-op.invariant
