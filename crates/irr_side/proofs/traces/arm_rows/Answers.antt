-- One more row.
use Rattle.std.proofs.Common.{rules, ◌≡◌, ◌<◌, subst, length, Vec, Global}
use Rattle.irr_side.specs.ArmTraces.{AreEach, IsArmRow}
use Rattle.irr_side.proofs.EachItems.{each_more, each_none}
use Rattle.irr_side.proofs.traces.arm_rows.Goals as goal

pub arms-arm-end-requires : goal.arms-arm-end-requires
arms-arm-end-requires g c = c.requires.induced

pub loop-arm-init : goal.loop-arm-init
loop-arm-init g c = each_none _ c.new-rows.result.items c.new-rows.ensures.items

pub arm_row-requires-clause-arm : goal.arm_row-requires-clause-arm
arm_row-requires-clause-arm g c = subst (λ n. c.loop-arm.arm < n) c.arms-arm-end.ensures.count c.loop-arm-test.true

pub loop-arm-preserved : goal.loop-arm-preserved
loop-arm-preserved g c = each_more (λ i (row : Vec g.row.S.Denot Global). IsArmRow {V = g.S.Scalar} c.args.full.now i c.args.ops.now
    c.args.order.now.n row.items) c.loop-arm.arm c.loop-arm.rows.items c.push.new.self.items c.in_ok-row.row
    c.in_ok-push.ensures.items c.loop-arm.invariant c.in_ok-row.ensures

pub returns : goal.returns
returns g c =
    let done : c.loop-arm.arm ≡ length c.args.full.now.arms.items = search rules in
    subst (λ n. AreEach (λ i (row : Vec g.row.S.Denot Global). IsArmRow {V = g.S.Scalar} c.args.full.now i c.args.ops.now
    c.args.order.now.n row.items) n c.loop-arm.rows.items) done c.loop-arm.invariant
