-- One more row.
use Rattle.std.proofs.Common.{rules, ◌≡◌, ◌<◌, subst, length, Vec, Global, ℕ}
use Rattle.irr_side.specs.ArmTraces.{AreEach}
use Rattle.irr_power.specs.Targets.{IsTargetRow}
use Rattle.irr_side.proofs.EachItems.{each_more, each_none}
use Rattle.irr_power.proofs.targets.target_rows.Goals as goal

pub loop-arm-init : goal.loop-arm-init
loop-arm-init g c = each_none _ c.new-rows.result.items c.new-rows.ensures.items

pub target_row-requires-clause-arm : goal.target_row-requires-clause-arm
target_row-requires-clause-arm g c = subst (λ n. c.loop-arm.arm < n) c.arms-arm-end.ensures.count c.loop-arm-test.true

pub loop-arm-preserved : goal.loop-arm-preserved
loop-arm-preserved g c = each_more (λ i (row : Vec ℕ Global). IsTargetRow {V = g.S.Scalar} c.args.full.now i c.args.ops.now row.items)
    c.loop-arm.arm c.loop-arm.rows.items c.push.new.self.items c.in_ok-row.row
    c.in_ok-push.ensures.items c.loop-arm.invariant c.in_ok-row.ensures

pub returns : goal.returns
returns g c =
    let done : c.loop-arm.arm ≡ length c.args.full.now.arms.items = search rules in
    subst (λ n. AreEach (λ i (row : Vec ℕ Global). IsTargetRow {V = g.S.Scalar} c.args.full.now i c.args.ops.now row.items) n c.loop-arm.rows.items)
    done c.loop-arm.invariant
