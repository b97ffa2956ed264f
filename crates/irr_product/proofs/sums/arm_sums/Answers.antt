-- One more row of sums.
use Rattle.std.proofs.Common.{sym, subst}
use Rattle.irr_little.specs.declared.arms.Arm.{Arm}
use Rattle.irr_product.specs.Sums.{IsSummand}
use Rattle.irr_product.proofs.SumLists.{no_sums, more_sums, all_sums}
use Rattle.irr_product.proofs.sums.arm_sums.Goals as goal

pub loop-arm-init : goal.loop-arm-init
loop-arm-init c = no_sums c.args.group.now c.args.left.now c.args.right.now c.new-sums.result.items c.new-sums.ensures.items

pub push_sums-requires-clause-wave : goal.push_sums-requires-clause-wave
push_sums-requires-clause-wave c = subst (λ (a : Arm). IsSummand c.args.n a.wave) (sym c.arm-item.is)
    (c.requires.left c.loop-arm.arm-index c.arm-item.result c.loop-arm-test.true)

pub loop-arm-preserved : goal.loop-arm-preserved
loop-arm-preserved c = let row = c.in_ok-push_sums.ensures in
    more_sums c.args.group.now c.args.left.now c.args.right.now c.loop-arm.arm-index c.loop-arm.sums.items row.0
    c.push_sums.new.sums.items c.loop-arm-test.true row.1 c.loop-arm.invariant c.arm-item.result c.arm-item.is row.2

pub returns : goal.returns
returns c = all_sums c.args.group.now c.args.left.now c.args.right.now c.loop-arm.arm-index c.loop-arm.sums.items
    c.loop-arm-test.false c.loop-arm.invariant
