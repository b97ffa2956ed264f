-- Arm by arm.
use Rattle.std.proofs.Common.{rules, ◌≡◌, sym, subst, ◌<◌, length}
use Rattle.irr_algebra.specs.Fin.{to_nat}
use Rattle.irr_algebra.proofs.Indices.{to_nat-lt}
use Rattle.irr_little.specs.declared.arms.Arm.{Arm}
use Rattle.irr_mult.proofs.LeastArms.{LeastSoFar, least_first, least_more}
use Rattle.irr_mult.proofs.stars.least_arm.Goals as goal

pub loop-arm-init : goal.loop-arm-init
loop-arm-init c = subst (λ (a : Arm). LeastSoFar c.args.arms.now 0 a.wave) c.index-arms-0.is
    (least_first c.args.arms.now 0 c.requires c.index-arms-0.result c.index-arms-0.is)

pub loop-arm-preserved : goal.loop-arm-preserved
loop-arm-preserved c = least_more c.args.arms.now c.loop-arm.arm-index c.loop-arm-test.true c.arm-item.result
    c.arm-item.is c.loop-arm.least c.lesser-least.result c.lesser-least.ensures.one c.lesser-least.ensures.first c.lesser-least.ensures.second
    c.loop-arm.invariant

pub returns-clause-arm : goal.returns-clause-arm
returns-clause-arm c = c.loop-arm.invariant.arm

pub returns-clause-least : goal.returns-clause-least
returns-clause-least c i =
    let done : c.loop-arm.arm-index ≡ length c.args.arms.now = search rules in
    c.loop-arm.invariant.least i (subst (λ n. to_nat i < n) (sym done) (to_nat-lt i))
