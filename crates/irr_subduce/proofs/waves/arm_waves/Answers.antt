-- One more wave vector.
use Rattle.std.proofs.Common.{rules, ◌≡◌, ◌≤◌, ◌^◌, sym, subst, length, get_or}
use Rattle.irr_seitz.specs.OperationMeaning.{AreWithin}
use Rattle.irr_kvec.specs.declared.wave.Wave.{Wave}
use Rattle.irr_little.specs.declared.arms.Arm.{Arm}
use Rattle.irr_side.specs.ArmTraces.{AreEach}
use Rattle.irr_side.proofs.EachItems.{each_none, each_of_list}
use Rattle.irr_subduce.specs.ArmWaves.{IsArmWave}
use Rattle.irr_subduce.proofs.waves.arm_waves.Goals as goal

pub loop-arm-init : goal.loop-arm-init
loop-arm-init c = each_none _ c.new-waves.result.items c.new-waves.ensures.items

pub arm_wave-wave-requires-clause-numerators : goal.arm_wave-wave-requires-clause-numerators
arm_wave-wave-requires-clause-numerators c = subst (λ (a : Arm). AreWithin (10 ^ 9) a.wave.num) (sym c.arm-item.is)
    (c.requires.numerators c.loop-arm.arm-index c.arm-item.result c.loop-arm-test.true)

pub arm_wave-wave-requires-clause-denominator : goal.arm_wave-wave-requires-clause-denominator
arm_wave-wave-requires-clause-denominator c = subst (λ (a : Arm). a.wave.den ≤ 100000) (sym c.arm-item.is)
    (c.requires.denominators c.loop-arm.arm-index c.arm-item.result c.loop-arm-test.true)

pub loop-arm-preserved : goal.loop-arm-preserved
loop-arm-preserved c = each_of_list (λ (a : Arm) (w : Wave). IsArmWave c.args.sub.now a.wave w)
    c.args.arms.now c.loop-arm.arm-index c.loop-arm-test.true c.arm-item.result c.arm-item.is c.loop-arm.waves.items
    c.push.new.self.items c.arm_wave-wave.result c.in_ok-push.ensures.items c.loop-arm.invariant c.arm_wave-wave.ensures

pub returns : goal.returns
returns c =
    let done : c.loop-arm.arm-index ≡ length c.args.arms.now = search rules in
    subst (λ m. AreEach (λ n (w : Wave). (a : Arm) → IsArmWave c.args.sub.now (get_or c.args.arms.now n a).wave w) m c.loop-arm.waves.items)
    done c.loop-arm.invariant
