-- The wave vectors so far.
use Rattle.std.proofs.Common.{get_or}
use Rattle.irr_kvec.specs.declared.wave.Wave.{Wave}
use Rattle.irr_little.specs.declared.arms.Arm.{Arm}
use Rattle.irr_side.specs.ArmTraces.{AreEach}
use Rattle.irr_subduce.specs.ArmWaves.{IsArmWave}
use Rattle.irr_subduce.proofs.waves.arm_waves.Given as goal

abbrev pub invariant-loop-arm : goal.invariant-loop-arm
invariant-loop-arm l = AreEach (λ n (w : Wave). (a : Arm) → IsArmWave l.sub (get_or l.arms n a).wave w) l.arm-index l.waves.items
