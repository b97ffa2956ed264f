-- The wave vectors of the arms of a star, in the basis of a subgroup.
--   IsArmWave sub k w        w is reduced in the subgroup, and equivalent to kP there
--   AreArmWaves sub arms ws  ws are so for the arms, in order
use Rattle.std.specs.Prelude.{◌≡◌, ◌<◌, List, length, slice_index_or}
use Rattle.irr_algebra.specs.Matrix.{◌·◌}
use Rattle.irr_space.specs.Reciprocal.{AreEquivalent, IsReduced}
use Rattle.irr_kvec.specs.Centrings.{IsWithinLimits}
use Rattle.irr_kvec.specs.WaveMeaning.{wave_vector}
use Rattle.irr_kvec.specs.declared.wave.Wave.{Wave}
use Rattle.irr_close.specs.StandsFor.{stands_for}
use Rattle.irr_little.specs.declared.arms.Arm.{Arm}
use Rattle.irr_setting.specs.Setting.{basis}
use Rattle.irr_side.specs.ArmTraces.{AreEach}
use Rattle.irr_subduce.specs.declared.sub.Sub.{Sub}

pub record IsArmWave (sub : Sub) (k w : Wave) : Type 0 where
  pub reduced : IsReduced (stands_for sub.group) (wave_vector w) (wave_vector w)
  pub equivalent : AreEquivalent (stands_for sub.group) (wave_vector w) (wave_vector k · basis sub.setting)
  pub limits : IsWithinLimits w

abbrev pub AreArmWaves : Sub → List Arm → List Wave → Type 0
AreArmWaves sub arms = AreEach (λ n w. (a : Arm) → IsArmWave sub (slice_index_or arms n a).wave w) (length arms)
