-- The arms of a star.
--   AreArms group k arms     arms are the arms of the star of k, each reduced and with the number of the first canonical
--                            operation that carries k to it, in the order of these numbers
use Rattle.std.specs.Prelude.{◌≡◌, List, length, slice_index_or}
use Rattle.irr_algebra.specs.Fin.{Fin, to_nat}
use Rattle.irr_space.specs.Operation.{WaveVector}
use Rattle.irr_space.specs.Star.{IsArms}
use Rattle.irr_seitz.specs.declared.op.Op.{Op}
use Rattle.irr_kvec.specs.WaveMeaning.{wave_vector}
use Rattle.irr_close.specs.Canonical.{numbered}
use Rattle.irr_close.specs.StandsFor.{stands_for}
use Rattle.irr_close.specs.declared.group.Group.{Group}
use Rattle.irr_little.specs.declared.arms.Arm.{Arm}

pub record AreArms (group : Group) (k : WaveVector) (arms : List Arm) : Type 0 where
  pub number : Fin (length arms) → Fin (length group.ops.items)
  pub number_is : (i : Fin (length arms)) (a : Arm) → to_nat (number i) ≡ (slice_index_or arms (to_nat i) a).op
  pub star : (d : Op) (a : Arm) → IsArms (stands_for group) k (numbered group.ops.items d)
      (λ i. wave_vector (slice_index_or arms (to_nat i) a).wave) number
