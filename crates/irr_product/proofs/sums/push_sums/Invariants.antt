-- The sums so far.
use Rattle.std.proofs.Common.{◌≡◌, List, ◌++◌, get_or}
use Rattle.irr_kvec.specs.declared.wave.Wave.{Wave}
use Rattle.irr_little.specs.declared.arms.Arm.{Arm}
use Rattle.irr_side.specs.ArmTraces.{AreEach}
use Rattle.irr_product.specs.Sums.{IsSumOf}
use Rattle.irr_product.proofs.sums.push_sums.Given as goal

abbrev pub invariant-loop-arm : goal.invariant-loop-arm
invariant-loop-arm l = (made : List Wave) × (l.sums.items ≡ l.fn.sums.items ++ made)
    × AreEach (λ n (w : Wave). (d : Arm) → IsSumOf l.group l.wave (get_or l.arms n d).wave w) l.arm-index made
