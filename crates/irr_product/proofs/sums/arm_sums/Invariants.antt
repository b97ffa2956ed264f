-- The sums so far.
use Rattle.irr_product.proofs.SumLists.{AreFirstSums}
use Rattle.irr_product.proofs.sums.arm_sums.Given as goal

abbrev pub invariant-loop-arm : goal.invariant-loop-arm
invariant-loop-arm l = AreFirstSums l.group l.left l.right l.arm-index l.sums.items
