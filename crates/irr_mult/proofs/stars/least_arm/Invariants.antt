-- The least so far.
use Rattle.irr_mult.proofs.LeastArms.{LeastSoFar}
use Rattle.irr_mult.proofs.stars.least_arm.Given as goal

abbrev pub invariant-loop-arm : goal.invariant-loop-arm
invariant-loop-arm l = LeastSoFar l.arms l.arm-index l.least
