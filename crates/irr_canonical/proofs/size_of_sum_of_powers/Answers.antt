-- The size of a sum of powers.
use Rattle.irr_canonical.proofs.RootSizes.{denominator_of_IsRootSum, size_of_IsRootSum}
use Rattle.irr_canonical.proofs.size_of_sum_of_powers.Goals as goal

pub returns-clause-denominator : goal.returns-clause-denominator
returns-clause-denominator c = λ N s d h x k. denominator_of_IsRootSum N h s d x k

pub returns-clause-size : goal.returns-clause-size
returns-clause-size c = λ N s d h x k. size_of_IsRootSum N h s d x k
