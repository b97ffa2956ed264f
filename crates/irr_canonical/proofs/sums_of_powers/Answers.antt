-- The laws of sums of powers.
use Rattle.irr_canonical.proofs.RootSums.{IsRootSum-add, IsRootSum-lift, IsRootSum-mul, IsRootSum-neg, IsRootSum-root}
use Rattle.irr_canonical.proofs.sums_of_powers.Goals as goal

pub returns-clause-root : goal.returns-clause-root
returns-clause-root c = λ N j. IsRootSum-root N j

pub returns-clause-sum : goal.returns-clause-sum
returns-clause-sum c = λ N s t d e x y h k. IsRootSum-add N h k

pub returns-clause-negative : goal.returns-clause-negative
returns-clause-negative c = λ N s d x h. IsRootSum-neg N h

pub returns-clause-product : goal.returns-clause-product
returns-clause-product c = λ N s t d e x y h k. IsRootSum-mul N h k

pub returns-clause-lift : goal.returns-clause-lift
returns-clause-lift c = λ N M s d h v x k. IsRootSum-lift N M h v k
