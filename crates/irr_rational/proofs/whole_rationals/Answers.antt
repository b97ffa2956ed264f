-- The laws of whole numbers.
use Rattle.irr_rational.proofs.WholeNumbers.{whole-add, whole-mul, whole-neg, whole_decide, whole_unique}
use Rattle.irr_rational.proofs.whole_rationals.Goals as goal

pub returns-clause-sum : goal.returns-clause-sum
returns-clause-sum c = whole-add

pub returns-clause-product : goal.returns-clause-product
returns-clause-product c = whole-mul

pub returns-clause-negative : goal.returns-clause-negative
returns-clause-negative c = whole-neg

pub returns-clause-decided : goal.returns-clause-decided
returns-clause-decided c = whole_decide

pub returns-clause-unique : goal.returns-clause-unique
returns-clause-unique c = whole_unique
