-- The laws of the order.
use Rattle.irr_rational.proofs.Orders.{le_refl, le_antisymm, le_trans, le_or_lt, le-add, le-mul}
use Rattle.irr_rational.proofs.order_of_rationals.Goals as goal

pub returns-clause-reflexive : goal.returns-clause-reflexive
returns-clause-reflexive c = le_refl

pub returns-clause-antisymmetric : goal.returns-clause-antisymmetric
returns-clause-antisymmetric c = le_antisymm

pub returns-clause-transitive : goal.returns-clause-transitive
returns-clause-transitive c = le_trans

pub returns-clause-total : goal.returns-clause-total
returns-clause-total c = le_or_lt

pub returns-clause-sum : goal.returns-clause-sum
returns-clause-sum c = le-add

pub returns-clause-product : goal.returns-clause-product
returns-clause-product c = le-mul
