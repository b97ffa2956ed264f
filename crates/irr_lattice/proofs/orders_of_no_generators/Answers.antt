-- Reciprocal lattice and orders of the group of no generators.
use Rattle.irr_lattice.proofs.Reciprocals.{reciprocal-whole, whole-reciprocal, order_of_lowest}
use Rattle.irr_lattice.proofs.orders_of_no_generators.Goals as goal

pub returns-clause-reciprocal : goal.returns-clause-reciprocal
returns-clause-reciprocal c = λ k. (λ h. reciprocal-whole k h, λ h. whole-reciprocal k h)

pub returns-clause-order : goal.returns-clause-order
returns-clause-order c = λ k a b low e. order_of_lowest k a b low e
