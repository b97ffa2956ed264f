-- The laws of whole numbers in a ring.
use Rattle.irr_rational.proofs.Integers.{integer-one, integer-add, integer-mul, integer-neg}
use Rattle.irr_rational.proofs.whole_numbers_in_ring.Goals as goal

pub returns-clause-one : goal.returns-clause-one
returns-clause-one g c = integer-one g.N.InRing.ring

pub returns-clause-sum : goal.returns-clause-sum
returns-clause-sum g c = integer-add g.N.InRing.ring

pub returns-clause-product : goal.returns-clause-product
returns-clause-product g c = integer-mul g.N.InRing.ring

pub returns-clause-negative : goal.returns-clause-negative
returns-clause-negative g c = integer-neg g.N.InRing.ring
