-- The laws of matrices of whole numbers.
use Rattle.irr_rational.proofs.Integers.{whole_matrix-add, whole_matrix-mul, whole_matrix-unit}
use Rattle.irr_rational.proofs.matrices_of_whole_numbers.Goals as goal

pub returns-clause-unit : goal.returns-clause-unit
returns-clause-unit g c = whole_matrix-unit g.N.InRing.ring

pub returns-clause-sum : goal.returns-clause-sum
returns-clause-sum g c = λ m n a b. whole_matrix-add g.N.InRing.ring a b

pub returns-clause-product : goal.returns-clause-product
returns-clause-product g c = λ l m n a b. whole_matrix-mul g.N.InRing.ring a b
