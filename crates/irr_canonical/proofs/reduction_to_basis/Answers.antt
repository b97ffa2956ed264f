-- The laws of the reduction.
use Rattle.irr_canonical.proofs.Reductions.{IsFreeAt-kept, IsFreeAt-reduced_at, IsInBasis_of_free, coefficients_unique, number-reduced_at}
use Rattle.irr_canonical.proofs.reduction_to_basis.Goals as goal

pub returns-clause-number : goal.returns-clause-number
returns-clause-number c = λ N p h hp v f g r d q. number-reduced_at N p h hp v f g r d q

pub returns-clause-frees : goal.returns-clause-frees
returns-clause-frees c = λ N p f g r. IsFreeAt-reduced_at N p f g r

pub returns-clause-keeps : goal.returns-clause-keeps
returns-clause-keeps c = λ N p q h hp v hq ne f g r free. IsFreeAt-kept N p q h hp v hq ne f g r free

pub returns-clause-basis : goal.returns-clause-basis
returns-clause-basis c = λ N k h l f free. IsInBasis_of_free N h k l f free

pub returns-clause-unique : goal.returns-clause-unique
returns-clause-unique c = λ N h f g bf bg d q e j lt. coefficients_unique N h f g bf bg d q e j lt
