-- A number as the sum of its coefficients times powers.
use Rattle.irr_canonical.proofs.Sums.{mul-denominator, mul-number_of, number_of-zero}
use Rattle.irr_canonical.proofs.coefficients_of_number.Goals as goal

pub returns-clause-sum : goal.returns-clause-sum
returns-clause-sum c = λ N h x. mul-denominator N h x

pub returns-clause-listed : goal.returns-clause-listed
returns-clause-listed c = λ N xs d p. mul-number_of N xs d p

pub returns-clause-none : goal.returns-clause-none
returns-clause-none c = λ N xs. number_of-zero N xs
