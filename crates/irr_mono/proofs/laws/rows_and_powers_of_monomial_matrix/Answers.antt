-- The laws of rows and powers.
use Rattle.irr_mono.proofs.MonomialForms.{monomial-is, monomial-unique}
use Rattle.irr_mono.proofs.laws.rows_and_powers_of_monomial_matrix.Goals as goal

pub returns-clause-matrix : goal.returns-clause-matrix
returns-clause-matrix c = monomial-is

pub returns-clause-unique : goal.returns-clause-unique
returns-clause-unique c = monomial-unique
