-- The laws of the sizes.
use Rattle.irr_mono.proofs.MonomialSizes.{powers_fit, within-monomial}
use Rattle.irr_mono.proofs.laws.size_of_monomial_matrix.Goals as goal

pub returns-clause-within : goal.returns-clause-within
returns-clause-within c = within-monomial

pub returns-clause-fits : goal.returns-clause-fits
returns-clause-fits c = powers_fit
