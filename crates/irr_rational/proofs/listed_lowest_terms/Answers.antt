-- The list of n numbers.
use Rattle.irr_rational.proofs.ListedRatios.{listed_lowest_form, listed_lowest_unique}
use Rattle.irr_rational.proofs.listed_lowest_terms.Goals as goal

pub returns-clause-exists : goal.returns-clause-exists
returns-clause-exists c = listed_lowest_form

pub returns-clause-unique : goal.returns-clause-unique
returns-clause-unique c = listed_lowest_unique
