-- The common form of a list.
use Rattle.irr_rational.proofs.LowestTerms.{common_lowest_form, are_lowest_unique, are_lowest_decide}
use Rattle.irr_rational.proofs.lowest_terms_of_rationals.Goals as goal

pub returns-clause-exists : goal.returns-clause-exists
returns-clause-exists c = common_lowest_form

pub returns-clause-unique : goal.returns-clause-unique
returns-clause-unique c = λ n a c b d. are_lowest_unique a c b d

pub returns-clause-decided : goal.returns-clause-decided
returns-clause-decided c = are_lowest_decide
