-- The form of one number.
use Rattle.irr_rational.proofs.LowestTerms.{lowest_form, lowest_unique, lowest_decide, gcd_of_lowest, lowest_of_gcd, lowest_quotients}
use Rattle.irr_rational.proofs.lowest_terms_of_rational.Goals as goal

pub returns-clause-exists : goal.returns-clause-exists
returns-clause-exists c = lowest_form

pub returns-clause-unique : goal.returns-clause-unique
returns-clause-unique c = lowest_unique

pub returns-clause-decided : goal.returns-clause-decided
returns-clause-decided c = lowest_decide

pub returns-clause-divisor : goal.returns-clause-divisor
returns-clause-divisor c = λ a b h. (gcd_of_lowest a b, lowest_of_gcd a b h)

pub returns-clause-reduced : goal.returns-clause-reduced
returns-clause-reduced c = lowest_quotients
