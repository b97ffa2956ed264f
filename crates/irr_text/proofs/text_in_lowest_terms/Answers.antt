-- Rational numbers in lowest terms.
use Rattle.irr_text.proofs.RationalForm.{numerator_is_lowest, rational_text-lowest}
use Rattle.irr_text.proofs.text_in_lowest_terms.Goals as goal

pub returns-clause-lowest : goal.returns-clause-lowest
returns-clause-lowest c = numerator_is_lowest

pub returns-clause-text : goal.returns-clause-text
returns-clause-text c = rational_text-lowest
