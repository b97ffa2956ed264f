-- When ratios and their multiples are whole.
use Rattle.irr_rational.proofs.WholeNumbers.{whole_ratio, dvd_of_whole, whole_multiples}
use Rattle.irr_rational.proofs.whole_ratios.Goals as goal

pub returns-clause-one : goal.returns-clause-one
returns-clause-one c = λ a b h. (dvd_of_whole a b h, whole_ratio a b h)

pub returns-clause-multiples : goal.returns-clause-multiples
returns-clause-multiples c = λ m a b n low. whole_multiples a b n low
