-- Rationals as ratios.
use Rattle.irr_rational.proofs.Ratios.{ratio_of, ratio_same, cross_of_ratio, ratio-scale, integer-ratio, ratio-none}
use Rattle.irr_rational.proofs.ratio_of_rational.Goals as goal

pub returns-clause-exists : goal.returns-clause-exists
returns-clause-exists c = ratio_of

pub returns-clause-same : goal.returns-clause-same
returns-clause-same c = λ a c b d hb hd. (cross_of_ratio a c b d hb hd, ratio_same a c b d hb hd)

pub returns-clause-factor : goal.returns-clause-factor
returns-clause-factor c = ratio-scale

pub returns-clause-whole_number : goal.returns-clause-whole_number
returns-clause-whole_number c = integer-ratio

pub returns-clause-none : goal.returns-clause-none
returns-clause-none c = ratio-none
