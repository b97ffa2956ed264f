-- The order by cross products.
use Rattle.irr_rational.proofs.Orders.{ratio-le, le_of_ratio, ratio-lt, lt_of_ratio, integer-le, le_of_integer}
use Rattle.irr_rational.proofs.order_of_ratios.Goals as goal

pub returns-clause-ratio : goal.returns-clause-ratio
returns-clause-ratio c = λ a c b d hb hd. (le_of_ratio a c b d hb hd, ratio-le a c b d hb hd)

pub returns-clause-ratio_below : goal.returns-clause-ratio_below
returns-clause-ratio_below c = λ a c b d hb hd. (lt_of_ratio a c b d hb hd, ratio-lt a c b d hb hd)

pub returns-clause-whole_number : goal.returns-clause-whole_number
returns-clause-whole_number c = λ k l. (le_of_integer k l, integer-le k l)
