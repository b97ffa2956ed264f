-- The laws of sums, products and negatives.
use mathlib.Core.Path.{sym}
use Rattle.irr_rational.proofs.Ratios.{ratio-add, ratio-mul, ratio-neg}
use Rattle.irr_rational.proofs.operations_on_ratios.Goals as goal

pub returns-clause-sum : goal.returns-clause-sum
returns-clause-sum c = λ a c b d hb hd. sym (ratio-add a c b d hb hd)

pub returns-clause-product : goal.returns-clause-product
returns-clause-product c = λ a c b d hb hd. sym (ratio-mul a c b d hb hd)

pub returns-clause-negative : goal.returns-clause-negative
returns-clause-negative c = λ a b h. sym (ratio-neg a b h)
