-- The order of rows.
use Rattle.irr_rows.proofs.RowOrder.{row_before_or_after, row_asymm}
use Rattle.irr_rows.proofs.order_of_rows.Goals as goal

pub returns-clause-total : goal.returns-clause-total
returns-clause-total c = λ n h p start f g. row_before_or_after n p start f g

pub returns-clause-strict : goal.returns-clause-strict
returns-clause-strict c = λ n h p start f g x y. row_asymm n p start f g x y
