-- The rows, one by one.
use Rattle.irr_close.proofs.Rows.{rows_small}
use Rattle.irr_subduce.proofs.tests.is_small_rotation.Goals as goal

pub returns : goal.returns
returns c = λ t. rows_small _ (c.is_small_row.ensures c.if-not-is_small_row.false) (c.is_small_row-2.ensures c.if-not-is_small_row-2.false)
    (c.is_small_row-3.ensures t)
