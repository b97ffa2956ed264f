use Rattle.irr_close.proofs.Rows.{rows_small}
use Rattle.irr_power.proofs.tests.is_small_rotation.Goals as goal

pub returns : goal.returns
returns c = λ t. let s = c.are_all.ensures t in rows_small _ (c.is_small_row.ensures s.0) (c.is_small_row-2.ensures s.1)
    (c.is_small_row-3.ensures s.2)
