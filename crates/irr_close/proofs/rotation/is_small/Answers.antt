use Rattle.irr_close.proofs.Rows.{rows_small, small_rows}
use Rattle.irr_close.proofs.rotation.is_small.Goals as goal

pub returns : goal.returns
returns c = (
  λ t. let s = c.are_all.ensures.0 t in rows_small _ (c.is_small_row.ensures.0 s.0) (c.is_small_row-2.ensures.0 s.1) (c.is_small_row-3.ensures.0 s.2),
  λ e. let s = small_rows _ e in c.are_all.ensures.1 (c.is_small_row.ensures.1 s.0, c.is_small_row-2.ensures.1 s.1, c.is_small_row-3.ensures.1 s.2),
)
