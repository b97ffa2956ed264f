use Rattle.irr_close.proofs.Rows.{rows_same, same_rows}
use Rattle.irr_star.proofs.shifts.same.Goals as goal

pub returns : goal.returns
returns c = (
  λ t. let s = c.are_all.ensures.0 t in rows_same _ _ (c.same_row.ensures.0 s.0) (c.same_row-2.ensures.0 s.1)
      (c.same_row-3.ensures.0 s.2),
  λ e. let s = same_rows _ _ e in c.are_all.ensures.1 (
    c.same_row.ensures.1 s.0,
    c.same_row-2.ensures.1 s.1,
    c.same_row-3.ensures.1 s.2,
  ),
)
