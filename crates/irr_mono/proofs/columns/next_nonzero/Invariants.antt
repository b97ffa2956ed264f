-- The rows so far are 0.
use Rattle.irr_mat.specs.Entries.{first_order, matrix_of}
use Rattle.irr_mono.specs.Columns.{AreZeros}
use Rattle.irr_mono.proofs.columns.next_nonzero.Given as goal

abbrev pub invariant-loop-row : goal.invariant-loop-row
invariant-loop-row g l =
    let n = first_order g.S.Scalar.order_of l.m.entries.items in
    AreZeros (matrix_of g.S.Scalar.value n l.m.rows l.m.cols l.m.entries.items) l.column l.from l.row
