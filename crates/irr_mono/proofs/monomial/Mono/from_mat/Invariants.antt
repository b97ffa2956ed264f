-- The columns so far.
use Rattle.irr_mat.specs.Entries.{first_order, matrix_of}
use Rattle.irr_mono.proofs.ColumnPowers.{AreColumns}
use Rattle.irr_mono.proofs.monomial.Mono.from_mat.Given as goal

abbrev pub invariant-loop-column : goal.invariant-loop-column
invariant-loop-column g l =
    let n = first_order g.S.Scalar.order_of l.m.entries.items in
    AreColumns n (matrix_of g.S.Scalar.value n l.m.rows l.m.cols l.m.entries.items) l.column l.place.items l.exp.items
