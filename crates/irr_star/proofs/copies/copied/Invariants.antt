-- The entries so far.
use Rattle.std.proofs.Common.{◌+◌, ◌*◌}
use Rattle.irr_mat.specs.Entries.{first_order, matrix_of}
use Rattle.irr_mat.proofs.Entries.{Filled}
use Rattle.irr_star.proofs.copies.copied.Given as goal

abbrev pub invariant-loop-j : goal.invariant-loop-j
invariant-loop-j g l =
    let value = g.S.Scalar.value in
    let n = first_order g.S.Scalar.order_of l.m.entries.items in
    Filled g.S.Scalar.order_of value n (matrix_of value n l.m.rows l.m.cols l.m.entries.items)
    (l.i * l.m.cols + l.j) l.entries.items

abbrev pub invariant-loop-i : goal.invariant-loop-i
invariant-loop-i g l =
    let value = g.S.Scalar.value in
    let n = first_order g.S.Scalar.order_of l.m.entries.items in
    Filled g.S.Scalar.order_of value n (matrix_of value n l.m.rows l.m.cols l.m.entries.items)
    (l.i * l.m.cols) l.entries.items
