-- The entries so far are those of the Kronecker product.
use Rattle.std.proofs.Common.{◌+◌, ◌*◌}
use Rattle.irr_algebra.specs.Pair.{kron, times}
use Rattle.irr_mat.specs.Entries.{first_order, matrix_of}
use Rattle.irr_mat.proofs.Entries.{Filled}
use Rattle.irr_mat.proofs.matrices.Mat.kron.Given as goal

abbrev pub invariant-loop-j : goal.invariant-loop-j
invariant-loop-j g l =
    let value = g.S.Scalar.value in
    let n = first_order g.S.Scalar.order_of l.self.entries.items in
    Filled g.S.Scalar.order_of value n (kron (matrix_of value n l.self.rows l.self.cols l.self.entries.items) (matrix_of value n l.other.rows l.other.cols l.other.entries.items))
    (l.i * times l.self.cols l.other.cols + l.j) l.entries.items

abbrev pub invariant-loop-i : goal.invariant-loop-i
invariant-loop-i g l =
    let value = g.S.Scalar.value in
    let n = first_order g.S.Scalar.order_of l.self.entries.items in
    Filled g.S.Scalar.order_of value n (kron (matrix_of value n l.self.rows l.self.cols l.self.entries.items) (matrix_of value n l.other.rows l.other.cols l.other.entries.items))
    (l.i * times l.self.cols l.other.cols) l.entries.items
