-- The rows so far, and the entries of the row so far, are equal.
use Rattle.std.proofs.Common.{◌+◌, ◌*◌}
use Rattle.irr_mat.specs.Entries.{first_order}
use Rattle.irr_mat.proofs.Entries.{AgreeTo}
use Rattle.irr_mat.proofs.matrices.Mat.equal.Given as goal

abbrev pub invariant-loop-j : goal.invariant-loop-j
invariant-loop-j g l = AgreeTo g.S.Scalar.value (first_order g.S.Scalar.order_of l.self.entries.items) (l.i * l.self.cols + l.j) l.self.entries.items l.other.entries.items

abbrev pub invariant-loop-i : goal.invariant-loop-i
invariant-loop-i g l = AgreeTo g.S.Scalar.value (first_order g.S.Scalar.order_of l.self.entries.items) (l.i * l.self.cols) l.self.entries.items l.other.entries.items
