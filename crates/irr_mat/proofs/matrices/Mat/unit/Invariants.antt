-- The entries so far are those of the unit matrix.
use Rattle.std.proofs.Common.{◌+◌, ◌*◌}
use Rattle.irr_algebra.specs.Matrix.{unit}
use Rattle.irr_number.specs.Number.{numbers}
use Rattle.irr_mat.proofs.Entries.{Filled}
use Rattle.irr_mat.proofs.matrices.Mat.unit.Given as goal

abbrev pub invariant-loop-j : goal.invariant-loop-j
invariant-loop-j g l = Filled g.S.Scalar.order_of g.S.Scalar.value l.order.n (unit (numbers l.order.n) l.d) (l.i * l.d + l.j) l.entries.items

abbrev pub invariant-loop-i : goal.invariant-loop-i
invariant-loop-i g l = Filled g.S.Scalar.order_of g.S.Scalar.value l.order.n (unit (numbers l.order.n) l.d) (l.i * l.d) l.entries.items
