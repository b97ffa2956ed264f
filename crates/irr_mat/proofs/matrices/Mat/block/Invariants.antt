-- The entries so far are those of the matrix of blocks.
use Rattle.std.proofs.Common.{◌+◌, ◌*◌, map, length}
use Rattle.irr_algebra.specs.Fin.{to_nat}
use Rattle.irr_algebra.specs.Pair.{times}
use Rattle.irr_mat.specs.Blocks.{block_matrix, block_of, part_at}
use Rattle.irr_mat.specs.Entries.{matrix_of}
use Rattle.irr_mat.proofs.Entries.{Filled}
use Rattle.irr_mat.proofs.matrices.Mat.block.Given as goal

abbrev pub invariant-loop-j : goal.invariant-loop-j
invariant-loop-j g l =
    let value = g.S.Scalar.value in
    let n = l.order.n in
    Filled g.S.Scalar.order_of value n (block_matrix (length l.parts) l.across l.height l.width (λ a b. block_of (λ part. matrix_of value n l.height l.width part.entries.items) (part_at (map (λ row. row.items) l.parts) (to_nat a) (to_nat b))))
    (l.i * times l.across l.width + l.j) l.entries.items

abbrev pub invariant-loop-i : goal.invariant-loop-i
invariant-loop-i g l =
    let value = g.S.Scalar.value in
    let n = l.order.n in
    Filled g.S.Scalar.order_of value n (block_matrix (length l.parts) l.across l.height l.width (λ a b. block_of (λ part. matrix_of value n l.height l.width part.entries.items) (part_at (map (λ row. row.items) l.parts) (to_nat a) (to_nat b))))
    (l.i * times l.across l.width) l.entries.items
