-- The sum so far.
use Rattle.irr_mat.specs.Entries.{first_order}
use Rattle.irr_mat.proofs.PartialSums.{PartialSum, diagonal}
use Rattle.irr_mat.proofs.matrices.Mat.trace.Given as goal

abbrev pub invariant-loop-i : goal.invariant-loop-i
invariant-loop-i g l =
    let n = first_order g.S.Scalar.order_of l.self.entries.items in
    PartialSum g.S.Scalar.order_of g.S.Scalar.value n (diagonal g.S.Scalar.value n l.self.rows l.self.entries.items) l.i l.sum
