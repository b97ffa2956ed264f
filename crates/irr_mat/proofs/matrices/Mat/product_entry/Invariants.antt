-- The sum so far.
use Rattle.irr_mat.proofs.PartialSums.{PartialSum, term}
use Rattle.irr_mat.proofs.matrices.Mat.product_entry.Given as goal

abbrev pub invariant-loop-k : goal.invariant-loop-k
invariant-loop-k g l = PartialSum g.S.Scalar.order_of g.S.Scalar.value l.order.n (term g.S.Scalar.value l.order.n l.self.cols l.other.cols l.self.entries.items l.other.entries.items l.i l.j) l.k l.sum
