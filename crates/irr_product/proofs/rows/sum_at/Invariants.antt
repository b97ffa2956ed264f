-- The sum so far.
use Rattle.std.proofs.Common.{◌≡◌, ℕ}
use Rattle.irr_algebra.specs.Fin.{Fin, to_nat}
use Rattle.irr_mat.proofs.PartialSums.{PartialSum}
use Rattle.irr_char.proofs.Traces.{extended}
use Rattle.irr_product.specs.ClassRows.{ClassRows}
use Rattle.irr_product.proofs.RowItems.{term_of}
use Rattle.irr_product.proofs.rows.sum_at.Given as goal

abbrev pub invariant-loop-class : goal.invariant-loop-class
invariant-loop-class g l =
    (h : ℕ) (e : ClassRows g.S.Scalar.order_of g.S.Scalar.value l.order.n h l.left l.right l.classes) (p : Fin h) → to_nat p ≡ l.place
    → PartialSum g.S.Scalar.order_of g.S.Scalar.value l.order.n
    (extended l.order.n (term_of g.S.Scalar.order_of g.S.Scalar.value l.order.n h l.left l.right l.classes e p)) l.class-index l.sum
