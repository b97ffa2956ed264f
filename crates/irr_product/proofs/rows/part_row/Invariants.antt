-- The sums so far.
use Rattle.std.proofs.Common.{◌≡◌}
use Rattle.irr_algebra.specs.Fin.{Fin, to_nat}
use Rattle.irr_side.specs.ArmTraces.{AreEach}
use Rattle.irr_product.specs.ClassRows.{ClassRows, class_sum}
use Rattle.irr_product.proofs.rows.part_row.Given as goal

abbrev pub invariant-loop-place : goal.invariant-loop-place
invariant-loop-place g l =
    AreEach (λ n (x : g.row.S.Denot). (g.S.Scalar.order_of x ≡ l.order.n)
    × ((e : ClassRows g.S.Scalar.order_of g.S.Scalar.value l.order.n l.places l.left l.right l.classes) (p : Fin l.places) → to_nat p ≡ n
    → g.S.Scalar.value l.order.n x ≡ class_sum e p)) l.place l.row.items
