-- The sums so far.
use Rattle.std.proofs.Common.{◌≡◌}
use Rattle.irr_algebra.specs.Fin.{Fin, to_nat}
use Rattle.irr_side.specs.ArmTraces.{AreEach}
use Rattle.irr_power.specs.Returns.{ReturnRows, return_sum}
use Rattle.irr_power.proofs.returns.return_row.Given as goal

abbrev pub invariant-loop-place : goal.invariant-loop-place
invariant-loop-place g l = (e : ReturnRows g.S.Scalar.order_of g.S.Scalar.value l.order.n l.places l.doubles l.targets l.classes)
    → AreEach (λ k (x : g.row.S.Denot). (g.S.Scalar.order_of x ≡ l.order.n)
    × ((p : Fin l.places) → to_nat p ≡ k → g.S.Scalar.value l.order.n x ≡ return_sum e p)) l.place l.row.items
