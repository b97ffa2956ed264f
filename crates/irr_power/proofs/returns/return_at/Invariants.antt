-- The sum so far.
use Rattle.std.proofs.Common.{◌≡◌, ℕ}
use Rattle.irr_algebra.specs.Fin.{Fin, to_nat}
use Rattle.irr_mat.proofs.PartialSums.{PartialSum}
use Rattle.irr_char.proofs.Traces.{extended}
use Rattle.irr_power.specs.Returns.{ReturnRows}
use Rattle.irr_power.proofs.ReturnItems.{return_term}
use Rattle.irr_power.proofs.returns.return_at.Given as goal

abbrev pub invariant-loop-class : goal.invariant-loop-class
invariant-loop-class g l =
    (h : ℕ) (e : ReturnRows g.S.Scalar.order_of g.S.Scalar.value l.order.n h l.doubles l.targets l.classes) (p : Fin h) → to_nat p ≡ l.place
    → PartialSum g.S.Scalar.order_of g.S.Scalar.value l.order.n
    (extended l.order.n (return_term g.S.Scalar.order_of g.S.Scalar.value l.order.n h l.doubles l.targets l.classes e p)) l.class-index l.sum
