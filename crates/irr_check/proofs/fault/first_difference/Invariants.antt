-- The numbers so far are the same.
use Rattle.std.proofs.Common.{ℕ, ◌≡◌, ◌<◌}
use Rattle.irr_algebra.specs.Fin.{Fin, to_nat}
use Rattle.irr_number.specs.Number.{Number}
use Rattle.irr_char.specs.Characters.{IsRowOf}
use Rattle.irr_check.proofs.fault.first_difference.Given as goal

abbrev pub invariant-loop-i : goal.invariant-loop-i
invariant-loop-i g l = (n h : ℕ) (f e : Fin h → Number n) → IsRowOf g.S.Scalar.order_of g.S.Scalar.value n f l.traces
    → IsRowOf g.S.Scalar.order_of g.S.Scalar.value n e l.chars → (k : Fin h) → to_nat k < l.i → e k ≡ f k
