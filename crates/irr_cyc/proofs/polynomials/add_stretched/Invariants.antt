-- The coefficients so far are at their places.
use Rattle.std.proofs.Common.{ℕ, ◌≡◌, ◌<◌, ◌*◌, ◌%◌, ◌+ℤ◌, ◌*ℤ◌, pos, length}
use Rattle.irr_cyc.specs.Form.{at}
use Rattle.irr_cyc.proofs.Placed.{placed_sum}
use Rattle.irr_cyc.proofs.polynomials.add_stretched.Given as goal

abbrev pub invariant-loop-i : goal.invariant-loop-i
invariant-loop-i l = (k : ℕ) → k < length l.initial.sums → at l.sums k ≡ at l.initial.sums k +ℤ (pos 1 *ℤ placed_sum (at l.xs) (λ i. (l.factor * i) % length l.initial.sums) l.i k)
