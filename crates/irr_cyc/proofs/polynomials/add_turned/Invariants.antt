-- The terms so far are added at their places.
use Rattle.std.proofs.Common.{ℕ, ◌≡◌, ◌<◌, ◌+◌, ◌%◌, ◌+ℤ◌, ◌*ℤ◌, length}
use Rattle.irr_cyc.specs.Form.{at}
use Rattle.irr_cyc.proofs.Placed.{placed_sum}
use Rattle.irr_cyc.proofs.polynomials.add_turned.Given as goal

abbrev pub invariant-loop-j : goal.invariant-loop-j
invariant-loop-j l = (k : ℕ) → k < length l.initial.sums → at l.sums k ≡ at l.initial.sums k +ℤ (l.x *ℤ placed_sum (at l.ys) (λ i. (l.shift + i) % length l.initial.sums) l.j k)
