-- The terms so far are at their places.
use Rattle.std.proofs.Common.{ℕ, ◌≡◌, ◌<◌, ◌+ℤ◌, ◌*ℤ◌, pos, length}
use Rattle.irr_cyc.specs.Form.{at}
use Rattle.irr_cyc.proofs.Placed.{placed_sum}
use Rattle.irr_cyc.proofs.TermSums.{coefficient_at, exponent_at}
use Rattle.irr_cyc.proofs.polynomials.add_terms.Given as goal

abbrev pub invariant-loop-exponent : goal.invariant-loop-exponent
invariant-loop-exponent l = (k : ℕ) → k < length l.initial.sums → at l.sums k ≡ at l.initial.sums k +ℤ (pos 1 *ℤ placed_sum (coefficient_at l.terms) (exponent_at l.terms) l.exponent-index k)
