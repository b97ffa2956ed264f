-- The rows so far are added.
use Rattle.std.proofs.Common.{ℕ, ◌≡◌, ◌<◌, length}
use Rattle.irr_cyc.specs.Form.{at}
use Rattle.irr_cyc.proofs.Placed.{rows}
use Rattle.irr_cyc.proofs.polynomials.product.Given as goal

abbrev pub invariant-loop-i : goal.invariant-loop-i
invariant-loop-i l = record {
  len : length l.sums.items ≡ length l.xs;
  value : (k : ℕ) → k < length l.xs → at l.sums.items k ≡ rows (length l.xs) (at l.xs) (at l.ys) l.i k;
}
