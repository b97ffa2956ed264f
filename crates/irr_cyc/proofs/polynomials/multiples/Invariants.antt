-- The products so far.
use Rattle.std.proofs.Common.{ℕ, ◌≡◌, ◌<◌, ◌*ℤ◌, length}
use Rattle.irr_cyc.specs.Form.{at}
use Rattle.irr_cyc.proofs.polynomials.multiples.Given as goal

abbrev pub invariant-loop-x : goal.invariant-loop-x
invariant-loop-x l = record {
  len : length l.products.items ≡ l.x-index;
  value : (j : ℕ) → j < l.x-index → at l.products.items j ≡ at l.xs j *ℤ l.times;
}
