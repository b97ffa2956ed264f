-- The coefficients so far are the same.
use Rattle.std.proofs.Common.{ℕ, ◌≡◌, ◌<◌}
use Rattle.irr_cyc.specs.Form.{at}
use Rattle.irr_cyc.proofs.polynomials.are_same.Given as goal

abbrev pub invariant-loop-i : goal.invariant-loop-i
invariant-loop-i l = (j : ℕ) → j < l.i → at l.xs j ≡ at l.ys j
