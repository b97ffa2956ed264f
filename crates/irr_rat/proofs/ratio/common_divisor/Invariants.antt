-- The pair has numbers from 0 up, with the greatest common divisor of the two numbers.
use Rattle.std.proofs.Common.{ℕ, pos, ◌≤ℤ◌}
use Rattle.std.specs.Prelude.{unsigned_abs}
use Rattle.std.specs.Int.{IsGcd}
use Rattle.irr_rat.proofs.ratio.common_divisor.Given as goal

abbrev pub invariant-steps : goal.invariant-steps
invariant-steps g l = record {
  x_fits : g.I.Number.fits (g.I.Number.value l.x);
  y_fits : g.I.Number.fits (g.I.Number.value l.y);
  x_sign : pos 0 ≤ℤ g.I.Number.value l.x;
  y_sign : pos 0 ≤ℤ g.I.Number.value l.y;
  keeps : (k : ℕ) → IsGcd (unsigned_abs (g.I.Number.value l.x)) (unsigned_abs (g.I.Number.value l.y)) k → IsGcd (unsigned_abs (g.I.Number.value l.fn.a)) (unsigned_abs (g.I.Number.value l.fn.b)) k;
}

abbrev pub decreases-steps : goal.decreases-steps
decreases-steps g l = unsigned_abs (g.I.Number.value l.y)
