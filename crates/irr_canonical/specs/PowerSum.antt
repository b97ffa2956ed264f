-- Sums of powers of z.
--   power_sum N f         the sum of f 0, f 1 z, .., f (N-1) z^(N-1)
use Rattle.std.specs.Prelude.{ℕ, ℤ}
use Rattle.irr_algebra.specs.Listed.{sum_below}
use Rattle.irr_number.specs.Number.{Number, numbers, root_power}
use Rattle.irr_rational.specs.Integer.{integer}

-- the powers of z below N, each times its whole coefficient, added up
unfoldable pub power_sum : (N : ℕ) → (ℕ → ℤ) → Number N
power_sum N f = sum_below (numbers N) N (λ j. (numbers N).mul (integer (numbers N) (f j)) (root_power N j))
