-- The rational number that a numerator over a denominator stands for.
--   fraction num den      num over den, where den may be negative
--   IsReduced num den     den is positive, and only 1 divides both
--   HasNegative fits x    the type has x and its negative
use Rattle.std.specs.Prelude.{ℤ, suc, pos, negsuc, neg_ℤ, ◌<ℤ◌, unsigned_abs}
use Rattle.irr_rational.specs.Rational.{Rational, ratio}
use Rattle.irr_rational.specs.Ratio.{IsLowest}

abbrev pub fraction : ℤ → ℤ → Rational
fraction num (pos d) = ratio num d
fraction num (negsuc d) = ratio (neg_ℤ num) (suc d)

pub record IsReduced (num den : ℤ) : Type 0 where
  pub positive : pos 0 <ℤ den
  pub lowest : IsLowest num (unsigned_abs den)

abbrev pub HasNegative : (ℤ → Type 0) → ℤ → Type 0
HasNegative fits x = fits x × fits (neg_ℤ x)
