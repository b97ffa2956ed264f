-- The order of the rational numbers, and of lists of them.
--   x ≤ℚ y, x <ℚ y      the order
--   IsFloor x k         k is the greatest whole number that is not above x
--   IsBelow f g         f stands before g: at the first of n places at which they differ, f is less
--   IsAtMost f g        f is g or stands before it
use Rattle.std.specs.Prelude.{ℕ, ℤ, ◌≡◌, ◌<◌, ◌⊎◌}
use Rattle.irr_algebra.specs.Ring.{whole}
use Rattle.irr_algebra.specs.Fin.{Fin, to_nat}
use Rattle.irr_rational.specs.Integer.{integer}
use Rattle.irr_rational.specs.Rational.{Rational, rationals}

-- some positive multiple of x is a natural number
pub record IsNonNegative (x : Rational) : Type 0 where
  pub times : ℕ
  pub positive : 0 < times
  pub number : ℕ
  pub multiple : rationals.mul (whole rationals times) x ≡ whole rationals number

infix 50 ◌≤ℚ◌
infix 50 ◌<ℚ◌
-- the difference is not negative
abbrev pub ◌≤ℚ◌ : Rational → Rational → Type 0
x ≤ℚ y = IsNonNegative (rationals.add y (rationals.neg x))

-- at most y, and not y
abbrev pub ◌<ℚ◌ : Rational → Rational → Type 0
x <ℚ y = (x ≤ℚ y) × ¬ (x ≡ y)

-- the greatest whole number that is not above x
pub record IsFloor (x : Rational) (k : ℤ) : Type 0 where
  pub at_most : integer rationals k ≤ℚ x
  pub below : x <ℚ rationals.add (integer rationals k) rationals.one

-- lexicographic: at the first place at which they differ, f is less
pub record IsBelow {n : ℕ} (f g : Fin n → Rational) : Type 0 where
  pub place : Fin n
  pub before : (i : Fin n) → to_nat i < to_nat place → f i ≡ g i
  pub less : f place <ℚ g place

-- the same, or lexicographically before
abbrev pub IsAtMost : {n : ℕ} (f g : Fin n → Rational) → Type 0
IsAtMost {n} f g = ((i : Fin n) → f i ≡ g i) ⊎ IsBelow f g
