-- The canonical form of a number of order N, and what is read off it.
--   canonical N x        the one fraction with coefficients in the basis and in lowest terms that stands for x
--   denominator N x      its denominator
--   size N x             the sum of the absolute coefficients, over the denominator
--   coefficient N x j    the rational coefficient of x at z^j in the basis
--   over N f d p         the fraction with the coefficients f 0, .., f (N-1) over d
--   number_of N xs d     the number that the coefficients xs over d stand for, and 0 where d is 0
use Rattle.std.specs.Prelude.{ℕ, ℤ, ◌<◌, ◌+◌, zero, suc, List, slice_index_or, pos}
use Rattle.std.specs.Int.RustNames.{unsigned_abs}
use Rattle.std.proofs.Math.Nat.{zero-lt-suc}
use native.Mathlib.Decide.{dec_lt}
use Rattle.irr_number.specs.Algebra.{algebra}
use Rattle.irr_number.specs.Element.{Element, element, power}
use Rattle.irr_number.specs.Fraction.{Fraction, over_one}
use Rattle.irr_number.specs.Number.{Number, number, numbers}
use Rattle.irr_number.proofs.Canonical.{canonical_form}
use Rattle.irr_rational.specs.Rational.{Rational, ratio}

-- the form by the decision whether N is positive
unfoldable pub canonical_if : (N : ℕ) → Dec (0 < N) → Number N → Fraction (Element N)
canonical_if N (yes h) x = (canonical_form N h x).0
canonical_if N (no f) x = over_one (algebra N) (power N 0)

-- the canonical form of x
unfoldable pub canonical : (N : ℕ) → Number N → Fraction (Element N)
canonical N x = canonical_if N (dec_lt 0 N) x

-- the denominator of the canonical form
unfoldable pub denominator : (N : ℕ) → Number N → ℕ
denominator N x = (canonical N x).den

-- f at each number below n, added up
unfoldable pub total_below : ℕ → (ℕ → ℕ) → ℕ
total_below zero f = zero
total_below (suc n) f = total_below n f + f n

-- the sum of the absolute coefficients of the canonical form
unfoldable pub size : (N : ℕ) → Number N → ℕ
size N x = total_below N (λ j. unsigned_abs ((canonical N x).num.at j))

-- the coefficient of x at z^j in the basis
unfoldable pub coefficient : (N : ℕ) → Number N → ℕ → Rational
coefficient N x j = ratio ((canonical N x).num.at j) (denominator N x)

-- the coefficients f over d
abbrev pub over : (N : ℕ) → (ℕ → ℤ) → (d : ℕ) → 0 < d → Fraction (Element N)
over N f d p = record { num = element N f; den = d; den_pos = p }

-- the number that coefficients over a denominator stand for, and 0 where the denominator is 0
unfoldable pub number_of : (N : ℕ) → List ℤ → ℕ → Number N
number_of N xs zero = (numbers N).zero
number_of N xs (suc d) = number N (over N (λ j. slice_index_or xs j (pos 0)) (suc d) (zero-lt-suc d))
