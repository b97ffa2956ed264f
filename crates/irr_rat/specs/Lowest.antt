-- Three whole numbers over a common denominator in lowest terms.
--   AreThreeLowest num den     only 1 divides den and each of the three numbers of num
use Rattle.std.specs.Prelude.{ℕ, ℤ, List}
use Rattle.irr_rational.specs.Ratio.{AreLowest, entry}

abbrev pub AreThreeLowest : List ℤ → ℕ → Type 0
AreThreeLowest num den = AreLowest {n = 3} (entry num) den
