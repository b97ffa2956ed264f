-- Terms over one denominator.
--   scaled_term d t     the exponent of t, and its numerator over the denominator d with its sign
use Rattle.std.specs.Prelude.{ℕ, ℤ}
use Rattle.irr_numeral.specs.WrittenNumber.{WrittenTerm, exponent_of}
use Rattle.irr_numeral.specs.WrittenValue.{numerator_over, with_sign}

abbrev pub scaled_term : ℕ → WrittenTerm → ℕ × ℤ
scaled_term d t = (exponent_of t, with_sign t.negative (numerator_over d t))
