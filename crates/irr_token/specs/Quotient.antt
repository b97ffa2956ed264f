-- Fractions as they are written: quotient = [sign] number [ / number ].
--   WrittenQuotient        the sign, where there is one (true for -), the numerator, and the denominator, where there is one
--   quotient_tokens q      the tokens of q
--   quotient_value q       the rational number that q writes
use Rattle.std.specs.Prelude.{ℕ, ℤ, pos, neg_ℤ, Bool, false, List, [], ◌∷◌, ◌++◌, Option, None, Some, if◌then◌else◌}
use Rattle.irr_rational.specs.Rational.{Rational, ratio}
use Rattle.irr_token.specs.Token.{PlacedNumber, Token, value_of}
use Rattle.irr_token.specs.Token.Token.{number, mark}

pub record WrittenQuotient : Type 0 where
  pub sign : Option Bool
  pub numerator : PlacedNumber
  pub denominator : Option PlacedNumber

abbrev pub sign_byte : Bool → ℕ
sign_byte negative = if negative then 45 else 43

abbrev pub sign_tokens : Option Bool → List Token
sign_tokens None = []
sign_tokens (Some negative) = mark (sign_byte negative) ∷ []

-- a slash and the denominator
abbrev pub over_tokens : Option PlacedNumber → List Token
over_tokens None = []
over_tokens (Some d) = mark 47 ∷ number d ∷ []

abbrev pub quotient_tokens : WrittenQuotient → List Token
quotient_tokens q = sign_tokens q.sign ++ (number q.numerator ∷ over_tokens q.denominator)

-- whether the sign is a minus; no sign is a plus
abbrev pub is_negative : Option Bool → Bool
is_negative None = false
is_negative (Some negative) = negative

-- n, or -n where the sign is negative
abbrev pub with_sign : Bool → ℕ → ℤ
with_sign negative n = if negative then neg_ℤ (pos n) else pos n

-- 1 where no denominator is written
abbrev pub denominator_value : Option PlacedNumber → ℕ
denominator_value None = 1
denominator_value (Some d) = value_of d

abbrev pub quotient_value : WrittenQuotient → Rational
quotient_value q = ratio (with_sign (is_negative q.sign) (value_of q.numerator)) (denominator_value q.denominator)
