-- What is read of a text: its numbers, each with its place.
--   placed_number n       the number that the program's value n stands for
--   written_quotient q    the fraction that the program's value q stands for; a sign is always written
--   IsReadAs r q          r is read of the fraction q as it is written
--   IsBehindQuotient ts, IsBehindNumber ts   the tokens ts do not go on with a fraction, or a number, before them
--   BeginsWith b text, BeginsWithBlank text      the first byte of the text is b, or a blank
--   HasDigits q           the numbers of q are written in digits
use Rattle.std.specs.Prelude.{ℕ, ◌≡◌, ◌≢◌, List, [], ◌∷◌, Some, IfSome}
use Rattle.std.specs.Str.Parse.{AllDigits}
use Rattle.std.specs.Option.{option_map}
use Rattle.irr_token.specs.declared.read.Number.{Number}
use Rattle.irr_token.specs.declared.read.Quotient.{Quotient}
use Rattle.irr_token.specs.Token.{PlacedNumber, Token}
use Rattle.irr_token.specs.Token.Token.{number, mark}
use Rattle.irr_token.specs.declared.kind.Kind.TheVariants.{Blank}
use Rattle.irr_token.specs.Kinds.{kind_of}
use Rattle.irr_token.specs.Quotient.{WrittenQuotient, is_negative}

abbrev pub placed_number : Number → PlacedNumber
placed_number n = record { place = n.place; digits = n.digits.now }

abbrev pub written_quotient : Quotient → WrittenQuotient
written_quotient q = record { sign = Some q.negative; numerator = placed_number q.numerator; denominator = option_map placed_number q.denominator }

pub record IsReadAs (r : Quotient) (q : WrittenQuotient) : Type 0 where
  pub sign : r.negative ≡ is_negative q.sign
  pub numerator : placed_number r.numerator ≡ q.numerator
  pub denominator : option_map placed_number r.denominator ≡ q.denominator

-- no number, which would join one before it, and no slash
abbrev pub IsBehindQuotient : List Token → Type 0
IsBehindQuotient [] = Unit {0}
IsBehindQuotient (number n ∷ ts) = ⊥
IsBehindQuotient (mark c ∷ ts) = c ≢ 47

-- no number
abbrev pub IsBehindNumber : List Token → Type 0
IsBehindNumber [] = Unit {0}
IsBehindNumber (number n ∷ ts) = ⊥
IsBehindNumber (mark c ∷ ts) = Unit {0}

abbrev pub BeginsWithBlank : List ℕ → Type 0
BeginsWithBlank [] = ⊥
BeginsWithBlank (c ∷ cs) = kind_of c ≡ Blank

abbrev pub BeginsWith : ℕ → List ℕ → Type 0
BeginsWith b [] = ⊥
BeginsWith b (c ∷ cs) = c ≡ b

-- the numbers are written in digits
abbrev pub HasDigits : Quotient → Type 0
HasDigits q = AllDigits 10 q.numerator.digits.now × IfSome (option_map placed_number q.denominator) (λ n. AllDigits 10 n.digits)
