-- The tokens of a text.
--   PlacedNumber     the digits of a number, and the place of the first of them, counted in bytes from 0
--   value_of n       the number that the digits write
--   Token            a number, or a mark: a single byte
--   Symbol           what a grammar sees of a token: that it is a number, or which mark it is
use Rattle.std.specs.Prelude.{ℕ, List}
use Rattle.std.specs.Str.Parse.{digits_value}

pub record PlacedNumber : Type 0 where
  pub place : ℕ
  pub digits : List ℕ

abbrev pub value_of : PlacedNumber → ℕ
value_of n = digits_value 10 n.digits

pub data Token : Type 0 where
  number : PlacedNumber → Token
  mark : ℕ → Token

pub data Symbol : Type 0 where
  digits : Symbol
  byte : ℕ → Symbol

abbrev pub symbol_of : Token → Symbol
symbol_of (number n) = digits
symbol_of (mark c) = byte c
