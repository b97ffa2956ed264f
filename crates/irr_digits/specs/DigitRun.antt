-- Runs of decimal digits in a text.
--   BeginsWithDigit text     the first byte of the text is a decimal digit
--   HasNoLeadingZero ds      the digits ds do not begin with 0, or are just 0
use Rattle.std.specs.Prelude.{ℕ, ◌≡◌, ◌<◌, List, [], ◌∷◌, length, slice_index}
use Rattle.std.specs.Char.{digit_value}

abbrev pub BeginsWithDigit : List ℕ → Type 0
BeginsWithDigit [] = ⊥
BeginsWithDigit (c ∷ cs) = digit_value c < 10

abbrev pub HasNoLeadingZero : List ℕ → Type 0
HasNoLeadingZero ds = slice_index ds 0 ≡ 48 → length ds ≡ 1
