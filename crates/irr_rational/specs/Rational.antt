-- Rational numbers: the numbers of order 1.
--   Rational, rationals, rational_field   the numbers, their ring and their field
--   IsWhole x                             x is a whole number
--   ratio a b                             a over b
use Rattle.std.specs.Prelude.{ℕ, ℤ, ◌≡◌, pos}
use Rattle.std.proofs.Common.{lit<}
use Rattle.irr_algebra.specs.Ring.{Ring}
use Rattle.irr_algebra.specs.Field.{Field}
use Rattle.irr_number.specs.Number.{Number, numbers}
use Rattle.irr_number.proofs.NumberField.{number_field}
use Rattle.irr_rational.specs.Integer.{integer}

abbrev pub Rational : Type 0
Rational = Number 1

abbrev pub rationals : Ring
rationals = numbers 1

abbrev pub rational_field : Field
rational_field = number_field 1 (lit< tt)

-- x is the whole number k
pub record IsWhole (x : Rational) : Type 0 where
  pub number : ℤ
  pub is : x ≡ integer rationals number

-- a over b, and 0 where b is 0
unfoldable pub ratio : ℤ → ℕ → Rational
ratio a b = rationals.mul (integer rationals a) (rational_field.inverse (integer rationals (pos b)))
