-- What a line of a setting says, or why it says nothing. A setting is a change of basis and origin (P,p) (International Tables A, section 1.5):
-- the line basis has the nine entries of P row by row, and the line origin the three components of p.
--   line_denominators qs     the denominators of the fractions qs, in the order of the line
--   line_numbers m qs        the numbers of the fractions qs in the order of the line, each with the limit m
--   value_at qs i            the value of the fraction at the place i
--   AreValues qs num den     the numerators num over den are the values of the fractions qs
--   HasCommonDenominator m n qs   the least common denominator of the n values is at most m
--   IsText word n m line num den  the line is the word and n fractions with no fault, each number at most m; num over den, in lowest terms, are their values
--   IsRangeFault m n qs l p  a number passes the limit m, the first of them at p; or only the common denominator does, and p is l
--   IsFault word n m line e  the error e comes with the line, at its place
--   row_by_row num           the entries of three rows in their order
--   IsBasisText line num den, IsBasisFault line e     the line writes the three rows num over den, in lowest terms; its error is e
--   IsOriginText line p, IsOriginFault line e         the line writes the vector p; its error is e
use Rattle.std.specs.Prelude.{ℕ, ℤ, pos, zero, suc, ◌≡◌, ◌≤◌, ◌⊎◌, List, [], ◌∷◌, ◌++◌, length, codes, slice_index_or, Option, None, Some, ◌/◌, ◌%◌}
use Rattle.irr_algebra.specs.Fin.{Fin, to_nat}
use Rattle.irr_rational.specs.Rational.{Rational, ratio}
use Rattle.irr_rational.specs.Ratio.{AreLowest, entry}
use Rattle.irr_rat.specs.declared.vec3.Vec3.{Vec3}
use Rattle.irr_grammar.specs.ShapePlace.{IsShapePlace}
use Rattle.irr_token.specs.Token.{PlacedNumber}
use Rattle.irr_token.specs.Quotient.{WrittenQuotient, quotient_value}
use Rattle.irr_token.specs.Fault.{Limited, AreNotZero, IsFirstZero, AreWithin, IsFirstBeyond, denominators}
use Rattle.irr_setting_text.specs.declared.read.SettingError.{SettingError}
use Rattle.irr_setting_text.specs.declared.read.SettingError.TheVariants.{Shape, Zero, Range}
use Rattle.irr_setting_text.specs.declared.read.TheConstants.{BASIS_LIMIT, ORIGIN_LIMIT}
use Rattle.irr_setting_text.specs.WrittenLine.{IsSpelling, IsLine}

abbrev pub line_denominators : List WrittenQuotient → List PlacedNumber
line_denominators [] = []
line_denominators (q ∷ qs) = denominators q ++ line_denominators qs

abbrev pub present_within : ℕ → Option PlacedNumber → List Limited
present_within m None = []
present_within m (Some n) = record { limit = m; number = n } ∷ []

abbrev pub numbers_within : ℕ → WrittenQuotient → List Limited
numbers_within m q = record { limit = m; number = q.numerator } ∷ present_within m q.denominator

abbrev pub line_numbers : ℕ → List WrittenQuotient → List Limited
line_numbers m [] = []
line_numbers m (q ∷ qs) = numbers_within m q ++ line_numbers m qs

-- 0 past the end
abbrev pub value_at : List WrittenQuotient → ℕ → Rational
value_at [] i = ratio (pos 0) 1
value_at (q ∷ qs) zero = quotient_value q
value_at (q ∷ qs) (suc i) = value_at qs i

abbrev pub AreValues : {n : ℕ} → List WrittenQuotient → (Fin n → ℤ) → ℕ → Type 0
AreValues {n} qs num den = (i : Fin n) → ratio (num i) den ≡ value_at qs (to_nat i)

pub record HasCommonDenominator (m n : ℕ) (qs : List WrittenQuotient) : Type 0 where
  pub num : Fin n → ℤ
  pub den : ℕ
  pub lowest : AreLowest num den
  pub values : AreValues qs num den
  pub within : den ≤ m

pub record IsText (word : List ℕ) (n m : ℕ) (line : List ℕ) (num : Fin n → ℤ) (den : ℕ) : Type 0 where
  pub quotients : List WrittenQuotient
  pub spells : IsSpelling word n quotients line
  pub not_zero : AreNotZero (line_denominators quotients)
  pub within : AreWithin (line_numbers m quotients)
  pub values : AreValues quotients num den
  pub lowest : AreLowest num den
  pub common : den ≤ m

abbrev pub IsRangeFault : (m n : ℕ) → List WrittenQuotient → ℕ → ℕ → Type 0
IsRangeFault m n qs l p = AreNotZero (line_denominators qs)
    × (IsFirstBeyond (line_numbers m qs) p ⊎ (AreWithin (line_numbers m qs) × ¬ (HasCommonDenominator m n qs) × (p ≡ l)))

-- each way in which the line is spelled is meant; there is one at most, as it is answered at the same place
abbrev pub IsFault : List ℕ → (n m : ℕ) → List ℕ → SettingError → Type 0
IsFault word n m line (Shape p) = ¬ (IsLine word n line) × IsShapePlace (IsLine word n) line p
IsFault word n m line (Zero p) = IsLine word n line × ((qs : List WrittenQuotient) → IsSpelling word n qs line → IsFirstZero (line_denominators qs) p)
IsFault word n m line (Range p) = IsLine word n line × ((qs : List WrittenQuotient) → IsSpelling word n qs line → IsRangeFault m n qs (length line) p)

abbrev pub row_by_row : List (List ℤ) → Fin 9 → ℤ
row_by_row num k = slice_index_or (slice_index_or num (to_nat k / 3) []) (to_nat k % 3) (pos 0)

abbrev pub IsBasisText : List ℕ → List (List ℤ) → ℕ → Type 0
IsBasisText line num den = IsText (codes "basis") 9 BASIS_LIMIT line (row_by_row num) den

abbrev pub IsBasisFault : List ℕ → SettingError → Type 0
IsBasisFault line e = IsFault (codes "basis") 9 BASIS_LIMIT line e

abbrev pub IsOriginText : List ℕ → Vec3 → Type 0
IsOriginText line p = IsText (codes "origin") 3 ORIGIN_LIMIT line (entry p.num) p.den

abbrev pub IsOriginFault : List ℕ → SettingError → Type 0
IsOriginFault line e = IsFault (codes "origin") 3 ORIGIN_LIMIT line e
