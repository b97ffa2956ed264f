-- What is read of a line of fractions.
--   IsAtBlank text            the text is empty or begins with a blank
--   IsAlike p q, AreAlike ps qs   the fractions have the same sign, where no sign is a plus, and the same numbers
--   written_row r, written_rows r     the fractions that the program's values stand for, in the order of the line
--   RowHasDigits r            the numbers of the row are written in digits
--   RowsHaveDigits r          the same of each row
--   IsFractionOf m f q        f is q in lowest terms, with numbers of at most m
--   AreFractionsOf m f r      the same of each fraction of a row
--   IsSmallFraction m f       f is in lowest terms, with a numerator of at most m
--   AreSmall m f              the same of each fraction of a row
--   Divide f k                each denominator of the row divides k
--   DivideAll f g h k         each denominator of three rows does
--   AreNumerators f num den   the numbers num over den are the fractions of the row
--   IsLeast P m               m is positive, has the property P, and divides each number that has it
use Rattle.std.specs.Prelude.{ℕ, ℤ, ◌≡◌, ◌<◌, ◌≤◌, List, [], ◌∷◌, ◌++◌, unsigned_abs}
use Rattle.std.specs.Int.{◌∣◌}
use Rattle.irr_algebra.specs.Fin.Fin.{first, next}
use Rattle.irr_rational.specs.Rational.{ratio}
use Rattle.irr_rational.specs.Ratio.{IsLowest, entry}
use Rattle.irr_rat.specs.declared.fraction.Fraction.{Fraction}
use Rattle.irr_token.specs.declared.kind.Kind.TheVariants.{Blank}
use Rattle.irr_token.specs.Kinds.{kind_of}
use Rattle.irr_token.specs.Quotient.{WrittenQuotient, is_negative, quotient_value}
use Rattle.irr_token.specs.Reading.{written_quotient, HasDigits}
use Rattle.irr_setting_text.specs.declared.row.Row.{Row}
use Rattle.irr_setting_text.specs.declared.row.Rows.{Rows}
use Rattle.irr_setting_text.specs.declared.values.Fractions.{Fractions}

abbrev pub IsAtBlank : List ℕ → Type 0
IsAtBlank [] = Unit {0}
IsAtBlank (c ∷ cs) = kind_of c ≡ Blank

pub record IsAlike (p q : WrittenQuotient) : Type 0 where
  pub sign : is_negative p.sign ≡ is_negative q.sign
  pub numerator : p.numerator ≡ q.numerator
  pub denominator : p.denominator ≡ q.denominator

abbrev pub AreAlike : List WrittenQuotient → List WrittenQuotient → Type 0
AreAlike [] [] = Unit {0}
AreAlike [] (q ∷ qs) = ⊥
AreAlike (p ∷ ps) [] = ⊥
AreAlike (p ∷ ps) (q ∷ qs) = IsAlike p q × AreAlike ps qs

abbrev pub written_row : Row → List WrittenQuotient
written_row r = written_quotient r.x ∷ written_quotient r.y ∷ written_quotient r.z ∷ []

abbrev pub written_rows : Rows → List WrittenQuotient
written_rows r = written_row r.first ++ (written_row r.second ++ written_row r.third)

abbrev pub RowHasDigits : Row → Type 0
RowHasDigits r = HasDigits r.x × HasDigits r.y × HasDigits r.z

abbrev pub RowsHaveDigits : Rows → Type 0
RowsHaveDigits r = RowHasDigits r.first × RowHasDigits r.second × RowHasDigits r.third

pub record IsFractionOf (m : ℕ) (f : Fraction) (q : WrittenQuotient) : Type 0 where
  pub lowest : IsLowest f.num f.den
  pub value : ratio f.num f.den ≡ quotient_value q
  pub small : unsigned_abs f.num ≤ m
  pub within : f.den ≤ m

pub record AreFractionsOf (m : ℕ) (f : Fractions) (r : Row) : Type 0 where
  pub x : IsFractionOf m f.x (written_quotient r.x)
  pub y : IsFractionOf m f.y (written_quotient r.y)
  pub z : IsFractionOf m f.z (written_quotient r.z)

abbrev pub IsSmallFraction : ℕ → Fraction → Type 0
IsSmallFraction m f = IsLowest f.num f.den × (unsigned_abs f.num ≤ m)

abbrev pub AreSmall : ℕ → Fractions → Type 0
AreSmall m f = IsSmallFraction m f.x × IsSmallFraction m f.y × IsSmallFraction m f.z

abbrev pub Divide : Fractions → ℕ → Type 0
Divide f k = (f.x.den ∣ k) × (f.y.den ∣ k) × (f.z.den ∣ k)

abbrev pub DivideAll : (f g h : Fractions) → ℕ → Type 0
DivideAll f g h k = Divide f k × Divide g k × Divide h k

abbrev pub AreNumerators : Fractions → List ℤ → ℕ → Type 0
AreNumerators f num den = (ratio (entry {n = 3} num first) den ≡ ratio f.x.num f.x.den)
    × (ratio (entry {n = 3} num (next first)) den ≡ ratio f.y.num f.y.den)
    × (ratio (entry {n = 3} num (next (next first))) den ≡ ratio f.z.num f.z.den)

pub record IsLeast (P : ℕ → Type 0) (m : ℕ) : Type 0 where
  pub positive : 0 < m
  pub has : P m
  pub least : (k : ℕ) → P k → m ∣ k
