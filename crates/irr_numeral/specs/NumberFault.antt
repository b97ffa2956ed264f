-- Why a text is no number within the limits.
--   IsShapeFault text p     the text leaves the grammar, the rule on exponents aside, at p; or p is the first exponent that does not increase
--   IsZeroFault text p      the exponents increase, and p is the first denominator that is 0
--   IsRangeFault n text p   no denominator is 0 either, and p is the first number that passes its limit
--   IsTotalFault n text p   no number passes its limit either, and the common denominator or the size over it does; p is the text's length
--   IsFault n text e        the error e comes with the text, at its place, at the order n
use Rattle.std.specs.Prelude.{ℕ, ◌≡◌, List, ◌⊎◌, All, length}
use Rattle.irr_grammar.specs.ShapePlace.{IsShapePlace}
use Rattle.irr_numeral.specs.declared.read.NumberError.{NumberError}
use Rattle.irr_numeral.specs.declared.read.NumberError.TheVariants.{Shape, Zero, Range, Memory}
use Rattle.irr_numeral.specs.WrittenNumber.{IsNumber, AreIncreasing}
use Rattle.irr_numeral.specs.TermPlaces.{IsUnorderedAt, HasZero, IsZeroAt}
use Rattle.irr_numeral.specs.NumberLimit.{IsWithin, IsBeyondAt}
use Rattle.irr_numeral.specs.WrittenValue.{AreSmall}

abbrev pub IsShapeFault : List ℕ → ℕ → Type 0
IsShapeFault text p = (¬ (IsNumber text) × IsShapePlace IsNumber text p) ⊎ ((form : IsNumber text) × IsUnorderedAt form.terms p)

abbrev pub IsZeroFault : List ℕ → ℕ → Type 0
IsZeroFault text p = (form : IsNumber text) × AreIncreasing form.terms × IsZeroAt form.terms p

abbrev pub IsRangeFault : ℕ → List ℕ → ℕ → Type 0
IsRangeFault n text p = (form : IsNumber text) × AreIncreasing form.terms × All (λ t. ¬ (HasZero t)) form.terms × IsBeyondAt n form.terms p

abbrev pub IsTotalFault : ℕ → List ℕ → ℕ → Type 0
IsTotalFault n text p = (form : IsNumber text) × AreIncreasing form.terms × All (λ t. ¬ (HasZero t)) form.terms × All (IsWithin n) form.terms
    × ¬ (AreSmall form.terms) × (p ≡ length text)

abbrev pub IsFault : ℕ → List ℕ → NumberError → Type 0
IsFault n text (Shape p) = IsShapeFault text p
IsFault n text (Zero p) = IsZeroFault text p
IsFault n text (Range p) = IsRangeFault n text p ⊎ IsTotalFault n text p
IsFault n text Memory = Unit {0}
