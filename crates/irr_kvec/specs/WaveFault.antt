-- What a text says of a wave vector, or why it says nothing.
--   wave_denominators w, wave_numbers m w     the numbers of w in the order of the text, numerators with the limit m
--   IsValue w k               k is the wave vector that w writes
--   HasCommonDenominator w    the least common denominator of its components is at most 100,000
--   IsWritten m w k           no denominator of w is 0, no number passes its limit, and k is its value
--   IsRangeFault m w n p      a number of w passes its limit, the first of them at p; or only the common denominator does, and p is n
--   IsFault m text e          the error e comes with the text, at its place
--   IsTextOf text k           the text writes k, with no fault
use Rattle.std.specs.Prelude.{ℕ, ℤ, ◌≡◌, ◌≤◌, ◌⊎◌, List, ◌++◌, length}
use Rattle.irr_algebra.specs.Fin.{Fin}
use Rattle.irr_algebra.specs.Fin.Fin.{first, next}
use Rattle.irr_rational.specs.Rational.{ratio}
use Rattle.irr_rational.specs.Ratio.{AreLowest}
use Rattle.irr_space.specs.Operation.{WaveVector, wave_component}
use Rattle.irr_grammar.specs.ShapePlace.{IsShapePlace}
use Rattle.irr_token.specs.declared.faults.TheConstants.{DENOMINATOR_LIMIT}
use Rattle.irr_token.specs.Token.{PlacedNumber}
use Rattle.irr_token.specs.Quotient.{quotient_value}
use Rattle.irr_token.specs.Fault.{Limited, AreNotZero, IsFirstZero, AreWithin, IsFirstBeyond, denominators, limited}
use Rattle.irr_kvec.specs.declared.read.WaveError.{WaveError}
use Rattle.irr_kvec.specs.declared.read.WaveError.TheVariants.{Shape, Zero, Range}
use Rattle.irr_kvec.specs.WrittenWave.{WrittenWave, IsSpelling, IsWave}

abbrev pub wave_denominators : WrittenWave → List PlacedNumber
wave_denominators w = denominators w.x ++ (denominators w.y ++ denominators w.z)

abbrev pub wave_numbers : ℕ → WrittenWave → List Limited
wave_numbers m w = limited m w.x ++ (limited m w.y ++ limited m w.z)

pub record IsValue (w : WrittenWave) (k : WaveVector) : Type 0 where
  pub x : wave_component k first ≡ quotient_value w.x
  pub y : wave_component k (next first) ≡ quotient_value w.y
  pub z : wave_component k (next (next first)) ≡ quotient_value w.z

pub record HasCommonDenominator (w : WrittenWave) : Type 0 where
  pub num : Fin 3 → ℤ
  pub den : ℕ
  pub lowest : AreLowest num den
  pub x : ratio (num first) den ≡ quotient_value w.x
  pub y : ratio (num (next first)) den ≡ quotient_value w.y
  pub z : ratio (num (next (next first))) den ≡ quotient_value w.z
  pub within : den ≤ DENOMINATOR_LIMIT

abbrev pub IsWritten : ℕ → WrittenWave → WaveVector → Type 0
IsWritten m w k = AreNotZero (wave_denominators w) × AreWithin (wave_numbers m w) × IsValue w k

abbrev pub IsRangeFault : ℕ → WrittenWave → ℕ → ℕ → Type 0
IsRangeFault m w n p = AreNotZero (wave_denominators w)
    × (IsFirstBeyond (wave_numbers m w) p ⊎ (AreWithin (wave_numbers m w) × ¬ (HasCommonDenominator w) × (p ≡ n)))

-- each way in which the text spells a wave vector is meant; there is one at most, as it is answered at the same place
abbrev pub IsFault : ℕ → List ℕ → WaveError → Type 0
IsFault m text (Shape p) = ¬ (IsWave text) × IsShapePlace IsWave text p
IsFault m text (Zero p) = IsWave text × ((w : WrittenWave) → IsSpelling w text → IsFirstZero (wave_denominators w) p)
IsFault m text (Range p) = IsWave text × ((w : WrittenWave) → IsSpelling w text → IsRangeFault m w (length text) p)

-- the text spells a wave vector with no fault, within the limit of 100,000 on each number, and k is its value
pub record IsTextOf (text : List ℕ) (k : WaveVector) : Type 0 where
  pub wave : WrittenWave
  pub spells : IsSpelling wave text
  pub written : IsWritten DENOMINATOR_LIMIT wave k
  pub common : HasCommonDenominator wave
