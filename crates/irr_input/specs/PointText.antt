-- Points as they are written: three fractions with commas between, as a wave vector, with smaller limits.
--   as_row x                   the components of a point as a row
--   HasSmallDenominator q      the denominator of the fraction is at most 1,000, where it is written
--   HasSmallDenominators w     those of the three fractions are
--   AreSmallNumbers w          all numbers of the three fractions are
--   IsPointOf text x           the text writes the point x, with no fault
--   IsSmallPoint x             numerators of at most 1,000,000 and a denominator of at most 1,000
use Rattle.std.specs.Prelude.{ℕ, List, ◌≤◌, IfSome}
use Rattle.irr_space.specs.Operation.{Vector, WaveVector}
use Rattle.irr_rat.specs.declared.vec3.Vec3.{Vec3}
use Rattle.irr_seitz.specs.OperationMeaning.{AreWithin}
use Rattle.irr_token.specs.Token.{value_of}
use Rattle.irr_token.specs.Quotient.{WrittenQuotient}
use Rattle.irr_kvec.specs.WrittenWave.{WrittenWave}
use Rattle.irr_kvec.specs.WaveFault.{IsTextOf}
use Rattle.irr_input.specs.declared.point.TheConstants.{POINT_LIMIT}

unfoldable pub as_row : Vector → WaveVector
as_row x = record { at = λ i j. x.at j i }

abbrev pub HasSmallDenominator : WrittenQuotient → Type 0
HasSmallDenominator q = IfSome q.denominator (λ d. value_of d ≤ POINT_LIMIT)

abbrev pub HasSmallDenominators : WrittenWave → Type 0
HasSmallDenominators w = HasSmallDenominator w.x × HasSmallDenominator w.y × HasSmallDenominator w.z

abbrev pub AreSmallNumbers : WrittenWave → Type 0
AreSmallNumbers w = (value_of w.x.numerator ≤ POINT_LIMIT) × (value_of w.y.numerator ≤ POINT_LIMIT)
    × (value_of w.z.numerator ≤ POINT_LIMIT) × HasSmallDenominators w

pub record IsPointOf (text : List ℕ) (x : Vector) : Type 0 where
  pub row : IsTextOf text (as_row x)
  pub small : AreSmallNumbers row.wave
  -- the least common denominator
  pub common : row.common.den ≤ POINT_LIMIT

pub record IsSmallPoint (x : Vec3) : Type 0 where
  pub numerators : AreWithin 1000000 x.num
  pub denominator : x.den ≤ 1000
