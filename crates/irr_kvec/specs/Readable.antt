-- The wave vectors whose printed form can be read.
--   IsReadable m k     no numerator of k's components is above m, and their least common denominator is at most 100,000
use Rattle.std.specs.Prelude.{ℕ, ℤ, ◌≡◌, ◌≤◌}
use Rattle.std.specs.Int.RustNames.{unsigned_abs}
use Rattle.irr_algebra.specs.Fin.{Fin}
use Rattle.irr_rational.specs.Rational.{ratio}
use Rattle.irr_rational.specs.Ratio.{AreLowest}
use Rattle.irr_space.specs.Operation.{WaveVector, wave_component}
use Rattle.irr_text.specs.NumberText.{numerator}
use Rattle.irr_token.specs.declared.faults.TheConstants.{DENOMINATOR_LIMIT}

pub record IsReadable (m : ℕ) (k : WaveVector) : Type 0 where
  pub numerators : (i : Fin 3) → unsigned_abs (numerator (wave_component k i)) ≤ m
  pub num : Fin 3 → ℤ
  pub den : ℕ
  pub lowest : AreLowest num den
  pub are : (i : Fin 3) → wave_component k i ≡ ratio (num i) den
  pub denominator : den ≤ DENOMINATOR_LIMIT
