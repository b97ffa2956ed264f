-- The printed form of a wave vector, and the limits on its numbers.
--   wave_text k          the three components in lowest terms, with commas between
--   IsWithinLimits m k   no number of its text is above m, nor is the least common denominator of its components
use Rattle.std.specs.Prelude.{ℕ, ℤ, ◌≡◌, ◌≤◌, List, ◌∷◌, ◌++◌}
use Rattle.std.specs.Int.RustNames.{unsigned_abs}
use Rattle.irr_algebra.specs.Fin.{Fin}
use Rattle.irr_algebra.specs.Fin.Fin.{first, next}
use Rattle.irr_rational.specs.Rational.{ratio}
use Rattle.irr_rational.specs.Ratio.{AreLowest}
use Rattle.irr_space.specs.Operation.{WaveVector, wave_component}
use Rattle.irr_text.specs.NumberText.{numerator, rational_text}

unfoldable pub wave_text : WaveVector → List ℕ
wave_text k = rational_text (wave_component k first) ++ 44 ∷ rational_text (wave_component k (next first)) ++ 44 ∷ rational_text (wave_component k (next (next first)))

-- the components over their least common denominator
pub record IsWithinLimits (m : ℕ) (k : WaveVector) : Type 0 where
  pub numerators : (i : Fin 3) → unsigned_abs (numerator (wave_component k i)) ≤ m
  pub num : Fin 3 → ℤ
  pub den : ℕ
  pub lowest : AreLowest num den
  pub are : (i : Fin 3) → wave_component k i ≡ ratio (num i) den
  pub denominator : den ≤ m
