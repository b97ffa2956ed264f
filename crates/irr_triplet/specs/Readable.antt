-- What a triplet can give.
--   IsReadable g    coefficients are at most 9, the determinant is 1 or -1, and no number of the constants is above 100,000, nor is their least common denominator
use Rattle.std.specs.Prelude.{ℕ, ℤ, ◌≡◌, ◌≤◌}
use Rattle.std.specs.Int.RustNames.{unsigned_abs}
use Rattle.irr_algebra.specs.Fin.{Fin}
use Rattle.irr_rational.specs.Rational.{ratio}
use Rattle.irr_rational.specs.Ratio.{AreLowest}
use Rattle.irr_space.specs.Operation.{Operation, component}
use Rattle.irr_text.specs.NumberText.{numerator}
use Rattle.irr_seitz.specs.Rotation.{IsWithin, determinant}

pub record IsReadable (g : Operation) : Type 0 where
  pub coefficients : IsWithin 9 g.rotation
  pub unimodular : unsigned_abs (determinant g.rotation) ≡ 1
  pub numerators : (i : Fin 3) → unsigned_abs (numerator (component g.vector i)) ≤ 100000
  pub num : Fin 3 → ℤ
  pub den : ℕ
  pub lowest : AreLowest num den
  pub are : (i : Fin 3) → component g.vector i ≡ ratio (num i) den
  pub denominator : den ≤ 100000
