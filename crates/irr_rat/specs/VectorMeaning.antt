-- The vector that three whole numbers over a common denominator stand for, and which vectors a `Vec3` holds.
--   vector_of num den     three whole numbers over one denominator, as a vector
--   vector v              that of the fields of v
--   Fits v                v has a common denominator of 32 bits with numerators of 64 bits over it
use Rattle.std.specs.Prelude.{ℕ, ℤ, List, ◌≡◌, ◌<◌, ◌^◌, FitsSigned}
use Rattle.std.specs.Int.{w64}
use Rattle.irr_algebra.specs.Fin.{Fin}
use Rattle.irr_rational.specs.Rational.{ratio}
use Rattle.irr_rational.specs.Ratio.{ratios}
use Rattle.irr_space.specs.Operation.{Vector, component}
use Rattle.irr_rat.specs.declared.vec3.Vec3.{Vec3}

unfoldable pub vector_of : List ℤ → ℕ → Vector
vector_of num den = record { at = λ i j. ratios num den i }

abbrev pub vector : Vec3 → Vector
vector v = vector_of v.num v.den

-- the common denominator fits in u32, and the numerators over it in i64
pub record Fits (v : Vector) : Type 0 where
  pub num : Fin 3 → ℤ
  pub den : ℕ
  pub positive : 0 < den
  pub den_fits : den < 2 ^ 32
  pub num_fits : (i : Fin 3) → FitsSigned w64 (num i)
  pub is : (i : Fin 3) → ratio (num i) den ≡ component v i
