-- Steps from one point to another, over a multiple of the denominators of both.
--   IsWholeMultiple n k      n times each component of k is whole
--   IsStep n k l num         num are the components of n (l - k), which are whole
use Rattle.std.specs.Prelude.{ℕ, ℤ, List, ◌≡◌}
use Rattle.irr_algebra.specs.Fin.{Fin}
use Rattle.irr_algebra.specs.Matrix.{◌⊖◌}
use Rattle.irr_rational.specs.Rational.{IsWhole}
use Rattle.irr_space.specs.Operation.{WaveVector, wave_component}
use Rattle.irr_space.specs.Reciprocal.{times}
use Rattle.irr_kvec.specs.WaveMeaning.{wave_of}

abbrev pub IsWholeMultiple : ℕ → WaveVector → Type 0
IsWholeMultiple n k = (i : Fin 3) → IsWhole (wave_component (times n k) i)

abbrev pub IsStep : ℕ → WaveVector → WaveVector → List ℤ → Type 0
IsStep n k l num = wave_of num 1 ≡ times n (l ⊖ k)
