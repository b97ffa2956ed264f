-- The wave vector that a `Wave` stands for.
--   wave_of num den       three whole numbers over one denominator, as a wave vector
--   wave_vector w         that of the fields of w
use Rattle.std.specs.Prelude.{ℕ, ℤ, List}
use Rattle.irr_rational.specs.Ratio.{ratios}
use Rattle.irr_space.specs.Operation.{WaveVector}
use Rattle.irr_kvec.specs.declared.wave.Wave.{Wave}

unfoldable pub wave_of : List ℤ → ℕ → WaveVector
wave_of num den = record { at = λ j i. ratios num den i }

abbrev pub wave_vector : Wave → WaveVector
wave_vector w = wave_of w.num w.den
