-- Vectors of whole numbers.
--   IsWholeVector v      each component of v is a whole number
use Rattle.irr_algebra.specs.Fin.{Fin}
use Rattle.irr_rational.specs.Rational.{IsWhole}
use Rattle.irr_space.specs.Operation.{Vector, component}

abbrev pub IsWholeVector : Vector → Type 0
IsWholeVector v = (i : Fin 3) → IsWhole (component v i)
