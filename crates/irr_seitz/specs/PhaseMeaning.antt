-- The sign that a `Phase` stands for.
--   sign_of s     the sign of the phase
use Rattle.irr_space.specs.Reciprocal.{Sign}
use Rattle.irr_space.specs.Reciprocal.Sign.{minus, plus}
use Rattle.irr_seitz.specs.declared.phase.Phase.{Phase}
use Rattle.irr_seitz.specs.declared.phase.Phase.TheVariants.{Minus, Plus}

abbrev pub sign_of : Phase → Sign
sign_of Minus = minus
sign_of Plus = plus
