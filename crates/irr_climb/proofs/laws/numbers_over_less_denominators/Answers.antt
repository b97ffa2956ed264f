-- Less over a divisor.
use Rattle.irr_climb.proofs.SizesOver.{small_over_divisor}
use Rattle.irr_climb.proofs.laws.numbers_over_less_denominators.Goals as goal

pub returns : goal.returns
returns c = λ M e l x some v w h. small_over_divisor M e l x some v w h
