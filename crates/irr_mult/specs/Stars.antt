-- The stars of some wave vectors.
--   AreStarsOf G ws rs     rs are the representatives of the stars of the wave vectors ws, each once, in order
use Rattle.std.specs.Prelude.{◌<◌, List, length}
use Rattle.irr_algebra.specs.Fin.{Fin, to_nat}
use Rattle.irr_rational.specs.Order.{IsBelow}
use Rattle.irr_space.specs.Operation.{Operation, WaveVector, wave_component}
use Rattle.irr_space.specs.Star.{IsInStar}
use Rattle.irr_full.specs.Parts.{IsRepresentative}
use Rattle.irr_mult.specs.Listing.{item}

pub record AreStarsOf (G : Operation → Type 0) (ws rs : List WaveVector) : Type 0 where
  pub representative : (i : Fin (length rs)) → IsRepresentative G (item rs i)
  pub from : (i : Fin (length rs)) → (j : Fin (length ws)) × IsInStar G (item ws j) (item rs i)
  pub all : (j : Fin (length ws)) → (i : Fin (length rs)) × IsInStar G (item rs i) (item ws j)
  pub ordered : (i j : Fin (length rs)) → to_nat i < to_nat j
      → IsBelow (wave_component (item rs i)) (wave_component (item rs j))
