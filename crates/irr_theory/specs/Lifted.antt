-- A family on a twisted table as a representation of a group: numbers with places.
use Rattle.irr_algebra.specs.Ring.{Ring}
use Rattle.std.specs.Prelude.{ℕ}
use Rattle.irr_algebra.specs.Fin.{Fin}
use Rattle.irr_algebra.specs.Matrix.{Matrix, scale}
use Rattle.irr_theory.specs.FactorSystem.{FactorSystem, Representation}

-- a number and a place
pub record Lifted {R : Ring} (T : FactorSystem R) : Type 0 where
  pub number : R.Carrier
  pub place : Fin T.places

-- their product, with the phase taken into the number
unfoldable pub lifted_product : {R : Ring} {T : FactorSystem R} → Lifted T → Lifted T → Lifted T
lifted_product {R} {T} x y = record { number = R.mul (R.mul x.number y.number) (T.phase x.place y.place); place = T.product x.place y.place }

-- the number times the matrix at the place
unfoldable pub lifted : {R : Ring} {T : FactorSystem R} {d : ℕ} → Representation T d → Lifted T → Matrix R d d
lifted {R} A x = scale R x.number (A.at x.place)
