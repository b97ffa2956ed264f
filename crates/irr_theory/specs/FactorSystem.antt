-- FactorSystem tables over a ring, and the families of matrices on them: projective representations with
-- the factor system written out.
use Rattle.std.specs.Prelude.{ℕ, ◌≡◌}
use Rattle.irr_algebra.specs.Ring.{Ring, IsInvertible}
use Rattle.irr_algebra.specs.Fin.{Fin}
use Rattle.irr_algebra.specs.Matrix.{Matrix, ◌·◌, unit, scale}

-- a group on numbered places with an invertible phase for each product: a normalized 2-cocycle
pub record FactorSystem (R : Ring) : Type 0 where
  pub places : ℕ
  pub start : Fin places
  pub product : Fin places → Fin places → Fin places
  pub opposite : Fin places → Fin places
  pub phase : Fin places → Fin places → R.Carrier
  pub start-product : (i : Fin places) → product start i ≡ i
  pub product-start : (i : Fin places) → product i start ≡ i
  pub product_assoc : (i j k : Fin places) → product (product i j) k ≡ product i (product j k)
  pub opposite-product : (i : Fin places) → product (opposite i) i ≡ start
  pub product-opposite : (i : Fin places) → product i (opposite i) ≡ start
  pub phase-start : (i : Fin places) → phase i start ≡ R.one
  pub start-phase : (i : Fin places) → phase start i ≡ R.one
  pub phase_assoc : (i j k : Fin places) → R.mul (phase i j) (phase (product i j) k) ≡ R.mul (phase j k) (phase i (product j k))
  pub phase-invertible : (i j : Fin places) → IsInvertible R (phase i j)

-- matrices of one size that multiply by the table, up to its phases
pub record Representation {R : Ring} (T : FactorSystem R) (d : ℕ) : Type 0 where
  pub at : Fin T.places → Matrix R d d
  pub at-start : at T.start ≡ unit R d
  pub at-product : (i j : Fin T.places) → at i · at j ≡ scale R (T.phase i j) (at (T.product i j))
