-- The chosen operation of each rotation of a group G, and the numbering of operations: this project's own choices.
--   IsInCell v                    each component of v is in [0,1)
--   IsCanonicalOperation G g      g has the lexicographically least vector in the cell of the operations of G with its rotation
--   IsRotationBelow R S           nine entries, row by row: R stands lexicographically before S
--   IsNumberedBefore R S          the unit stands first, then the others in that order
--   IsNumbering G P ops           ops are the canonical operations of G that meet P, each once, in this order
use Rattle.std.specs.Prelude.{ℕ, ◌≡◌, ◌<◌, ◌⊎◌, ◌<ℤ◌}
use Rattle.irr_algebra.specs.Fin.{Fin, to_nat}
use Rattle.irr_algebra.specs.Matrix.{unit}
use Rattle.irr_number.specs.Integers.{integers}
use Rattle.irr_rational.specs.Rational.{rationals}
use Rattle.irr_rational.specs.Order.{◌≤ℚ◌, ◌<ℚ◌, IsAtMost}
use Rattle.irr_space.specs.Operation.{Operation, Rotation, Vector, component}

abbrev pub IsInCell : Vector → Type 0
IsInCell v = (i : Fin 3) → (rationals.zero ≤ℚ component v i) × (component v i <ℚ rationals.one)

pub record IsCanonicalOperation (G : Operation → Type 0) (g : Operation) : Type 0 where
  pub member : G g
  pub in_cell : IsInCell g.vector
  pub least : (h : Operation) → G h → h.rotation ≡ g.rotation → IsInCell h.vector → IsAtMost (component g.vector) (component h.vector)

-- at the first place, row by row, at which they differ, R has the lesser entry
pub record IsRotationBelow (R S : Rotation) : Type 0 where
  pub row : Fin 3
  pub place : Fin 3
  pub rows_before : (i j : Fin 3) → to_nat i < to_nat row → R.at i j ≡ S.at i j
  pub before : (j : Fin 3) → to_nat j < to_nat place → R.at row j ≡ S.at row j
  pub less : R.at row place <ℤ S.at row place

abbrev pub IsUnit : Rotation → Type 0
IsUnit R = R ≡ unit integers 3

abbrev pub IsNumberedBefore : Rotation → Rotation → Type 0
IsNumberedBefore R S = ¬ (IsUnit S) × (IsUnit R ⊎ IsRotationBelow R S)

pub record IsNumbering (G P : Operation → Type 0) {h : ℕ} (ops : Fin h → Operation) : Type 0 where
  pub canonical : (i : Fin h) → IsCanonicalOperation G (ops i)
  pub member : (i : Fin h) → P (ops i)
  pub all : (g : Operation) → IsCanonicalOperation G g → P g → (i : Fin h) × (ops i ≡ g)
  pub ordered : (i j : Fin h) → to_nat i < to_nat j → IsNumberedBefore (ops i).rotation (ops j).rotation
