-- Space group operations (R|v) in the Seitz notation (International Tables A, section 1.2; Bradley and Cracknell, section 1.4).
--   Vector, WaveVector       columns and rows of three rational numbers
--   Operation, g ⊙ h         (R|v), and (R|v)(S|w) = (RS | v + Rw)
--   identity, translation t  (1|0) and (1|t)
--   IsInverse g h            h is the inverse of g
--   dot k t                  k.t
--   turned k g               kR, the wave vector k after the rotation of g = (R|v)
use Rattle.std.specs.Prelude.{◌≡◌}
use Rattle.irr_algebra.specs.Fin.{Fin}
use Rattle.irr_algebra.specs.Fin.Fin.{first}
use Rattle.irr_algebra.specs.Matrix.{Matrix, ◌·◌, ◌⊕◌, unit, null}
use Rattle.irr_number.specs.Integers.{integers}
use Rattle.irr_rational.specs.Integer.{whole_matrix}
use Rattle.irr_rational.specs.Rational.{Rational, rationals}

abbrev pub Vector : Type 0
Vector = Matrix rationals 3 1

abbrev pub WaveVector : Type 0
WaveVector = Matrix rationals 1 3

abbrev pub Rotation : Type 0
Rotation = Matrix integers 3 3

-- x goes to Rx + v
pub record Operation : Type 0 where
  pub rotation : Rotation
  pub vector : Vector

infixl 70 ◌⊙◌
-- first h, then g
unfoldable pub ◌⊙◌ : Operation → Operation → Operation
g ⊙ h = record { rotation = g.rotation · h.rotation; vector = g.vector ⊕ (whole_matrix rationals g.rotation · h.vector) }

-- x stays
unfoldable pub identity : Operation
identity = record { rotation = unit integers 3; vector = null }

-- x goes to x + t
unfoldable pub translation : Vector → Operation
translation t = record { rotation = unit integers 3; vector = t }

-- h undoes g, and g undoes h
pub record IsInverse (g h : Operation) : Type 0 where
  pub right : g ⊙ h ≡ identity
  pub left : h ⊙ g ≡ identity

-- the components of columns and rows
unfoldable pub component : Vector → Fin 3 → Rational
component v i = v.at i first

unfoldable pub wave_component : WaveVector → Fin 3 → Rational
wave_component k i = k.at first i

-- the product of a row and a column
unfoldable pub dot : WaveVector → Vector → Rational
dot k t = (k · t).at first first

-- kR
unfoldable pub turned : WaveVector → Operation → WaveVector
turned k g = k · whole_matrix rationals g.rotation
