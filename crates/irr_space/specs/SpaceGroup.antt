-- The space group that generators generate (Bradley and Cracknell, section 1.5), and what belongs to a group of operations. A group is
-- given by which operations it has, G : Operation → Type 0.
--   Generated gs g           g is a product of generators, unit translations and their inverses, of any length
--   IsTranslation G t        (1|t) is in G
--   IsExponent G e           e is the least common multiple of the orders of the rotations of G
use Rattle.std.specs.Prelude.{ℕ, ◌≡◌, ◌<◌, ◌≤◌, List, Contains}
use Rattle.irr_algebra.specs.Fin.{Fin}
use Rattle.irr_algebra.specs.Matrix.{unit, column}
use Rattle.irr_number.specs.Integers.{integers}
use Rattle.irr_theory.specs.Extension.{matrix_power}
use Rattle.irr_rational.specs.Rational.{rationals}
use Rattle.irr_space.specs.Operation.{Operation, ◌⊙◌, identity, translation, IsInverse, Vector}

-- the smallest set that has the generators and the unit translations and is closed under product and inverse
pub data Generated (generators : List Operation) : Operation → Type 0 where
  one : Generated generators identity
  generator : {g : Operation} → Contains generators g → Generated generators g
  unit_translation : (i : Fin 3) → Generated generators (translation (column (unit rationals 3) i))
  product : {g h : Operation} → Generated generators g → Generated generators h → Generated generators (g ⊙ h)
  inverse : {g h : Operation} → IsInverse g h → Generated generators g → Generated generators h

-- t is a translation of G
abbrev pub IsTranslation : (G : Operation → Type 0) → Vector → Type 0
IsTranslation G t = G (translation t)

-- e is the least positive number such that the e-th power of each rotation of G is 1
pub record IsExponent (G : Operation → Type 0) (e : ℕ) : Type 0 where
  pub positive : 0 < e
  pub power : (g : Operation) → G g → matrix_power g.rotation e ≡ unit integers 3
  pub least : (n : ℕ) → 0 < n → ((g : Operation) → G g → matrix_power g.rotation n ≡ unit integers 3) → e ≤ n
