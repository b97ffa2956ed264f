-- The centrings of a group, and the lattice that they give (International Tables A, section 1.3).
--   IsCentred cs t         t is a whole vector plus one of cs
--   LatticeOf cs           the translations by these vectors
--   AreCentrings G cs      cs are the translations of G in the unit cell, each once, in lexicographic order
--   IsCentringList cs      zero is one of cs, there are at most 32, and as many times each as there are is whole
--   IsWithinLimits w       numerators at most 10^14 in absolute value over a denominator of at most 10^7
use Rattle.std.specs.Prelude.{ℕ, ◌≡◌, ◌<◌, ◌≤◌, ◌^◌, ◌↔◌, List, length, Contains, slice_index_or, unsigned_abs}
use Rattle.irr_algebra.specs.Fin.{Fin}
use Rattle.irr_algebra.specs.Matrix.{◌⊖◌, null, scale, unit}
use Rattle.irr_algebra.specs.Ring.{whole}
use Rattle.irr_number.specs.Integers.{integers}
use Rattle.irr_rational.specs.Rational.{rationals, IsWhole}
use Rattle.irr_rational.specs.Ratio.{entry}
use Rattle.irr_rational.specs.Order.{IsBelow}
use Rattle.irr_space.specs.Operation.{Operation, Vector, component}
use Rattle.irr_space.specs.SpaceGroup.{IsTranslation}
use Rattle.irr_space.specs.CanonicalOperation.{IsInCell}
use Rattle.irr_rat.specs.declared.vec3.Vec3.{Vec3}
use Rattle.irr_rat.specs.VectorMeaning.{vector}
use Rattle.irr_kvec.specs.declared.wave.Wave.{Wave}

pub record IsCentred (cs : List Vec3) (t : Vector) : Type 0 where
  pub centring : Vec3
  pub member : Contains cs centring
  pub is_whole : (i : Fin 3) → IsWhole (component (t ⊖ vector centring) i)

pub record LatticeOf (cs : List Vec3) (g : Operation) : Type 0 where
  pub is_unit : g.rotation ≡ unit integers 3
  pub centred : IsCentred cs g.vector

pub record AreCentrings (G : Operation → Type 0) (cs : List Vec3) : Type 0 where
  pub translations : (t : Vector) → IsTranslation G t ↔ IsCentred cs t
  pub in_cell : (c : Vec3) → Contains cs c → IsInCell (vector c)
  pub ordered : (i j : ℕ) (c d : Vec3) → i < j → j < length cs → IsBelow (component (vector (slice_index_or cs i c))) (component (vector (slice_index_or cs j d)))

pub record IsCentringList (cs : List Vec3) : Type 0 where
  pub zero : IsCentred cs null
  pub few : length cs ≤ 32
  pub multiple : (c : Vec3) → Contains cs c → (i : Fin 3) → IsWhole (component (scale rationals (whole rationals (length cs)) (vector c)) i)

pub record IsWithinLimits (w : Wave) : Type 0 where
  pub numerators : (i : Fin 3) → unsigned_abs (entry w.num i) ≤ 10 ^ 14
  pub denominator : w.den ≤ 10 ^ 7
