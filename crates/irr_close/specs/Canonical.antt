-- The canonical form of kept operations and translations.
--   IsLeastVector cs g v      v is the least vector of the cell that differs from that of g by a translation of the list
--   IsCanonicalOf cs g h      h is g with its least vector
--   AreCanonicalOf cs ops made n   made are the first n operations with their least vectors
--   IsNumberedFrom cs ops new      new are the operations of ops with their least vectors, numbered
--   IsSortedFrom old new      new are the vectors of old in lexicographic order
--   IsLattice cs              the vectors that differ from one of the list by a whole one are closed under differences
--   IsRotationGroup ops       the rotations have the unit, products and inverses
--   IsClosing kept cs         one operation for each rotation, the identity first, and different translations
--   numbered ops d            operations by their places, d past the end
--   AreCanonical ops cs       the canonical operations, numbered, and the centrings, of what they stand for
use Rattle.std.specs.Prelude.{ℕ, ◌≡◌, ◌<◌, ◌≤◌, List, length, slice_index_or}
use Rattle.std.specs.List.{All, AllPairs, HoldsAt}
use Rattle.std.specs.List.Sorted.{IsPermutation}
use Rattle.std.specs.Int.{◌∣◌}
use Rattle.irr_algebra.specs.Fin.{Fin, to_nat}
use Rattle.irr_algebra.specs.Matrix.{◌·◌, ◌⊖◌, unit}
use Rattle.irr_number.specs.Integers.{integers}
use Rattle.irr_rational.specs.Order.{IsAtMost, IsBelow}
use Rattle.irr_space.specs.Operation.{Operation, Vector, component, identity}
use Rattle.irr_space.specs.CanonicalOperation.{IsInCell, IsNumberedBefore, IsNumbering}
use Rattle.irr_rat.specs.VectorMeaning.{vector}
use Rattle.irr_rat.specs.declared.vec3.Vec3.{Vec3}
use Rattle.irr_seitz.specs.Rotation.{IsWithin}
use Rattle.irr_seitz.specs.OperationMeaning.{operation}
use Rattle.irr_seitz.specs.declared.op.Op.{Op}
use Rattle.irr_kvec.specs.Centrings.{AreCentrings}
use Rattle.irr_close.specs.Whole.{IsWholeVector}
use Rattle.irr_close.specs.Closing.{HasRotation}
use Rattle.irr_close.specs.Centring.{HasTranslation, AreOverOne, IsReducedOperation}
use Rattle.irr_close.specs.Standing.{StandFor}

pub record IsLeastVector (cs : List Vec3) (g : Operation) (v : Vector) : Type 0 where
  pub in_cell : IsInCell v
  pub shared : HasTranslation cs (g.vector ⊖ v)
  pub least : (w : Vector) → IsInCell w → HasTranslation cs (g.vector ⊖ w) → IsAtMost (component v) (component w)

pub record IsCanonicalOf (cs : List Vec3) (g h : Op) : Type 0 where
  pub rotation : (operation h).rotation ≡ (operation g).rotation
  pub vector : IsLeastVector cs (operation g) (operation h).vector
  pub divides : (D : ℕ) → 0 < D → g.den ∣ D → All (λ c. c.den ∣ D) cs → h.den ∣ D

pub record AreCanonicalOf (cs : List Vec3) (ops made : List Op) (n : ℕ) : Type 0 where
  pub long : length made ≡ n
  pub each : (j : ℕ) → j < n → HoldsAt (λ g. HoldsAt (IsCanonicalOf cs g) made j) ops j

pub record IsNumberedFrom (cs : List Vec3) (ops new : List Op) : Type 0 where
  pub made : List Op
  pub canonical : AreCanonicalOf cs ops made (length ops)
  pub permuted : IsPermutation made new
  pub ordered : AllPairs (λ g h. ¬ ((operation g).rotation ≡ (operation h).rotation)) ops
      → AllPairs (λ g h. IsNumberedBefore (operation g).rotation (operation h).rotation) new

pub record IsSortedFrom (old new : List Vec3) : Type 0 where
  pub permuted : IsPermutation old new
  pub ordered : AllPairs (λ a b. ¬ (vector a ≡ vector b)) old → AllPairs (λ a b. IsBelow (component (vector a)) (component (vector b))) new

pub record IsLattice (cs : List Vec3) : Type 0 where
  pub whole : (v : Vector) → IsWholeVector v → HasTranslation cs v
  pub difference : (a b : Vector) → HasTranslation cs a → HasTranslation cs b → HasTranslation cs (a ⊖ b)

pub record IsRotationGroup (ops : List Op) : Type 0 where
  pub has_unit : HasRotation ops (unit integers 3)
  pub products : All (λ g. All (λ h. HasRotation ops ((operation g).rotation · (operation h).rotation)) ops) ops
  pub inverses : All (λ g. (k : ℕ) × (k < length ops) × HoldsAt (λ h. (operation g).rotation · (operation h).rotation ≡ unit integers 3) ops k) ops

pub record IsClosing (kept : List Op) (cs : List Vec3) : Type 0 where
  pub nonempty : 0 < length kept
  pub identity_first : HoldsAt (λ g. operation g ≡ identity) kept 0
  pub few : length kept ≤ 48
  pub reduced : All IsReducedOperation kept
  pub distinct : AllPairs (λ g h. ¬ ((operation g).rotation ≡ (operation h).rotation)) kept
  pub has_centring : 0 < length cs
  pub few_centrings : length cs ≤ 32
  pub in_cell : All (λ c. IsInCell (vector c)) cs
  pub distinct_centrings : AllPairs (λ a b. ¬ (vector a ≡ vector b)) cs
  pub lattice : IsLattice cs
  pub denominator : AreOverOne kept cs
  pub rotations : IsRotationGroup kept

abbrev pub numbered : (ops : List Op) → Op → Fin (length ops) → Operation
numbered ops d i = operation (slice_index_or ops (to_nat i) d)

pub record AreCanonical (ops : List Op) (cs : List Vec3) : Type 0 where
  pub nonempty : 0 < length ops
  pub few : length ops ≤ 48
  pub numbering : (d : Op) → IsNumbering (StandFor ops cs) (λ _. Unit {0}) (numbered ops d)
  pub has_centring : 0 < length cs
  pub few_centrings : length cs ≤ 32
  pub centrings : AreCentrings (StandFor ops cs) cs
  pub within : All (λ g. IsWithin 9 (operation g).rotation) ops
  pub denominator : ∥ AreOverOne ops cs ∥₁
  pub lattice : IsLattice cs
  pub rotations : IsRotationGroup ops
