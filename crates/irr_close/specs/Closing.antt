-- The state of the closing of rotations: one operation for each rotation that was found.
--   IsGenerator s              what is asked of a generator
--   IsKept gs g                a generated operation in the cell, with small entries, over each common denominator of the generators
--   HasRotation ops R          an operation of the list has the rotation R
--   HasProducts ops R gs       of each product of R and a generator's rotation there is an operation
--   IsPartial gs ops           the kept operations: the identity first, no rotation twice, at most 48
--   AreSeeds gs seeds n        operations of a list, one for each rotation of its first n
--   IsLonger old new           the old list is the start of the new
--   IsWithNew old g new        the new list has the rotation of g, as the old one or at its end
--   IsKeepRefusal, IsClosingRefusal   when no operation is kept, and when the rotations are too many
use Rattle.std.specs.Prelude.{ℕ, ◌≡◌, ◌<◌, ◌≤◌, ◌^◌, ◌⊎◌, List, [], ◌∷◌, ◌++◌, length}
use Rattle.std.specs.List.{All, AllPairs, HoldsAt}
use Rattle.std.specs.Int.{◌∣◌}
use Rattle.irr_algebra.specs.Matrix.{◌·◌}
use Rattle.irr_space.specs.Operation.{Rotation, identity}
use Rattle.irr_space.specs.SpaceGroup.{Generated}
use Rattle.irr_space.specs.CanonicalOperation.{IsInCell}
use Rattle.irr_seitz.specs.Rotation.{IsWithin}
use Rattle.irr_seitz.specs.OperationMeaning.{operation, AreWithin}
use Rattle.irr_seitz.specs.declared.op.Op.{Op}
use Rattle.irr_close.specs.Limits.{operations, HasFewRotations}
use Rattle.irr_close.specs.declared.CloseError.{CloseError}
use Rattle.irr_close.specs.declared.CloseError.TheVariants.{Rotations, Denominator, Centrings, Memory}

pub record IsGenerator (s : Op) : Type 0 where
  pub within : IsWithin 9 (operation s).rotation
  pub numerators : AreWithin (10 ^ 12) s.num

pub record IsKept (gs : List Op) (g : Op) : Type 0 where
  pub generated : Generated (operations gs) (operation g)
  pub within : IsWithin 9 (operation g).rotation
  pub in_cell : IsInCell (operation g).vector
  pub divides : (D : ℕ) → 0 < D → All (λ s. s.den ∣ D) gs → g.den ∣ D

abbrev pub HasRotation : List Op → Rotation → Type 0
HasRotation ops R = (k : ℕ) × (k < length ops) × HoldsAt (λ g. (operation g).rotation ≡ R) ops k

-- of the products with the first n generators
abbrev pub HasProducts : List Op → Rotation → List Op → ℕ → Type 0
HasProducts ops R gs n = (j : ℕ) → j < n → HoldsAt (λ s. HasRotation ops (R · (operation s).rotation)) gs j

pub record IsPartial (gs ops : List Op) : Type 0 where
  pub nonempty : 0 < length ops
  pub identity_first : HoldsAt (λ g. operation g ≡ identity) ops 0
  pub few : length ops ≤ 48
  pub kept : All (IsKept gs) ops
  pub distinct : AllPairs (λ g h. ¬ ((operation g).rotation ≡ (operation h).rotation)) ops

pub record IsLonger {X : Type 0} (old new : List X) : Type 0 where
  pub more : List X
  pub is : new ≡ old ++ more

-- nothing is new, or g is
abbrev pub IsWithNew : List Op → Op → List Op → Type 0
IsWithNew old g new = (HasRotation old (operation g).rotation × (new ≡ old))
    ⊎ (¬ (HasRotation old (operation g).rotation) × IsWithin 9 (operation g).rotation × (length old < 48) × (new ≡ old ++ g ∷ []))

abbrev pub IsKeepRefusal : List Op → Op → CloseError → Type 0
IsKeepRefusal old g Rotations = ¬ (HasRotation old (operation g).rotation) × ((48 ≤ length old) ⊎ ¬ (IsWithin 9 (operation g).rotation))
IsKeepRefusal old g Denominator = ⊥
IsKeepRefusal old g Centrings = ⊥
IsKeepRefusal old g Memory = Unit {0}

abbrev pub IsClosingRefusal : List Op → CloseError → Type 0
IsClosingRefusal gs Rotations = ¬ (HasFewRotations (operations gs))
IsClosingRefusal gs Denominator = ⊥
IsClosingRefusal gs Centrings = ⊥
IsClosingRefusal gs Memory = Unit {0}

-- g is an operation of the list
abbrev pub IsOneOf : List Op → Op → Type 0
IsOneOf gs g = (k : ℕ) × (k < length gs) × HoldsAt (λ s. s ≡ g) gs k

-- operations of the list, one for each rotation of its first n
pub record AreSeeds (gs seeds : List Op) (n : ℕ) : Type 0 where
  pub seeded : (j : ℕ) → j < n → HoldsAt (λ s. HasRotation seeds (operation s).rotation) gs j
  pub from_list : All (IsOneOf gs) seeds
  pub distinct : AllPairs (λ g h. ¬ ((operation g).rotation ≡ (operation h).rotation)) seeds
