-- The state of the closing of translations modulo the whole ones.
--   IsFactor gs s              a generated operation with small numbers
--   IsCentring gs c            a generated translation in the cell
--   AreOver kept op factors    all vectors are over one small denominator
--   AreFrom gs kept op factors they come from the generators gs
--   IsQuotient kept g h t      gh is a kept operation after the translation by t and a whole one
--   HasTranslation cs t        t is one of the list up to a whole vector
--   HasQuotient kept cs g h    gh is a kept operation after a translation of the list
--   IsPartialLattice gs cs     different translations, 0 first, at most 32
--   IsGathered, IsSettled      how far the list is closed
--   IsWithCentring old v new   the new list has v, as the old one or at its end
--   IsAddRefusal, IsLatticeRefusal   when no translation is kept, and when they are too many
use Rattle.std.specs.Prelude.{ℕ, ◌≡◌, ◌<◌, ◌≤◌, ◌⊎◌, List, [], ◌∷◌, ◌++◌, length}
use Rattle.std.specs.List.{All, AllPairs, HoldsAt}
use Rattle.std.specs.Int.{◌∣◌}
use Rattle.irr_algebra.specs.Matrix.{◌·◌, ◌⊖◌, null, unit}
use Rattle.irr_number.specs.Integers.{integers}
use Rattle.irr_space.specs.Operation.{Operation, Rotation, Vector, ◌⊙◌, translation}
use Rattle.irr_space.specs.SpaceGroup.{Generated}
use Rattle.irr_space.specs.CanonicalOperation.{IsInCell}
use Rattle.irr_rat.specs.VectorMeaning.{vector}
use Rattle.irr_rat.specs.declared.vec3.Vec3.{Vec3}
use Rattle.irr_seitz.specs.Rotation.{IsWithin}
use Rattle.irr_seitz.specs.OperationMeaning.{operation}
use Rattle.irr_seitz.specs.declared.op.Op.{Op}
use Rattle.irr_close.specs.Whole.{IsWholeVector}
use Rattle.irr_close.specs.Limits.{operations, HasFewCentrings}
use Rattle.irr_close.specs.Closing.{IsGenerator, IsKept}
use Rattle.irr_close.specs.declared.CloseError.{CloseError}
use Rattle.irr_close.specs.declared.CloseError.TheVariants.{Rotations, Denominator, Centrings, Memory}

pub record IsFactor (gs : List Op) (s : Op) : Type 0 where
  pub generated : Generated (operations gs) (operation s)
  pub numbers : IsGenerator s
  pub divides : (D : ℕ) → 0 < D → All (λ s. s.den ∣ D) gs → s.den ∣ D

pub record IsCentring (gs : List Op) (c : Vec3) : Type 0 where
  pub generated : Generated (operations gs) (translation (vector c))
  pub in_cell : IsInCell (vector c)
  pub divides : (D : ℕ) → 0 < D → All (λ s. s.den ∣ D) gs → c.den ∣ D

-- each generator's rotation has an inverse
abbrev pub AreInvertible : List Op → Type 0
AreInvertible gs = All (λ s. (S : Rotation) × ((operation s).rotation · S ≡ unit integers 3)) gs

pub record IsReducedOperation (g : Op) : Type 0 where
  pub within : IsWithin 9 (operation g).rotation
  pub in_cell : IsInCell (operation g).vector

-- all vectors are over one small denominator
pub record AreOver (kept : List Op) (op : Op) (factors : List Op) : Type 0 where
  pub common : ℕ
  pub positive : 0 < common
  pub small : common ≤ 100000
  pub kept_divide : All (λ g. g.den ∣ common) kept
  pub op_divides : op.den ∣ common
  pub factors_divide : All (λ g. g.den ∣ common) factors

-- they come from the generators gs
pub record AreFrom (gs kept : List Op) (op : Op) (factors : List Op) : Type 0 where
  pub invertible : AreInvertible gs
  pub kept_from : All (IsKept gs) kept
  pub op_from : IsKept gs op
  pub factors_from : All (IsFactor gs) factors

abbrev pub IsQuotient : List Op → Operation → Operation → Vector → Type 0
IsQuotient kept g h t = (k : ℕ) × (k < length kept)
    × HoldsAt (λ m. ((operation m).rotation ≡ g.rotation · h.rotation) × IsWholeVector (((g ⊙ h).vector ⊖ (operation m).vector) ⊖ t)) kept k

abbrev pub HasTranslation : List Vec3 → Vector → Type 0
HasTranslation cs t = (k : ℕ) × (k < length cs) × HoldsAt (λ c. IsWholeVector (t ⊖ vector c)) cs k

abbrev pub HasQuotient : List Op → List Vec3 → Operation → Operation → Type 0
HasQuotient kept cs g h = (k : ℕ) × (k < length kept)
    × HoldsAt (λ m. ((operation m).rotation ≡ g.rotation · h.rotation) × HasTranslation cs ((g ⊙ h).vector ⊖ (operation m).vector)) kept k

pub record IsPartialLattice (gs : List Op) (cs : List Vec3) : Type 0 where
  pub nonempty : 0 < length cs
  pub zero_first : HoldsAt (λ c. vector c ≡ null) cs 0
  pub few : length cs ≤ 32
  pub centrings : All (IsCentring gs) cs
  pub distinct : AllPairs (λ a b. ¬ (vector a ≡ vector b)) cs

abbrev pub HasVector : List Vec3 → Vector → Type 0
HasVector cs v = (k : ℕ) × (k < length cs) × HoldsAt (λ c. vector c ≡ v) cs k

abbrev pub IsWithCentring : List Vec3 → Vec3 → List Vec3 → Type 0
IsWithCentring old v new = (HasVector old (vector v) × (new ≡ old)) ⊎ (¬ (HasVector old (vector v)) × (length old < 32) × (new ≡ old ++ v ∷ []))

abbrev pub IsAddRefusal : List Vec3 → Vec3 → CloseError → Type 0
IsAddRefusal old v Rotations = ⊥
IsAddRefusal old v Denominator = ⊥
IsAddRefusal old v Centrings = ¬ (HasVector old (vector v)) × (32 ≤ length old)
IsAddRefusal old v Memory = Unit {0}

abbrev pub IsLatticeRefusal : List Op → CloseError → Type 0
IsLatticeRefusal gs Rotations = ⊥
IsLatticeRefusal gs Denominator = ⊥
IsLatticeRefusal gs Centrings = ¬ (HasFewCentrings (operations gs))
IsLatticeRefusal gs Memory = Unit {0}

-- why a list grows no more, where its translations come from generators
pub record IsGatherRefusal (kept : List Op) (op : Op) (factors : List Op) (old : List Vec3) (e : CloseError) : Type 0 where
  pub is : (gs : List Op) → AreFrom gs kept op factors → IsPartialLattice gs old → IsLatticeRefusal gs e

pub record IsSubtractRefusal (old : List Vec3) (e : CloseError) : Type 0 where
  pub is : (gs : List Op) → AreInvertible gs → IsPartialLattice gs old → IsLatticeRefusal gs e

pub record IsTurnRefusal (kept : List Op) (old : List Vec3) (e : CloseError) : Type 0 where
  pub is : (gs : List Op) → AreInvertible gs → All (IsKept gs) kept → IsPartialLattice gs old → IsLatticeRefusal gs e

abbrev pub HasBothDifferences : List Vec3 → Vec3 → Vec3 → Type 0
HasBothDifferences cs a b = HasTranslation cs (vector a ⊖ vector b) × HasTranslation cs (vector b ⊖ vector a)

-- the vectors are in the cell over one small denominator
pub record AreInCell (cs : List Vec3) : Type 0 where
  pub common : ℕ
  pub positive : 0 < common
  pub small : common ≤ 100000
  pub divide : All (λ c. c.den ∣ common) cs
  pub in_cell : All (λ c. IsInCell (vector c)) cs

-- the kept operations and the vectors are over one small denominator
pub record AreOverOne (kept : List Op) (cs : List Vec3) : Type 0 where
  pub common : ℕ
  pub positive : 0 < common
  pub small : common ≤ 100000
  pub kept_divide : All (λ g. g.den ∣ common) kept
  pub divide : All (λ c. c.den ∣ common) cs

-- the translations after kept operations in the products of the first with the generators, and of each with some factors
pub record IsGathered (gs factors kept : List Op) (cs : List Vec3) (n : ℕ) : Type 0 where
  pub generators_in : HoldsAt (λ g. All (λ s. HasQuotient kept cs (operation g) (operation s)) gs) kept 0
  pub products_in : (j : ℕ) → j < n → HoldsAt (λ g. All (λ s. HasQuotient kept cs (operation g) (operation s)) factors) kept j

-- and the differences and the turned ones of the first n translations
pub record IsSettled (gs factors kept : List Op) (cs : List Vec3) (n : ℕ) : Type 0 where
  pub gathered : IsGathered gs factors kept cs (length kept)
  pub differences : (i : ℕ) → i < n → HoldsAt (λ a. (j : ℕ) → j ≤ i → HoldsAt (λ b. HasBothDifferences cs a b) cs j) cs i
  pub turned : (i : ℕ) → i < n → HoldsAt (λ c. All (λ g. HasQuotient kept cs (operation g) (translation (vector c))) kept) cs i
