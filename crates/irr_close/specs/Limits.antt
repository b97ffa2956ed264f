-- The limits on the group that generators generate.
--   operations gs               the operations of a list
--   HasFewRotations gs          at most 48 rotations are generated, and no entry of one is above 9
--   HasSmallDenominator gs      the vectors of the generators have a common denominator of at most 100,000
--   HasFewCentrings gs          the translations modulo the whole ones are at most 32
use Rattle.std.specs.Prelude.{ℕ, ◌<◌, ◌≤◌, List, map, length}
use Rattle.std.specs.List.{All, Contains}
use Rattle.std.specs.Int.{◌∣◌}
use Rattle.irr_algebra.specs.Matrix.{◌⊖◌}
use Rattle.irr_space.specs.Operation.{Operation, Rotation, Vector}
use Rattle.irr_space.specs.SpaceGroup.{Generated, IsTranslation}
use Rattle.irr_seitz.specs.Rotation.{IsWithin}
use Rattle.irr_seitz.specs.OperationMeaning.{operation}
use Rattle.irr_seitz.specs.declared.op.Op.{Op}
use Rattle.irr_close.specs.Whole.{IsWholeVector}

abbrev pub operations : List Op → List Operation
operations gs = map operation gs

pub record HasFewRotations (generators : List Operation) : Type 0 where
  pub rotations : List Rotation
  pub few : length rotations ≤ 48
  pub all : (g : Operation) → Generated generators g → Contains rotations g.rotation
  pub within : (g : Operation) → Generated generators g → IsWithin 9 g.rotation

pub record HasSmallDenominator (gs : List Op) : Type 0 where
  pub common : ℕ
  pub positive : 0 < common
  pub small : common ≤ 100000
  pub multiple : All (λ g. g.den ∣ common) gs

pub record HasFewCentrings (generators : List Operation) : Type 0 where
  pub centrings : List Vector
  pub few : length centrings ≤ 32
  pub all : (t : Vector) → IsTranslation (Generated generators) t → (c : Vector) × Contains centrings c × IsWholeVector (t ⊖ c)
