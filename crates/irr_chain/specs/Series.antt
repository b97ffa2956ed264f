-- Chains of normal subgroups, each of index 2 or 3 in the next.
--   IsIncreasing members        the members in increasing order
--   IsLevel T level outer       the level's members are a normal subgroup of index p in outer, which they and g generate
--   IsSeries T members levels   levels from the members to the whole table, each in what the one before generates
--   IsRefusal T error           what an error shows
use Rattle.std.specs.Prelude.{ℕ, ◌≡◌, ◌<◌, ◌⊎◌, List, [], ◌∷◌, length, slice_index}
use Rattle.irr_algebra.specs.Fin.{Fin}
use Rattle.irr_space.specs.PhaseTable.{PhaseTable}
use Rattle.irr_chain.specs.declared.series.Level.{Level}
use Rattle.irr_chain.specs.declared.series.ChainError.{ChainError}
use Rattle.irr_chain.specs.declared.series.ChainError.TheVariants.{Unchained, Memory}
use Rattle.irr_chain.specs.NormalSubgroup.{In, IsNormalOfIndex, IsGenerated, IsUnchained}

-- each member is less than those after it
abbrev pub IsIncreasing : List ℕ → Type 0
IsIncreasing members = (a b : ℕ) → a < b → b < length members → slice_index members a < slice_index members b

-- one step of a chain
pub record IsLevel {h : ℕ} (T : PhaseTable h) (level : Level) (outer : List ℕ) : Type 0 where
  pub two_or_three : (level.p ≡ 2) ⊎ (level.p ≡ 3)
  pub increasing : IsIncreasing level.members.items
  pub normal : IsNormalOfIndex T level.members.items outer level.p
  pub generated : IsGenerated T level.members.items level.g outer

-- each level starts at what the one before generates, and the last one generates the whole table
abbrev pub IsSeries : {h : ℕ} (T : PhaseTable h) → List ℕ → List Level → Type 0
IsSeries {h} T members [] = (i : Fin h) → In members i
IsSeries T members (level ∷ levels) = (level.members.items ≡ members) × ((outer : List ℕ) × (IsLevel T level outer × IsSeries T outer levels))

-- the list of a refusal has no step
abbrev pub IsRefusal : {h : ℕ} (T : PhaseTable h) → ChainError → Type 0
IsRefusal T (Unchained members) = IsUnchained T members.items
IsRefusal T Memory = Unit {0}
