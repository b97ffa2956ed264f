-- The families of a site in the program.
--   HasRows order value M T cs     cs are the characters, over the numbers of order M, of a complete list on T in canonical order
--   IsFamilyRow order value T M v xs    xs are the traces of a small representation on T of at most 2304 rows
--   AreFamilyParts .. T cs xs ps   ps are the parts of each family with the traces xs
--   Frame ..                       the small representations of the table t of a little group, the orbit of a point with the
--                                  table of its site group and its characters, and what is left of the operations at the sites
use Rattle.std.specs.Prelude.{ℕ, ◌≡◌, ◌<◌, ◌≤◌, List, length, Option, slice_index_or, Vec}
use Rattle.std.specs.Global.{Global}
use Rattle.std.specs.Int.{◌∣◌}
use Rattle.irr_algebra.specs.Action.{HasDimension}
use Rattle.irr_algebra.specs.Fin.{Fin, to_nat}
use Rattle.irr_number.specs.Number.{Number}
use Rattle.irr_algebra.specs.Matrix.{trace}
use Rattle.irr_theory.specs.FactorSystem.{Representation}
use Rattle.irr_theory.specs.Representations.{IsFull, Representations}
use Rattle.irr_space.specs.Operation.{Vector, WaveVector}
use Rattle.irr_space.specs.PhaseTable.{PhaseTable, phases_at, phases_over}
use Rattle.irr_space.specs.CompleteList.{IsCompleteList, IsInOrder, over}
use Rattle.irr_seitz.specs.PhaseMeaning.{sign_of}
use Rattle.irr_seitz.specs.declared.op.Op.{Op}
use Rattle.irr_rep.specs.Twisted.{operation_places, phase_table, place_count}
use Rattle.irr_rep.specs.declared.table.Twisted.{Twisted}
use Rattle.irr_close.specs.StandsFor.{stands_for}
use Rattle.irr_close.specs.declared.group.Group.{Group}
use Rattle.irr_mult.specs.declared.star.SmallCharacter.{SmallCharacter}
use Rattle.irr_char.specs.Characters.{IsRowOf}
use Rattle.irr_little.specs.Table.{IsLittleTable, listed_operations}
use Rattle.irr_mult.specs.Listing.{IsListing}
use Rattle.irr_mult.specs.StarParts.{IsCharacterOf}
use Rattle.irr_orbit.specs.Site.{Orbit}
use Rattle.irr_orbit.specs.SiteTable.{IsSiteTable}
use Rattle.irr_site.specs.Rests.{AreAllRests}
use Rattle.irr_site.specs.SiteContent.{part_at}
use Rattle.irr_site.specs.declared.part.SmallPart.{SmallPart}
use Rattle.irr_site.specs.declared.rest.Rest.{Rest}

pub record HasRows {S : Type 0} (order : S → ℕ) (value : (n : ℕ) → S → Number n) (M : ℕ) {h : ℕ} (T : PhaseTable h)
    (cs : List (SmallCharacter S)) : Type 0 where
  pub positive : 0 < M
  pub divides : T.order ∣ M
  pub list : Representations (phases_at T)
  pub complete : IsCompleteList T list
  pub ordered : IsInOrder T list
  pub full : IsFull list
  pub few : list.count ≤ 48
  pub small : (m : Fin list.count) → list.size m ≤ 48
  pub count : length cs ≡ list.count
  pub character : (m : Fin list.count) (e : SmallCharacter S)
      → IsCharacterOf order value T M divides (list.member m) (slice_index_or cs (to_nat m) e)

-- the traces of a family of at most 2304 rows
pub record IsFamilyRow {S : Type 0} (order : S → ℕ) (value : (n : ℕ) → S → Number n) {h : ℕ} (T : PhaseTable h) (M : ℕ)
    (v : T.order ∣ M) (traces : List S) : Type 0 where
  pub count : ℕ
  pub few : count ≤ 2304
  pub family : Representation (phases_over T M v) count
  pub row : IsRowOf order value M (λ i. trace (family.at i)) traces

-- mult m is the dimension of the space of intertwiners from the member m to the family
abbrev pub AreFamilyParts : {S : Type 0} (order : S → ℕ) (value : (n : ℕ) → S → Number n) {h : ℕ} (T : PhaseTable h)
    → List (SmallCharacter S) → List S → List SmallPart → Type 0
AreFamilyParts order value T cs traces parts = (M : ℕ) (has : HasRows order value M T cs)
    (r : IsFamilyRow order value T M has.divides traces) (mult : Fin has.list.count → ℕ)
    → ((m : Fin has.list.count) → HasDimension (over T M has.divides (has.list.member m)).at r.family.at (mult m))
    → IsListing (part_at T has.list mult) (λ m. 0 < mult m) (λ m n. to_nat m < to_nat n) parts

pub record Frame {S : Type 0} (order : S → ℕ) (value : (n : ℕ) → S → Number n) (group : Group) (x : Vector)
    (k : WaveVector) (n : ℕ) (t : Twisted) (small : List (SmallCharacter S)) (rows : List (Vec (Option Rest) Global))
    (cs : List (SmallCharacter S)) (sites : ℕ) : Type 0 where
  -- past the end of the group's list
  pub none : Op
  pub little : IsLittleTable group k (operation_places t) (phase_table t)
  pub small_rows : HasRows order value n (phase_table t) small
  pub orbit : Orbit (stands_for group) x
  pub count : orbit.sites ≡ sites
  pub few : sites ≤ 48
  pub table : PhaseTable orbit.places
  pub is_table : IsSiteTable n orbit.operation table
  pub rests : AreAllRests (sign_of group.phase) k n orbit {h = place_count t}
      (listed_operations group (place_count t) (operation_places t) none) rows
  pub characters : HasRows order value n table cs
