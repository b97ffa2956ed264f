-- One wave vector's side of a direct product.
--   IsInducible group arms t f              f is a small family of a representation on a star with these arms and this table
--   IsInducedFrom group arms t f full       full is what each representation with the matrices of f induces
--   AreInducedFrom group arms t fs fulls    so for the families of a list, in its order
--   IsSideOf group k side                   the star of k, and the full representations of a complete list in canonical order
use Rattle.std.specs.Prelude.{ℕ, ◌≡◌, ◌<◌, ◌≤◌, List, length, slice_index_or}
use Rattle.std.specs.Int.{◌∣◌}
use Rattle.std.specs.List.{All}
use Rattle.irr_algebra.specs.Fin.{Fin, to_nat}
use Rattle.irr_theory.specs.FactorSystem.{Representation}
use Rattle.irr_theory.specs.Representations.{Representations}
use Rattle.irr_space.specs.Operation.{WaveVector}
use Rattle.irr_space.specs.PhaseTable.{phases_at, phases_over}
use Rattle.irr_space.specs.CompleteList.{IsCompleteList, IsInOrder, over}
use Rattle.irr_seitz.specs.PhaseMeaning.{sign_of}
use Rattle.irr_cyc.specs.declared.scalars.Scalar.{Ghosts}
use Rattle.irr_rep.specs.declared.family.Family.{Family}
use Rattle.irr_rep.specs.declared.table.Twisted.{Twisted}
use Rattle.irr_kvec.specs.Centrings.{IsWithinLimits}
use Rattle.irr_close.specs.StandsFor.{stands_for}
use Rattle.irr_close.specs.declared.group.Group.{Group}
use Rattle.irr_little.specs.declared.arms.Arm.{Arm}
use Rattle.irr_full.specs.Star.{Star}
use Rattle.irr_star.specs.Induced.{IsInduced}
use Rattle.irr_star.specs.Sizes.{IsSmallFamily}
use Rattle.irr_star.specs.Stars.{AreArmsOf, IsStarOf}
use Rattle.irr_star.specs.declared.full.Full.{Full}
use Rattle.irr_side.specs.declared.sides.Side.{Side}

abbrev pub IsInducible : {X : Type 0} {V : Ghosts X} → Group → List Arm → Twisted → Family X V → Type 0
IsInducible group arms t f = (k : WaveVector) × (U : Star (sign_of group.phase) (stands_for group) k) × (M : ℕ)
    × (v : U.table.order ∣ M) × (d : ℕ) × (D : Representation (phases_over U.table M v) d) × IsStarOf group arms t U
    × IsSmallFamily M D.at f

pub record IsInducedFrom {X : Type 0} {V : Ghosts X} (group : Group) (arms : List Arm) (t : Twisted) (f : Family X V)
    (full : Full X V) : Type 0 where
  pub induced : (k : WaveVector) (U : Star (sign_of group.phase) (stands_for group) k) (M : ℕ) (v : U.table.order ∣ M)
      (d : ℕ) (D : Representation (phases_over U.table M v) d) → IsStarOf group arms t U → IsSmallFamily M D.at f
      → IsInduced group U M v D full

pub record AreInducedFrom {X : Type 0} {V : Ghosts X} (group : Group) (arms : List Arm) (t : Twisted)
    (fs : List (Family X V)) (fulls : List (Full X V)) : Type 0 where
  pub count : length fulls ≡ length fs
  pub each : (n : ℕ) (f : Family X V) (g : Full X V) → n < length fs
      → IsInducedFrom group arms t (slice_index_or fs n f) (slice_index_or fulls n g)

pub record IsSideOf {X : Type 0} {V : Ghosts X} (group : Group) (k : WaveVector) (side : Side X V) : Type 0 where
  pub star : Star (sign_of group.phase) (stands_for group) k
  pub arms : AreArmsOf group side.star.arms.items star
  pub limits : All (λ a. IsWithinLimits a.wave) side.star.arms.items
  pub list : Representations (phases_at star.table)
  pub complete : IsCompleteList star.table list
  pub ordered : IsInOrder star.table list
  pub few : list.count ≤ 48
  pub small : (m : Fin list.count) → list.size m ≤ 48
  pub count : length side.fulls.items ≡ list.count
  pub induced : (v : star.table.order ∣ star.table.order) (m : Fin list.count) (f : Full X V)
      → IsInduced group star star.table.order v (over star.table star.table.order v (list.member m))
      (slice_index_or side.fulls.items (to_nat m) f)
