-- Lists of families of the program, read as lists of representations.
--   IsFullyRead M P fs       the families are the members of a full list on P
--   IsFullOn T M members fs  they are, over the restriction of T to the members, and their sizes are bounded
--   IsSmallList T fs         a complete list on T in canonical order, whose members have no intertwiners but multiples of one matrix, and whose
--                            squared sizes add up to the number of places
use Rattle.std.specs.Prelude.{ℕ, ◌≡◌, ◌*◌, List, length}
use Rattle.std.specs.Int.{◌∣◌}
use Rattle.irr_algebra.specs.Fin.{Fin}
use Rattle.irr_algebra.specs.Action.{IsSimple}
use Rattle.irr_number.specs.Number.{numbers}
use Rattle.irr_theory.specs.FactorSystem.{FactorSystem}
use Rattle.irr_theory.specs.Representations.{IsFull, Representations, count_total}
use Rattle.irr_space.specs.PhaseTable.{PhaseTable, phases_at, phases_over}
use Rattle.irr_space.specs.CompleteList.{IsCompleteList, IsInOrder}
use Rattle.irr_cyc.specs.declared.scalars.Scalar.{Ghosts}
use Rattle.irr_rep.specs.declared.family.Family.{Family}
use Rattle.irr_rep.specs.Subgroup.{IsRestriction}
use Rattle.irr_climb.specs.Families.{AreRead}
use Rattle.irr_climb.specs.Sizes.{AreSized}

-- a full list with these families as its members
pub record IsFullyRead {S : Type 0} {G : Ghosts S} (M : ℕ) (P : FactorSystem (numbers M)) (fs : List (Family S G)) : Type 0 where
  pub list : Representations P
  pub read : AreRead M P list fs
  pub full : IsFull list

-- the same over each restriction of T to the members, and bounded sizes
pub record IsFullOn {S : Type 0} {G : Ghosts S} {h : ℕ} (T : PhaseTable h) (M : ℕ) (members : List ℕ) (fs : List (Family S G)) : Type 0 where
  pub full : (n : ℕ) (U : PhaseTable n) → IsRestriction T members U → (w : U.order ∣ M) → IsFullyRead M (phases_over U M w) fs
  pub sized : AreSized M (length members) fs

-- what `small_reps` gives
pub record IsSmallList {S : Type 0} {G : Ghosts S} {h : ℕ} (T : PhaseTable h) (fs : List (Family S G)) : Type 0 where
  pub list : Representations (phases_at T)
  pub read : AreRead T.order (phases_at T) list fs
  pub complete : IsCompleteList T list
  pub ordered : IsInOrder T list
  pub simple : (m : Fin list.count) → IsSimple (list.member m).at
  pub squares : count_total list.count (λ m. list.size m * list.size m) ≡ h
  pub sized : AreSized T.order h fs
