-- Pairs of representations of a report.
--   AreApart T a b               only 0 intertwines the families
--   AreApartAt T reps a b        the families at the numbers a and b of a list are apart
--   IsFirstBehind T reps a r     None: the family at a is apart from each behind it; else the first from which it is not
--   IsFirstPair T reps r         None: each family is apart from those behind it; else the first pair that is not, in lexicographic order
use Rattle.std.specs.Prelude.{ℕ, ◌<◌, List, length, slice_index_or, Option, Some, None}
use Rattle.irr_algebra.specs.Action.{HasDimension}
use Rattle.irr_algebra.specs.Fin.{Fin}
use Rattle.irr_space.specs.PhaseTable.{PhaseTable}
use Rattle.irr_cyc.specs.declared.scalars.Scalar.{Ghosts}
use Rattle.irr_rep.specs.Family.{matrix_at}
use Rattle.irr_report.specs.declared.report.RepText.{RepText}
use Rattle.irr_check.specs.declared.pairs.Pair.{Pair}

module _ {S : Type 0} {G : Ghosts S} {h : ℕ} (T : PhaseTable h) where
  abbrev pub AreApart : RepText S G → RepText S G → Type 0
  AreApart a b = HasDimension (λ (i : Fin h). matrix_at T.order a.family.dim a.family.mats.items i)
      (λ (i : Fin h). matrix_at T.order b.family.dim b.family.mats.items i) 0

  module _ (reps : List (RepText S G)) where
    abbrev pub AreApartAt : ℕ → ℕ → Type 0
    AreApartAt a b = (d e : RepText S G) → AreApart (slice_index_or reps a d) (slice_index_or reps b e)

    -- the family at a is apart from those behind it, before b
    abbrev pub AreApartBelow : ℕ → ℕ → Type 0
    AreApartBelow a b = (k : ℕ) → a < k → k < b → AreApartAt a k

    unfoldable pub IsFirstBehind : ℕ → Option ℕ → Type 0
    IsFirstBehind a None = AreApartBelow a (length reps)
    IsFirstBehind a (Some b) = (a < b) × (b < length reps) × ((d e : RepText S G) → ¬ (AreApart (slice_index_or reps a d) (slice_index_or reps b e)))
        × AreApartBelow a b

    unfoldable pub IsFirstPair : Option Pair → Type 0
    IsFirstPair None = (a : ℕ) → a < length reps → AreApartBelow a (length reps)
    IsFirstPair (Some p) = IsFirstBehind p.first (Some p.second) × ((a : ℕ) → a < p.first → AreApartBelow a (length reps))
