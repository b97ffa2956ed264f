-- What is wrong first in one representation of a report.
--   own T                       the order of T divides itself
--   IsSimpleFamily T t          only the multiples of one matrix intertwine the family with itself
--   HasTraces T t i             the character at a place is the trace
--   IsSmall T t                 the family is a small representation
--   IsFirstFault T t fault      None: a small representation with its traces that only the multiples of one matrix intertwine with
--                               itself; else what is wrong first
--   IsSound T t                 nothing is wrong
use Rattle.std.specs.Prelude.{ℕ, ◌≡◌, Option, Some, None}
use Rattle.std.specs.Int.{◌∣◌}
use native.Mathlib.Nat as Nat
use Rattle.irr_algebra.specs.Action.{IsSimple}
use Rattle.irr_algebra.specs.Fin.{Fin, to_nat}
use Rattle.irr_algebra.specs.Matrix.{trace}
use Rattle.irr_space.specs.PhaseTable.{PhaseTable}
use Rattle.irr_cyc.specs.declared.scalars.Scalar.{Ghosts}
use Rattle.irr_rep.specs.Defects.{IsFirstDefect, IsFirstFailure}
use Rattle.irr_rep.specs.Family.{IsRepresentationOf, matrix_at}
use Rattle.irr_report.specs.Content.{number_at}
use Rattle.irr_report.specs.declared.report.RepText.{RepText}
use Rattle.irr_check.specs.declared.fault.Fault.{Fault}
use Rattle.irr_check.specs.declared.fault.Fault.TheVariants.{Char, Defect, Reducible}

abbrev pub own : {h : ℕ} (T : PhaseTable h) → T.order ∣ T.order
own T = Nat.dvd_refl T.order

module _ {S : Type 0} {G : Ghosts S} {h : ℕ} (T : PhaseTable h) (t : RepText S G) where
  abbrev pub IsSimpleFamily : Type 0
  IsSimpleFamily = IsSimple (λ (i : Fin h). matrix_at T.order t.family.dim t.family.mats.items i)

  abbrev pub HasTrace : Fin h → Type 0
  HasTrace i = number_at G.value T.order t.chars.items (to_nat i) ≡ trace (matrix_at T.order t.family.dim t.family.mats.items i)

  abbrev pub IsSmall : Type 0
  IsSmall = IsRepresentationOf T T.order (own T) t.family.dim t.family.mats.items

  pub record IsSound : Type 0 where
    pub small : IsSmall
    pub traces : (i : Fin h) → HasTrace i
    pub simple : IsSimpleFamily

  unfoldable pub IsFirstFault : Option Fault → Type 0
  IsFirstFault None = IsSound
  IsFirstFault (Some (Defect d)) = IsFirstDefect T T.order (own T) t.family.dim t.family.mats.items (Some d)
  IsFirstFault (Some (Char i)) = IsSmall × IsFirstFailure HasTrace (Some i)
  IsFirstFault (Some Reducible) = IsSmall × ((i : Fin h) → HasTrace i) × ¬ IsSimpleFamily
