-- The representations of a report as families on a table of phases.
--   families_of T reps           the families and characters of a list of representations
--   IsSmallFault f               its places are below 48
--   fault_verdict m f            the verdict where the representation m is the first with a fault: all numbers count from 1
--   IsFirstFaulty T reps r       None: nothing is wrong with any one; else the first with which something is wrong, and what is first
use Rattle.std.specs.Prelude.{ℕ, ⊤, ◌<◌, ◌+◌, List, [], length, map, slice_index_or, Option, Some, None, All}
use Rattle.irr_algebra.specs.Fin.{to_nat}
use Rattle.irr_space.specs.PhaseTable.{PhaseTable}
use Rattle.irr_cyc.specs.declared.scalars.Scalar.{Ghosts}
use Rattle.irr_rep.specs.Family.{matrix_at}
use Rattle.irr_rep.specs.declared.family.Defect.TheVariants.{Product, Unit as no_unit}
use Rattle.irr_report.specs.Content.{number_at}
use Rattle.irr_report.specs.declared.report.RepText.{RepText}
use Rattle.irr_check.specs.declared.families.Faulty.{Faulty}
use Rattle.irr_check.specs.declared.fault.Fault.{Fault}
use Rattle.irr_check.specs.declared.fault.Fault.TheVariants.{Char as other_trace, Defect, Reducible as not_simple}
use Rattle.irr_check.specs.declared.verdict.Verdict.{Verdict}
use Rattle.irr_check.specs.declared.verdict.Verdict.TheVariants.{No}
use Rattle.irr_check.specs.declared.verdict.Clause.TheVariants.{Unit as UnitMatrix, Multiply, Char, Reducible}
use Rattle.irr_check.specs.Families.{Families}
use Rattle.irr_check.specs.Faults.{IsFirstFault, IsSound}

abbrev pub families_of : {S : Type 0} {G : Ghosts S} {h : ℕ} (T : PhaseTable h) → List (RepText S G) → Families T
families_of {G = G} T reps = record {
  count = length reps;
  size = λ m. slice_index_or (map (λ t. t.family.dim) reps) (to_nat m) 0;
  character = λ m i. number_at G.value T.order (slice_index_or (map (λ t. t.chars.items) reps) (to_nat m) []) (to_nat i);
  matrix = λ m i. matrix_at T.order (slice_index_or (map (λ t. t.family.dim) reps) (to_nat m) 0)
      (slice_index_or (map (λ t. t.family.mats.items) reps) (to_nat m) []) i;
}

unfoldable pub IsSmallFault : Fault → Type 0
IsSmallFault (Defect no_unit) = ⊤
IsSmallFault (Defect (Product i j)) = (i < 48) × (j < 48)
IsSmallFault (other_trace i) = i < 48
IsSmallFault not_simple = ⊤

unfoldable pub fault_verdict : ℕ → Fault → Verdict
fault_verdict rep (Defect no_unit) = No UnitMatrix (rep + 1) 0 0
fault_verdict rep (Defect (Product i j)) = No Multiply (rep + 1) (i + 1) (j + 1)
fault_verdict rep (other_trace i) = No Char (rep + 1) (i + 1) 0
fault_verdict rep not_simple = No Reducible (rep + 1) 0 0

module _ {S : Type 0} {G : Ghosts S} {h : ℕ} (T : PhaseTable h) (reps : List (RepText S G)) where
  abbrev pub AreSoundBelow : ℕ → Type 0
  AreSoundBelow m = (k : ℕ) (e : RepText S G) → k < m → IsSound T (slice_index_or reps k e)

  unfoldable pub IsFirstFaulty : Option Faulty → Type 0
  IsFirstFaulty None = All (IsSound T) reps
  IsFirstFaulty (Some f) = (f.rep < length reps) × ((e : RepText S G) → IsFirstFault T (slice_index_or reps f.rep e) (Some f.fault)) × AreSoundBelow f.rep
