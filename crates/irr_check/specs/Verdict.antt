-- Verdicts on reports: this project's own form.
--   IsSameAt f g k              two lists of operations have the same at number k, or both have ended
--   verdict_at t                the verdict where the trial t is the first that is not passed: all numbers count from 1
--   IsFamiliesVerdict w T F v   v is Yes, and the families pass each trial; or it is that of the first trial that they do not pass
--   IsVerdict w s G r v         the verdict on the report r of small representations of the group G, for the sign s of the phase:
--                               the order of its wave vector is tried first, then its operations, then its families
--   IsCompleteReport s G r      the report of a complete list of small representations at its wave vector
use Rattle.std.specs.Prelude.{ℕ, ◌≡◌, ◌<◌, ◌+◌}
use Rattle.irr_algebra.specs.Fin.{Fin, to_nat}
use Rattle.irr_theory.specs.Representations.{Representations}
use Rattle.irr_space.specs.Operation.{Operation}
use Rattle.irr_space.specs.Reciprocal.{IsOrder, Sign}
use Rattle.irr_space.specs.CanonicalOperation.{IsNumbering}
use Rattle.irr_space.specs.Star.{IsInLittleGroup}
use Rattle.irr_space.specs.PhaseTable.{PhaseTable, IsTableOf, phases_at}
use Rattle.irr_space.specs.CompleteList.{IsCompleteList}
use Rattle.irr_text.specs.ReportText.{ReportContent, list_report}
use Rattle.irr_check.specs.declared.verdict.Verdict.{Verdict}
use Rattle.irr_check.specs.declared.verdict.Verdict.TheVariants.{No, Yes}
use Rattle.irr_check.specs.declared.verdict.Clause.TheVariants.{Order, Ops, Unit as UnitMatrix, Multiply, Char, Reducible, Equivalent, Missing}
use Rattle.irr_check.specs.Families.{Families, families_report}
use Rattle.irr_check.specs.Trials.{IsFirstFailed, IsTriedBefore, Passes, Reading, Trial}
use Rattle.irr_check.specs.Trials.Trial.{all, at_product, at_trace, at_unit, inequivalent, irreducible}

pub record IsSameAt {m n : ℕ} (f : Fin m → Operation) (g : Fin n → Operation) (k : ℕ) : Type 0 where
  pub forward : (i : Fin m) → to_nat i ≡ k → (j : Fin n) × (to_nat j ≡ k) × (f i ≡ g j)
  pub backward : (j : Fin n) → to_nat j ≡ k → (i : Fin m) × (to_nat i ≡ k) × (f i ≡ g j)

unfoldable pub verdict_at : {c h : ℕ} → Trial c h → Verdict
verdict_at (at_unit m) = No UnitMatrix (to_nat m + 1) 0 0
verdict_at (at_product m i j) = No Multiply (to_nat m + 1) (to_nat i + 1) (to_nat j + 1)
verdict_at (at_trace m i) = No Char (to_nat m + 1) (to_nat i + 1) 0
verdict_at (irreducible m) = No Reducible (to_nat m + 1) 0 0
verdict_at (inequivalent a b) = No Equivalent (to_nat a + 1) (to_nat b + 1) 0
verdict_at all = No Missing 0 0 0

pub data IsFamiliesVerdict (w : Reading) {h : ℕ} (T : PhaseTable h) (F : Families T) : Verdict → Type 0 where
  fails : (t : Trial F.count h) → IsFirstFailed IsTriedBefore (Passes T F w) t → IsFamiliesVerdict w T F (verdict_at t)
  passes : ((t : Trial F.count h) → Passes T F w t) → IsFamiliesVerdict w T F Yes

pub data IsVerdict (w : Reading) (s : Sign) (G : Operation → Type 0) (r : ReportContent) : Verdict → Type 0 where
  other_order : {n : ℕ} → IsOrder G r.wave n → ¬ (r.order ≡ n) → IsVerdict w s G r (No Order 0 n 0)
  other_operations : {h i : ℕ} (ops : Fin h → Operation) → IsOrder G r.wave r.order → IsNumbering G (IsInLittleGroup G r.wave) ops
      → IsFirstFailed (λ k l. k < l) (IsSameAt ops r.operation) i → IsVerdict w s G r (No Ops 0 (i + 1) 0)
  of_families : {h : ℕ} {v : Verdict} (ops : Fin h → Operation) (T : PhaseTable h) (F : Families T) → IsNumbering G (IsInLittleGroup G r.wave) ops
      → IsTableOf s G r.wave ops T → r ≡ families_report r.wave ops T F → IsFamiliesVerdict w T F v → IsVerdict w s G r v

pub record IsCompleteReport (s : Sign) (G : Operation → Type 0) (r : ReportContent) : Type 0 where
  pub places : ℕ
  pub operation : Fin places → Operation
  pub numbering : IsNumbering G (IsInLittleGroup G r.wave) operation
  pub table : PhaseTable places
  pub is_table : IsTableOf s G r.wave operation table
  pub representations : Representations (phases_at table)
  pub complete : IsCompleteList table representations
  pub content : r ≡ list_report r.wave operation table representations
