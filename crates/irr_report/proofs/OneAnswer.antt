-- Lines, and a text, have one answer.
--   read-or-line, read-or-range, line-or-range     never two of a report, a line at fault, and a line that passes a limit
--   one-line-fault, one-range-fault     one such line
--   read-or-fault, one-fault            so it is for a text, want of memory aside
use Rattle.std.proofs.Common.{◌≡◌, refl, ap, subst, ◌⊎◌, inl, inr, ℕ, List}
use Rattle.irr_lines.specs.Lines.{AreLines}
use Rattle.irr_lines.proofs.AllLines.{lines_unique}
use Rattle.irr_text.specs.ReportText.{ReportContent}
use Rattle.irr_triplet.specs.TripletFault.{IsTextOf}
use Rattle.irr_report.specs.declared.report.ReportError.{ReportError}
use Rattle.irr_report.specs.declared.report.ReportError.TheVariants.{Line, Range, Memory}
use Rattle.irr_report.specs.ReportFault.{IsWaveText, IsWave, IsTriplet, IsReport, IsLineFault, IsRangeFault, IsReportText, IsFault}
use Rattle.irr_report.proofs.OneReport.{grammar}
use Rattle.irr_report.proofs.ReportFaults.{read-not_range, line-not_range, one-line, one-range}

module _ (lines : List (List ℕ)) where
  pub read-or-line : (r : ReportContent) (n : ℕ) → IsReport lines r → ¬ (IsLineFault lines n)
  read-or-line r n h f = f.outside (grammar IsWaveText IsTextOf lines r h)

  pub read-or-range : (r : ReportContent) (n : ℕ) → IsReport lines r → ¬ (IsRangeFault lines n)
  read-or-range r n h f = read-not_range IsWave IsTriplet lines (grammar IsWaveText IsTextOf lines r h) h.within n f

  pub line-or-range : (m n : ℕ) → IsLineFault lines m → ¬ (IsRangeFault lines n)
  line-or-range m n h f = line-not_range IsWave IsTriplet lines m n h f

  pub one-line-fault : (m n : ℕ) → IsLineFault lines m → IsLineFault lines n → m ≡ n
  one-line-fault m n h f = one-line IsWave IsTriplet lines m n h f

  pub one-range-fault : (m n : ℕ) → IsRangeFault lines m → IsRangeFault lines n → m ≡ n
  one-range-fault m n h f = one-range IsWave IsTriplet lines m n h f

-- the lines of a text are those of each fault of it
same-lines : (text : List ℕ) (lines : List (List ℕ)) (F : List (List ℕ) → Type 0) → AreLines text lines
    → (others : List (List ℕ)) × AreLines text others × F others → F lines
same-lines text lines F h f = subst F (lines_unique f.1 h) f.2

pub read-or-fault : (text : List ℕ) (r : ReportContent) (e : ReportError) → IsReportText text r → IsFault text e → e ≡ Memory
read-or-fault text r (Line n) h f =
    absurd (read-or-line h.lines r n h.report (same-lines text h.lines (λ lines. IsLineFault lines n) h.are_lines f))
read-or-fault text r (Range n) h f =
    absurd (read-or-range h.lines r n h.report (same-lines text h.lines (λ lines. IsRangeFault lines n) h.are_lines f))
read-or-fault text r Memory h f = refl

pub one-fault : (text : List ℕ) (e f : ReportError) → IsFault text e → IsFault text f → (e ≡ f) ⊎ ((e ≡ Memory) ⊎ (f ≡ Memory))
one-fault text (Line m) (Line n) h f =
    inl (ap Line (one-line-fault h.0 m n h.2 (same-lines text h.0 (λ lines. IsLineFault lines n) h.1 f)))
one-fault text (Line m) (Range n) h f =
    absurd (line-or-range h.0 m n h.2 (same-lines text h.0 (λ lines. IsRangeFault lines n) h.1 f))
one-fault text (Range m) (Line n) h f =
    absurd (line-or-range f.0 n m f.2 (same-lines text f.0 (λ lines. IsRangeFault lines m) f.1 h))
one-fault text (Range m) (Range n) h f =
    inl (ap Range (one-range-fault h.0 m n h.2 (same-lines text h.0 (λ lines. IsRangeFault lines n) h.1 f)))
one-fault text Memory f h k = inr (inl refl)
one-fault text (Line m) Memory h k = inr (inr refl)
one-fault text (Range m) Memory h k = inr (inr refl)
