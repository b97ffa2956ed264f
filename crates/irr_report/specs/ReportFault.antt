-- What a text says as a report, or why it says nothing.
--   wave_limit              the greatest number in a report's wave vector
--   IsWaveText text k       the text writes the wave vector k, with no fault, within that limit
--   IsWave, IsTriplet       the texts of wave vectors and of operations in a report
--   IsReport lines r        the lines are those of the report r, in its grammar and within the limits
--   IsLineFault lines n     line n, counted from 1, is the first outside the grammar, and no earlier line passes a limit; a missing line
--                           counts as the one after the last
--   IsRangeFault lines n    line n is the first that passes a limit, and no earlier line is outside the grammar
--   IsReportText text r     the lines of the text are those of the report r
--   IsFault text e          the error e comes with the text; want of memory says nothing
use Rattle.std.specs.Prelude.{ℕ, List}
use Rattle.irr_lines.specs.Lines.{AreLines}
use Rattle.irr_space.specs.Operation.{Operation, WaveVector}
use Rattle.irr_text.specs.ReportText.{ReportContent}
use Rattle.irr_triplet.specs.TripletFault.{IsTextOf}
use Rattle.irr_kvec.specs.WrittenWave.{WrittenWave, IsSpelling}
use Rattle.irr_kvec.specs.WaveFault.{HasCommonDenominator, IsWritten}
use Rattle.irr_report.specs.ReadReport.{IsReadReport}
use Rattle.irr_report.specs.ReportLimits as limits
use Rattle.irr_report.specs.declared.report.ReportError.{ReportError}
use Rattle.irr_report.specs.declared.report.ReportError.TheVariants.{Line, Range, Memory}

abbrev pub wave_limit : ℕ
wave_limit = 400000

pub record IsWaveText (text : List ℕ) (k : WaveVector) : Type 0 where
  pub wave : WrittenWave
  pub spells : IsSpelling wave text
  pub written : IsWritten wave_limit wave k
  pub common : HasCommonDenominator wave

abbrev pub IsWave : List ℕ → Type 0
IsWave text = (k : WaveVector) × IsWaveText text k

abbrev pub IsTriplet : List ℕ → Type 0
IsTriplet text = (g : Operation) × IsTextOf text g

abbrev pub IsReport : List (List ℕ) → ReportContent → Type 0
IsReport lines r = IsReadReport IsWaveText IsTextOf lines r

abbrev pub IsLineFault : List (List ℕ) → ℕ → Type 0
IsLineFault lines n = limits.IsLineFault IsWave IsTriplet lines n

abbrev pub IsRangeFault : List (List ℕ) → ℕ → Type 0
IsRangeFault lines n = limits.IsRangeFault IsWave IsTriplet lines n

pub record IsReportText (text : List ℕ) (r : ReportContent) : Type 0 where
  pub lines : List (List ℕ)
  pub are_lines : AreLines text lines
  pub report : IsReport lines r

abbrev pub IsFault : List ℕ → ReportError → Type 0
IsFault text (Line n) = (lines : List (List ℕ)) × AreLines text lines × IsLineFault lines n
IsFault text (Range n) = (lines : List (List ℕ)) × AreLines text lines × IsRangeFault lines n
IsFault text Memory = Unit {0}
