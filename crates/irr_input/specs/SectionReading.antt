-- What is read of the report at the end of an input.
--   IsSectionFault n text e     the error e comes with the report in the text, where n lines stand before it; want of memory says nothing
--   FitsBehind n e              the line of the error e of a report, counted with n lines before it, is below 2 ^ 64
use Rattle.std.specs.Prelude.{ℕ, ◌≡◌, ◌<◌, ◌+◌, ◌^◌, List}
use Rattle.irr_report.specs.ReportFault.{IsFault}
use Rattle.irr_report.specs.declared.report.ReportError.{ReportError}
use Rattle.irr_report.specs.declared.report.ReportError.TheVariants as reports
use Rattle.irr_input.specs.declared.input.Reason.TheVariants.{Report}
use Rattle.irr_input.specs.declared.input.InputError.{InputError}
use Rattle.irr_input.specs.declared.input.InputError.TheVariants.{Bad, Memory, ReportRange}

abbrev pub IsSectionFault : ℕ → List ℕ → InputError → Type 0
IsSectionFault before text (Bad n reason) = (reason ≡ Report) × (m : ℕ) × (n ≡ before + m) × IsFault text (reports.Line m)
IsSectionFault before text (ReportRange n) = (m : ℕ) × (n ≡ before + m) × IsFault text (reports.Range m)
IsSectionFault before text Memory = Unit {0}

abbrev pub FitsBehind : ℕ → ReportError → Type 0
FitsBehind before (reports.Line n) = before + n < 2 ^ 64
FitsBehind before (reports.Range n) = before + n < 2 ^ 64
FitsBehind before reports.Memory = Unit {0}
