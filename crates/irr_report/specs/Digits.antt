-- Why digits on a line are no number.
--   IsDigitsFault K limit digits e     the error e comes with the digits, where K says which are a number
use Rattle.std.specs.Prelude.{ℕ, ◌<◌, List}
use Rattle.std.specs.Str.Parse.{digits_value}
use Rattle.irr_report.specs.declared.stage.StepError.{StepError}
use Rattle.irr_report.specs.declared.stage.StepError.TheVariants.{Line, Range, Memory}

abbrev pub IsDigitsFault : (List ℕ → Type 0) → ℕ → List ℕ → StepError → Type 0
IsDigitsFault K limit digits Line = ¬ (K digits)
IsDigitsFault K limit digits Range = K digits × (limit < digits_value 10 digits)
IsDigitsFault K limit digits Memory = Unit {0}
