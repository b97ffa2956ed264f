-- The grammar of reports, version 1: which lines are those of a report.
--   IsWholeNumber ds       the digits ds, with no leading zero, of a number that is at least 1; or 0
--   IsValueText text       the text writes a number: its exponents increase, and no denominator is 0
--   IsForm W P w           the parts are in their grammars, W that of wave vectors and P that of triplets, and fit together
--   IsReport W P lines     the lines are those of such a report, and perhaps empty lines
use Rattle.std.specs.Prelude.{ℕ, ◌≡◌, ◌⊎◌, ◌*◌, List, [], ◌∷◌, ◌++◌, length, replicate, All}
use Rattle.std.specs.Str.Parse.{digits_value}
use Rattle.irr_numeral.specs.WrittenNumber.{IsWhole, IsNumber, AreIncreasing}
use Rattle.irr_numeral.specs.TermPlaces.{HasZero}
use Rattle.irr_report.specs.ReportLines.{WrittenRepresentation, WrittenReport, report_lines}

abbrev pub IsWholeNumber : List ℕ → Type 0
IsWholeNumber ds = (ds ≡ 48 ∷ []) ⊎ IsWhole ds

pub record IsValueText (text : List ℕ) : Type 0 where
  pub number : IsNumber text
  pub increasing : AreIncreasing number.terms
  pub not_zero : All (λ t. ¬ (HasZero t)) number.terms

-- a representation on h operations
pub record IsRepresentationForm (h : ℕ) (t : WrittenRepresentation) : Type 0 where
  pub dimension : IsWhole t.dimension
  pub character_count : length t.characters ≡ h
  pub characters : All IsValueText t.characters
  pub matrix_count : length t.matrices ≡ h
  pub entry_counts : All (λ m. length m ≡ digits_value 10 t.dimension * digits_value 10 t.dimension) t.matrices
  pub entries : All (All IsValueText) t.matrices

pub record IsForm (W P : List ℕ → Type 0) (w : WrittenReport) : Type 0 where
  pub wave : W w.wave
  pub order : IsWhole w.order
  pub places : IsWhole w.places
  pub triplet_count : digits_value 10 w.places ≡ length w.triplets
  pub triplets : All P w.triplets
  pub count : IsWholeNumber w.count
  pub representation_count : digits_value 10 w.count ≡ length w.representations
  pub representations : All (IsRepresentationForm (length w.triplets)) w.representations

pub record IsReport (W P : List ℕ → Type 0) (lines : List (List ℕ)) : Type 0 where
  pub written : WrittenReport
  pub form : IsForm W P written
  pub empty : ℕ
  pub are : lines ≡ report_lines written ++ replicate empty []
