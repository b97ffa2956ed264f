-- The lines of an input, counted from 1: generators, perhaps a subgroup section with its setting and generators, and perhaps a report to its end.
--   placed gens                  the lines of generators, and the operations that stand there
--   content r                    what a report says, if there is one
--   sub_content s                what a subgroup section says, if there is one
--   whole gens sub               what lines say that may end: generators, and perhaps a subgroup section
--   MayEnd s                     where s is said, the lines may end, or a report begin
--   IsAt k rest                  the first word of the rest is that of k
--   Comes bytes E                lines of the bytes lead to a place at which E holds: of what they say, their number, and the rest
--   IsInput bytes gens sub report     the lines of the bytes are those of the generators and of the subgroup section, if there is one, and behind
--                                them those of the report, if there is one
--   HasLines bytes n             the bytes have n lines
--   IsFaultyLine bytes n reason  the n-th line is the first that is faulty where it stands, for this reason; or no line is left where a
--                                basis or an origin must stand, and n is the number of lines and 1; or it is the first faulty line of the report
--   IsLimitLine bytes n          the n-th line is the first of the report that passes a limit
--   IsInputFault bytes e         what the error e says of the bytes; want of memory says nothing
use Rattle.std.specs.Prelude.{ℕ, ◌≡◌, ◌+◌, suc, Option, Some, None, List, [], length, map}
use Rattle.irr_lines.specs.Lines.{IsFirstLine, AreLines}
use Rattle.irr_seitz.specs.OperationMeaning.{operation}
use Rattle.irr_text.specs.ReportText.{ReportContent}
use Rattle.irr_cyc.specs.declared.scalars.Scalar.{Ghosts}
use Rattle.irr_setting.specs.Setting.{basis, origin}
use Rattle.irr_report.specs.Content.{content_of}
use Rattle.irr_report.specs.declared.report.Report.{Report as Contents}
use Rattle.irr_report.specs.declared.report.ReportError.TheVariants.{Line, Range as PassesLimit}
use Rattle.irr_report.specs.ReportFault.{IsReportText, IsFault}
use Rattle.irr_input.specs.declared.keyword.Keyword.{Keyword}
use Rattle.irr_input.specs.declared.keyword.Keyword.TheVariants.{Report as ReportWord}
use Rattle.irr_input.specs.declared.input.GenLine.{GenLine}
use Rattle.irr_input.specs.declared.input.SubSpec.{SubSpec}
use Rattle.irr_input.specs.declared.input.Reason.{Reason}
use Rattle.irr_input.specs.declared.input.Reason.TheVariants.{Missing, Report}
use Rattle.irr_input.specs.declared.input.InputError.{InputError}
use Rattle.irr_input.specs.declared.input.InputError.TheVariants.{Bad, Memory, ReportRange}
use Rattle.irr_input.specs.SectionLines.{Begins}
use Rattle.irr_input.specs.SectionLines.LineSort.{section}
use Rattle.irr_input.specs.Stages.{Placed, SubContent, Said, MayStand, Reaches, IsWrong}
use Rattle.irr_input.specs.Stages.Said.{group, complete}

abbrev pub placed : List GenLine → List Placed
placed gens = map (λ (g : GenLine). record { line = g.line; operation = operation g.op }) gens

abbrev pub content : {S : Type 0} {G : Ghosts S} → Option (Contents S G) → Option ReportContent
content None = None
content (Some r) = Some (content_of r)

abbrev pub content_of_sub : SubSpec → SubContent
content_of_sub s = record { line = s.line; basis = basis s.setting; origin = origin s.setting; gens = placed s.gens.items }

abbrev pub sub_content : Option SubSpec → Option SubContent
sub_content None = None
sub_content (Some s) = Some (content_of_sub s)

abbrev pub whole : List Placed → Option SubContent → Said
whole gens None = group gens
whole gens (Some sub) = complete gens sub

abbrev pub MayEnd : Said → Type 0
MayEnd s = MayStand s (section ReportWord)

pub record IsAt (k : Keyword) (rest : List ℕ) : Type 0 where
  pub line : List ℕ
  pub behind : List ℕ
  pub is_first : IsFirstLine rest line behind
  pub begins : Begins k line

pub record Comes (bytes : List ℕ) (E : Said → ℕ → List ℕ → Type 0) : Type 0 where
  pub said : Said
  pub number : ℕ
  pub rest : List ℕ
  pub reached : Reaches bytes said number rest
  pub at_end : E said number rest

abbrev pub IsRest : List ℕ → Option ReportContent → Type 0
IsRest rest None = rest ≡ []
IsRest rest (Some r) = IsAt ReportWord rest × IsReportText rest r

abbrev pub IsEnd : Said → Option ReportContent → Said → ℕ → List ℕ → Type 0
IsEnd said report s n rest = (s ≡ said) × IsRest rest report

pub record IsInput (bytes : List ℕ) (gens : List GenLine) (sub : Option SubContent) (report : Option ReportContent) : Type 0 where
  pub comes : Comes bytes (IsEnd (whole (placed gens) sub) report)

pub record HasLines (bytes : List ℕ) (n : ℕ) : Type 0 where
  pub lines : List (List ℕ)
  pub are_lines : AreLines bytes lines
  pub count : n ≡ length lines

-- where n lines say s, and the rest follows them, the m-th line is faulty
pub data IsFaultAt (m : ℕ) (reason : Reason) (s : Said) (n : ℕ) (rest : List ℕ) : Type 0 where
  wrong : (line behind : List ℕ) → IsFirstLine rest line behind → IsWrong s line reason → m ≡ suc n → IsFaultAt m reason s n rest
  missing : rest ≡ [] → ¬ (MayEnd s) → m ≡ suc n → reason ≡ Missing → IsFaultAt m reason s n rest
  in_report : (place : ℕ) → MayEnd s → IsAt ReportWord rest → IsFault rest (Line place) → m ≡ n + place → reason ≡ Report → IsFaultAt m reason s n rest

pub record IsLimitAt (m : ℕ) (s : Said) (n : ℕ) (rest : List ℕ) : Type 0 where
  pub may_end : MayEnd s
  pub begins : IsAt ReportWord rest
  pub place : ℕ
  pub passes : IsFault rest (PassesLimit place)
  pub is_place : m ≡ n + place

pub record IsFaultyLine (bytes : List ℕ) (n : ℕ) (reason : Reason) : Type 0 where
  pub comes : Comes bytes (IsFaultAt n reason)

pub record IsLimitLine (bytes : List ℕ) (n : ℕ) : Type 0 where
  pub comes : Comes bytes (IsLimitAt n)

abbrev pub IsInputFault : List ℕ → InputError → Type 0
IsInputFault bytes (Bad n reason) = IsFaultyLine bytes n reason
IsInputFault bytes (ReportRange n) = IsLimitLine bytes n
IsInputFault bytes Memory = Unit {0}
