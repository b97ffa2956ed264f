-- The sorts of lines of an input, by their first words: the longest run of bytes behind leading blanks that are no blanks.
--   IsSkipped line          the line has blanks alone or nothing, or its first byte behind blanks is #
--   word_of k               the word of a section: subgroup, basis, origin or report
--   Begins k line           the first word of the line is that of k
--   LineSort                a line that is skipped, a triplet, or a line of a section
--   IsOfSort line sort      the line is of this sort: a triplet is what is neither skipped nor begins with the word of a section
--   IsSubgroupText line     the line has the word subgroup alone, with blanks around it
--   HasFault line reason    the line is no triplet, for this reason; places count its bytes from 0
--   HasSubgroupFault line reason     the line is not the word subgroup alone: it leaves this grammar at a place
--   setting_reason e        the reason of a line that is none of a setting
--   HasSettingFault F line reason    the line is faulty as one of a setting, where F tells the fault
--   IsOwnFault line sort reason      the line is faulty as one of its sort, for this reason; what stands in a report is told there
use Rattle.std.specs.Prelude.{ℕ, ◌≡◌, List, [], ◌∷◌, ◌++◌, codes}
use Rattle.irr_grammar.specs.ShapePlace.{IsShapePlace}
use Rattle.irr_token.specs.Kinds.{AreBlanks, kind_of}
use Rattle.irr_token.specs.declared.kind.Kind.TheVariants.{Blank}
use Rattle.irr_triplet.specs.TripletFault.{IsFault}
use Rattle.irr_triplet.specs.declared.reading.TripletError.TheVariants as triplets
use Rattle.irr_setting_text.specs.SettingFault.{IsBasisFault, IsOriginFault}
use Rattle.irr_setting_text.specs.declared.read.SettingError.{SettingError}
use Rattle.irr_setting_text.specs.declared.read.SettingError.TheVariants as settings
use Rattle.irr_input.specs.declared.keyword.Keyword.{Keyword}
use Rattle.irr_input.specs.declared.keyword.Keyword.TheVariants.{Subgroup, Basis, Origin, Report}
use Rattle.irr_input.specs.declared.input.Reason.{Reason}
use Rattle.irr_input.specs.declared.input.Reason.TheVariants as reasons

pub data IsSkipped (line : List ℕ) : Type 0 where
  blank : AreBlanks line → IsSkipped line
  comment : (blanks rest : List ℕ) → AreBlanks blanks → line ≡ blanks ++ 35 ∷ rest → IsSkipped line

abbrev pub word_of : Keyword → List ℕ
word_of Subgroup = codes "subgroup"
word_of Basis = codes "basis"
word_of Origin = codes "origin"
word_of Report = codes "report"

-- what follows the first word of a line
abbrev pub EndsWord : List ℕ → Type 0
EndsWord [] = Unit {0}
EndsWord (b ∷ bs) = kind_of b ≡ Blank

pub record Begins (k : Keyword) (line : List ℕ) : Type 0 where
  pub blanks : List ℕ
  pub behind : List ℕ
  pub are_blanks : AreBlanks blanks
  pub spelled : line ≡ blanks ++ (word_of k ++ behind)
  pub ends : EndsWord behind

pub data LineSort : Type 0 where
  skipped : LineSort
  triplet : LineSort
  section : Keyword → LineSort

abbrev pub IsOfSort : List ℕ → LineSort → Type 0
IsOfSort line skipped = IsSkipped line
IsOfSort line triplet = (¬ (IsSkipped line)) × ((k : Keyword) → ¬ (Begins k line))
IsOfSort line (section k) = Begins k line

pub record IsSubgroupText (line : List ℕ) : Type 0 where
  pub before : List ℕ
  pub behind : List ℕ
  pub are_blanks : AreBlanks before × AreBlanks behind
  pub spelled : line ≡ before ++ (codes "subgroup" ++ behind)

abbrev pub HasFault : List ℕ → Reason → Type 0
HasFault line (reasons.Shape p) = IsFault line (triplets.Shape p)
HasFault line (reasons.Zero p) = IsFault line (triplets.Zero p)
HasFault line (reasons.Range p) = IsFault line (triplets.Range p)
HasFault line reasons.Determinant = IsFault line triplets.Determinant
HasFault line reasons.Missing = ⊥
HasFault line reasons.Report = ⊥
HasFault line reasons.Singular = ⊥
HasFault line reasons.NotInGroup = ⊥

abbrev pub HasSubgroupFault : List ℕ → Reason → Type 0
HasSubgroupFault line reason = (¬ (IsSubgroupText line)) × (p : ℕ) × IsShapePlace IsSubgroupText line p × (reason ≡ reasons.Shape p)

abbrev pub setting_reason : SettingError → Reason
setting_reason (settings.Shape p) = reasons.Shape p
setting_reason (settings.Zero p) = reasons.Zero p
setting_reason (settings.Range p) = reasons.Range p

abbrev pub HasSettingFault : (List ℕ → SettingError → Type 0) → List ℕ → Reason → Type 0
HasSettingFault F line reason = (e : SettingError) × F line e × (reason ≡ setting_reason e)

abbrev pub IsOwnFault : List ℕ → LineSort → Reason → Type 0
IsOwnFault line skipped reason = ⊥
IsOwnFault line triplet reason = HasFault line reason
IsOwnFault line (section Subgroup) reason = HasSubgroupFault line reason
IsOwnFault line (section Basis) reason = HasSettingFault IsBasisFault line reason
IsOwnFault line (section Origin) reason = HasSettingFault IsOriginFault line reason
IsOwnFault line (section Report) reason = ⊥
