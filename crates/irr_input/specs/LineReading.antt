-- What is read of one line, and of lines one after another.
--   IsWordBefore text word        the text begins with the word, and a blank or nothing follows it
--   IsLineRead n line old new     the line, which is the n-th, is skipped, or one generator more is read of it
--   IsLineFault n line e          the line is neither skipped nor a triplet; want of memory says nothing
--   EndsGenerators text           no line is left, or the first begins with the word of a section
--   TakesGenerators s             with each triplet one generator more is said: of the group, or of the subgroup
--   AreRead gens n text m left    where n lines say no generators yet and the text follows them, m lines say these, and what is left follows
--   IsGeneratorFault n text e     where n lines say no generators yet and the text follows them, the error e comes
--   Needs s k                     where s is said, a line that begins with the word of k must stand
--   IsNeeded k n text line m left     where n lines say what needs k, and the text follows them, the m-th line begins with its word, and what is
--                                 left follows it
--   IsNeedFault k n text e        where n lines say what needs k, and the text follows them, the error e comes
--   IsSettingRead n text s m left, IsSettingFault n text e     behind the line of a subgroup, the setting of s is read, or the error comes
--   IsSubRead n text s m left, IsSubFault n text e     behind the generators of a group, the subgroup s is read, or the error comes
--   IsStopped s text              no line is left, or a report, or a line that may not follow s
--   IsEndFault n text e           where n lines say what may end, and the text follows them, the error e comes
use Rattle.std.specs.Prelude.{ℕ, ◌≡◌, ◌⊎◌, suc, List, [], ◌∷◌, ◌++◌, Option}
use Rattle.irr_lines.specs.Lines.{IsFirstLine}
use Rattle.irr_space.specs.Operation.{Operation}
use Rattle.irr_seitz.specs.OperationMeaning.{operation}
use Rattle.irr_triplet.specs.Readable.{IsReadable}
use Rattle.irr_triplet.specs.TripletFault.{IsTextOf}
use Rattle.irr_setting.specs.Setting.{basis, origin}
use Rattle.irr_setting.specs.declared.setting.Setting.{Setting}
use Rattle.irr_input.specs.declared.keyword.Keyword.{Keyword}
use Rattle.irr_input.specs.declared.keyword.Keyword.TheVariants.{Basis, Origin, Report}
use Rattle.irr_input.specs.declared.input.GenLine.{GenLine}
use Rattle.irr_input.specs.declared.input.SubSpec.{SubSpec}
use Rattle.irr_input.specs.declared.input.InputError.{InputError}
use Rattle.irr_input.specs.declared.input.InputError.TheVariants.{Bad, Memory, ReportRange}
use Rattle.irr_input.specs.SectionLines.{IsSkipped, HasFault, Begins, EndsWord, IsOfSort}
use Rattle.irr_input.specs.SectionLines.LineSort.{triplet, section}
use Rattle.irr_input.specs.Stages.{Placed, placed_at, setting_at, Said, Adds, Reaches, MayStand}
use Rattle.irr_input.specs.Stages.Said.{group, begun, based, complete}
use Rattle.irr_input.specs.InputLines.{placed, sub_content, whole, MayEnd, IsAt, IsInputFault}

pub record IsWordBefore (text word : List ℕ) : Type 0 where
  pub behind : List ℕ
  pub spelled : text ≡ word ++ behind
  pub ends : EndsWord behind

pub data IsLineRead (n : ℕ) (line : List ℕ) (old new : List GenLine) : Type 0 where
  skipped : IsSkipped line → new ≡ old → IsLineRead n line old new
  generator : (g : GenLine) → ¬ (IsSkipped line) → g.line ≡ n → IsTextOf line (operation g.op) → IsReadable (operation g.op) → new ≡ old ++ g ∷ [] → IsLineRead n line old new

abbrev pub IsLineFault : ℕ → List ℕ → InputError → Type 0
IsLineFault n line (Bad m reason) = (m ≡ n) × (¬ (IsSkipped line)) × HasFault line reason
IsLineFault n line (ReportRange m) = ⊥
IsLineFault n line Memory = Unit {0}

abbrev pub EndsGenerators : List ℕ → Type 0
EndsGenerators text = (text ≡ []) ⊎ ((k : Keyword) × IsAt k text)

pub record TakesGenerators (s : List Placed → Said) : Type 0 where
  pub adds : (n : ℕ) (line : List ℕ) (gens : List Placed) (g : Operation) → IsOfSort line triplet → IsTextOf line g
      → Adds n line (s gens) (s (gens ++ placed_at n g ∷ []))
  pub may_stand : (gens : List Placed) → MayStand (s gens) triplet

pub record AreRead (gens : List GenLine) (n : ℕ) (text : List ℕ) (m : ℕ) (left : List ℕ) : Type 0 where
  pub reached : (bytes : List ℕ) (s : List Placed → Said) → TakesGenerators s → Reaches bytes (s []) n text → Reaches bytes (s (placed gens)) m left

pub record IsGeneratorFault (n : ℕ) (text : List ℕ) (e : InputError) : Type 0 where
  pub fault : (bytes : List ℕ) (s : List Placed → Said) → TakesGenerators s → Reaches bytes (s []) n text → IsInputFault bytes e

abbrev pub Needs : Said → Keyword → Type 0
Needs (group gens) k = ⊥
Needs (begun gens) k = k ≡ Basis
Needs (based gens n P) k = k ≡ Origin
Needs (complete gens sub) k = ⊥

pub record IsNeeded (k : Keyword) (n : ℕ) (text line : List ℕ) (m : ℕ) (left : List ℕ) : Type 0 where
  pub before : ℕ
  pub rest : List ℕ
  pub reached : (bytes : List ℕ) (s : Said) → Reaches bytes s n text → Reaches bytes s before rest
  pub is_first : IsFirstLine rest line left
  pub begins : Begins k line
  pub number : m ≡ suc before

pub record IsNeedFault (k : Keyword) (n : ℕ) (text : List ℕ) (e : InputError) : Type 0 where
  pub fault : (bytes : List ℕ) (s : Said) → Needs s k → Reaches bytes s n text → IsInputFault bytes e

pub record IsSettingRead (n : ℕ) (text : List ℕ) (line : ℕ) (setting : Setting) (m : ℕ) (left : List ℕ) : Type 0 where
  pub reached : (bytes : List ℕ) (gens : List Placed) → Reaches bytes (begun gens) n text
      → Reaches bytes (complete gens (setting_at line (basis setting) (origin setting))) m left

pub record IsSettingFault (n : ℕ) (text : List ℕ) (e : InputError) : Type 0 where
  pub fault : (bytes : List ℕ) (gens : List Placed) → Reaches bytes (begun gens) n text → IsInputFault bytes e

pub record IsSubRead (n : ℕ) (text : List ℕ) (sub : Option SubSpec) (m : ℕ) (left : List ℕ) : Type 0 where
  pub reached : (bytes : List ℕ) (gens : List Placed) → Reaches bytes (group gens) n text → Reaches bytes (whole gens (sub_content sub)) m left

pub record IsSubFault (n : ℕ) (text : List ℕ) (e : InputError) : Type 0 where
  pub fault : (bytes : List ℕ) (gens : List Placed) → Reaches bytes (group gens) n text → IsInputFault bytes e

abbrev pub IsStopped : Said → List ℕ → Type 0
IsStopped s text = (text ≡ []) ⊎ (IsAt Report text ⊎ ((k : Keyword) × IsAt k text × ¬ (MayStand s (section k))))

pub record StopsBehind (sub : Option SubSpec) (text : List ℕ) : Type 0 where
  pub stopped : (gens : List Placed) → IsStopped (whole gens (sub_content sub)) text

pub record IsEndFault (n : ℕ) (text : List ℕ) (e : InputError) : Type 0 where
  pub fault : (bytes : List ℕ) (s : Said) → MayEnd s → IsStopped s text → Reaches bytes s n text → IsInputFault bytes e
