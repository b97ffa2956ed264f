-- Reading a subgroup section and the end of an input.
--   at_first                          a text that begins with a word has it in its first line
--   setting_read, setting_faults      the lines of a setting
--   sub_read, sub_faults              the lines of a section
--   none_read_of_sub, stops_behind    behind the generators, or behind a section
--   end_faults                        what may not follow
use Rattle.std.proofs.Common.{◌≡◌, refl, sym, ap, subst, ℕ, ℤ, suc, ◌+◌, ◌<◌, List, length, inl, inr, Some, None, arith}
use Rattle.irr_lines.specs.Lines.{IsFirstLine}
use Rattle.irr_lines.proofs.FirstLines.{first_unique}
use Rattle.irr_setting.specs.Setting.{basis_of, basis, origin}
use Rattle.irr_setting.specs.declared.setting.Setting.{Setting}
use Rattle.irr_setting_text.specs.SettingFault.{IsBasisText, IsBasisFault, IsOriginText, IsOriginFault}
use Rattle.irr_input.specs.declared.keyword.Keyword.{Keyword}
use Rattle.irr_input.specs.declared.keyword.Keyword.TheVariants.{Subgroup, Basis, Origin, Report as ReportWord}
use Rattle.irr_input.specs.declared.input.SubSpec.{SubSpec}
use Rattle.irr_input.specs.declared.input.Reason.{Reason}
use Rattle.irr_input.specs.declared.input.Reason.TheVariants.{Shape}
use Rattle.irr_input.specs.declared.input.InputError.{InputError}
use Rattle.irr_input.specs.declared.input.InputError.TheVariants.{Bad, Memory, ReportRange}
use Rattle.irr_input.specs.SectionLines.{Begins, IsSubgroupText, HasSubgroupFault, HasSettingFault}
use Rattle.irr_input.specs.SectionLines.LineSort.{section}
use Rattle.irr_input.specs.Stages.{Placed, SubContent, setting_at, Said, MayStand, Reaches}
use Rattle.irr_input.specs.Stages.Said.{group, begun, based, complete}
use Rattle.irr_input.specs.Stages.Adds.{generator, subgroup, basis as basis_line, origin as origin_line, sub_generator}
use Rattle.irr_input.specs.Stages.Reaches.{more}
use Rattle.irr_input.specs.Stages.IsWrong.{misplaced}
use Rattle.irr_input.specs.InputLines.{content_of_sub, IsAt, IsFaultyLine, IsInputFault}
use Rattle.irr_input.specs.InputLines.IsFaultAt.{wrong, in_report}
use Rattle.irr_input.specs.LineReading.{AreRead, EndsGenerators, TakesGenerators, IsGeneratorFault, IsNeeded, IsNeedFault, IsSettingRead, IsSettingFault, IsSubRead, IsSubFault, IsStopped, StopsBehind, IsEndFault}
use Rattle.irr_input.specs.SectionReading.{IsSectionFault}
use Rattle.irr_input.proofs.SectionWords.{sort_unique}
use Rattle.irr_input.proofs.LineReadings.{own_fault}

-- an error at a line, for a reason of which P tells
abbrev pub IsErrorAt : ℕ → (Reason → Type 0) → InputError → Type 0
IsErrorAt n P e = (reason : Reason) × (e ≡ Bad n reason) × P reason

error_fault : (bytes : List ℕ) (n : ℕ) (P : Reason → Type 0) (e : InputError) → IsErrorAt n P e → ((reason : Reason) → P reason → IsFaultyLine bytes n reason) → IsInputFault bytes e
error_fault bytes n P e h f = subst (IsInputFault bytes) (sym h.1) (f h.0 h.2)

-- the lines of a setting

basis_added : (n m : ℕ) (text line left : List ℕ) (num : List (List ℤ)) (den : ℕ) → IsNeeded Basis n text line m left → IsBasisText line num den
    → (bytes : List ℕ) (gens : List Placed) → Reaches bytes (begun gens) n text → Reaches bytes (based gens m (basis_of num den)) m left
basis_added n m text line left num den h t bytes gens r =
    subst (λ i. Reaches bytes (based gens i (basis_of num den)) i left) (sym h.number) (more (h.reached bytes (begun gens) r) h.is_first (basis_line num den h.begins t))

pub setting_read : (n m k : ℕ) (text line left other behind : List ℕ) (s : Setting) → IsNeeded Basis n text line m left → IsBasisText line s.num s.den → IsNeeded Origin m left other k behind
    → IsOriginText other s.shift → IsSettingRead n text m s k behind
setting_read n m k text line left other behind s h t g o = record {
  reached = λ bytes gens r.
      let first : Reaches bytes (based gens m (basis_of s.num s.den)) m left = basis_added n m text line left s.num s.den h t bytes gens r in
      subst (λ i. Reaches bytes (complete gens (setting_at m (basis s) (origin s))) i behind) (sym g.number)
      (more (g.reached bytes (based gens m (basis_of s.num s.den)) first) g.is_first (origin_line s.shift g.begins o));
}

pub basis_missing : (n : ℕ) (text : List ℕ) (e : InputError) → IsNeedFault Basis n text e → IsSettingFault n text e
basis_missing n text e h = record { fault = λ bytes gens r. h.fault bytes (begun gens) refl r }

pub basis_faulty : (n m : ℕ) (text line left : List ℕ) (e : InputError) → IsNeeded Basis n text line m left → IsErrorAt m (HasSettingFault IsBasisFault line) e → IsSettingFault n text e
basis_faulty n m text line left e h f = record {
  fault = λ bytes gens r. error_fault bytes m (HasSettingFault IsBasisFault line) e f
      (λ reason own. own_fault bytes (begun gens) h.before m h.rest line left (section Basis) reason (h.reached bytes (begun gens) r) h.is_first h.begins tt own h.number);
}

pub origin_missing : (n m : ℕ) (text line left : List ℕ) (num : List (List ℤ)) (den : ℕ) (e : InputError) → IsNeeded Basis n text line m left → IsBasisText line num den
    → IsNeedFault Origin m left e → IsSettingFault n text e
origin_missing n m text line left num den e h t f = record {
  fault = λ bytes gens r. f.fault bytes (based gens m (basis_of num den)) refl (basis_added n m text line left num den h t bytes gens r);
}

pub origin_faulty : (n m k : ℕ) (text line left other behind : List ℕ) (num : List (List ℤ)) (den : ℕ) (e : InputError) → IsNeeded Basis n text line m left → IsBasisText line num den
    → IsNeeded Origin m left other k behind → IsErrorAt k (HasSettingFault IsOriginFault other) e → IsSettingFault n text e
origin_faulty n m k text line left other behind num den e h t g f = record {
  fault = λ bytes gens r.
      let s : Said = based gens m (basis_of num den) in
      error_fault bytes k (HasSettingFault IsOriginFault other) e f
      (λ reason own. own_fault bytes s g.before k g.rest other behind (section Origin) reason (g.reached bytes s (basis_added n m text line left num den h t bytes gens r)) g.is_first g.begins tt own g.number);
}

-- the lines of a section

pub at_first : (k : Keyword) (text line behind : List ℕ) → IsAt k text → IsFirstLine text line behind → Begins k line
at_first k text line behind a f = subst (Begins k) (first_unique text a.line a.behind line behind a.is_first f).0 a.begins

pub group_takes : TakesGenerators (λ gens. group gens)
group_takes = record { adds = λ n line gens g is t. generator g is t; may_stand = λ gens. tt }

with_gens : ℕ → Setting → List Placed → SubContent
with_gens n s gens = record { line = n; basis = basis s; origin = origin s; gens = gens }

complete_takes : (gens : List Placed) (n : ℕ) (s : Setting) → TakesGenerators (λ more. complete gens (with_gens n s more))
unfolding with_gens
complete_takes gens n s = record { adds = λ m line others g is t. sub_generator g is t; may_stand = λ others. tt }

subgroup_added : (n m : ℕ) (text line left : List ℕ) → IsFirstLine text line left → Begins Subgroup line → IsSubgroupText line → m ≡ n + 1
    → (bytes : List ℕ) (gens : List Placed) → Reaches bytes (group gens) n text → Reaches bytes (begun gens) m left
subgroup_added n m text line left f b t e bytes gens r =
    subst (λ i. Reaches bytes (begun gens) i left) (let same : suc n ≡ m = omega (arith, e) in same) (more r f (subgroup b t))

pub sub_read : (n m k l : ℕ) (text line left behind rest : List ℕ) (sub : SubSpec) → IsFirstLine text line left → Begins Subgroup line → IsSubgroupText line → m ≡ n + 1
    → IsSettingRead m left sub.line sub.setting k behind → AreRead sub.gens.items k behind l rest → IsSubRead n text (Some sub) l rest
unfolding with_gens
sub_read n m k l text line left behind rest sub f b t e h a = record {
  reached = λ bytes gens r. a.reached bytes (λ others. complete gens (with_gens sub.line sub.setting others)) (complete_takes gens sub.line sub.setting)
      (h.reached bytes gens (subgroup_added n m text line left f b t e bytes gens r));
}

pub subgroup_faulty : (n m : ℕ) (text line left : List ℕ) (e : InputError) → IsFirstLine text line left → Begins Subgroup line → m ≡ n + 1 → IsErrorAt m (HasSubgroupFault line) e → IsSubFault n text e
subgroup_faulty n m text line left e f b c h = record {
  fault = λ bytes gens r. error_fault bytes m (HasSubgroupFault line) e h
      (λ reason own. own_fault bytes (group gens) n m text line left (section Subgroup) reason r f b tt own (let same : m ≡ suc n = omega (arith, c) in same));
}

pub setting_faulty : (n m : ℕ) (text line left : List ℕ) (e : InputError) → IsFirstLine text line left → Begins Subgroup line → IsSubgroupText line → m ≡ n + 1 → IsSettingFault m left e → IsSubFault n text e
setting_faulty n m text line left e f b t c h = record { fault = λ bytes gens r. h.fault bytes gens (subgroup_added n m text line left f b t c bytes gens r) }

pub sub_generator_faulty : (n m k j : ℕ) (text line left behind : List ℕ) (s : Setting) (e : InputError) → IsFirstLine text line left → Begins Subgroup line → IsSubgroupText line → m ≡ n + 1
    → IsSettingRead m left j s k behind → IsGeneratorFault k behind e → IsSubFault n text e
unfolding with_gens
sub_generator_faulty n m k j text line left behind s e f b t c h g = record {
  fault = λ bytes gens r. g.fault bytes (λ others. complete gens (with_gens j s others)) (complete_takes gens j s)
      (h.reached bytes gens (subgroup_added n m text line left f b t c bytes gens r));
}

-- behind generators, and behind a section

pub no_sub : (n : ℕ) (text : List ℕ) → IsSubRead n text None n text
no_sub n text = record { reached = λ bytes gens r. r }

stop_kind : (gens : List Placed) (k : Keyword) (text : List ℕ) → ¬ (IsAt Subgroup text) → IsAt k text → IsStopped (group gens) text
stop_kind gens Subgroup text none a = absurd (none a)
stop_kind gens Basis text none a = inr (inr (Basis, a, λ m. m))
stop_kind gens Origin text none a = inr (inr (Origin, a, λ m. m))
stop_kind gens ReportWord text none a = inr (inl a)

stopped_before : (gens : List Placed) (text : List ℕ) → ¬ (IsAt Subgroup text) → EndsGenerators text → IsStopped (group gens) text
stopped_before gens text none (inl e) = inl e
stopped_before gens text none (inr h) = stop_kind gens h.0 text none h.1

pub stops_before : (text : List ℕ) → ¬ (IsAt Subgroup text) → EndsGenerators text → StopsBehind None text
stops_before text none h = record { stopped = λ gens. stopped_before gens text none h }

stop_sub : (gens : List Placed) (sub : SubContent) (k : Keyword) (text : List ℕ) → IsAt k text → IsStopped (complete gens sub) text
stop_sub gens sub Subgroup text a = inr (inr (Subgroup, a, λ m. m))
stop_sub gens sub Basis text a = inr (inr (Basis, a, λ m. m))
stop_sub gens sub Origin text a = inr (inr (Origin, a, λ m. m))
stop_sub gens sub ReportWord text a = inr (inl a)

stopped_behind : (gens : List Placed) (sub : SubContent) (text : List ℕ) → EndsGenerators text → IsStopped (complete gens sub) text
stopped_behind gens sub text (inl e) = inl e
stopped_behind gens sub text (inr h) = stop_sub gens sub h.0 text h.1

pub stops_behind : (sub : SubSpec) (text : List ℕ) → EndsGenerators text → StopsBehind (Some sub) text
stops_behind sub text h = record { stopped = λ gens. stopped_behind gens (content_of_sub sub) text h }

-- at the end

misplaced_line : (bytes : List ℕ) (s : Said) (n m : ℕ) (text : List ℕ) → 0 < length text → ¬ (IsAt ReportWord text) → IsStopped s text → Reaches bytes s n text → m ≡ n + 1
    → IsFaultyLine bytes m (Shape 0)
misplaced_line bytes s n m text some none (inl e) r c = absurd (let l : length text ≡ 0 = ap length e in omega (arith, some, l))
misplaced_line bytes s n m text some none (inr h) r c = elim h [
  | inl a ↦ absurd (none a)
  | inr k ↦ record {
    comes = record {
      said = s;
      number = n;
      rest = text;
      reached = r;
      at_end = wrong k.1.line k.1.behind k.1.is_first
          (misplaced (λ a is may. k.2 (subst (MayStand s) (sort_unique k.1.line a (section k.0) is k.1.begins) may)) refl) (let same : m ≡ suc n = omega (arith, c) in same);
    };
  }
]

pub end_misplaced : (n m : ℕ) (text : List ℕ) → 0 < length text → ¬ (IsAt ReportWord text) → m ≡ n + 1 → IsEndFault n text (Bad m (Shape 0))
end_misplaced n m text some none c = record { fault = λ bytes s may stopped r. misplaced_line bytes s n m text some none stopped r c }

pub report_faulty : (n : ℕ) (text : List ℕ) (e : InputError) → IsAt ReportWord text → IsSectionFault n text e → IsEndFault n text e
report_faulty n text Memory a h = record { fault = λ bytes s may stopped r. tt }
report_faulty n text (ReportRange k) a h = record {
  fault = λ bytes s may stopped r. record {
    comes = record { said = s; number = n; rest = text; reached = r; at_end = record { may_end = may; begins = a; place = h.0; passes = h.2; is_place = h.1 } };
  };
}
report_faulty n text (Bad k reason) a h = record {
  fault = λ bytes s may stopped r. record { comes = record { said = s; number = n; rest = text; reached = r; at_end = in_report h.1 may a h.3 h.2 h.0 } };
}
