-- Bytes are one input, or have one first line that is faulty or passes a limit, and never two of these.
--   input_unique, faulty_line_unique, limit_line_unique     one input, one faulty line, one line that passes a limit
--   input_or_fault, input_or_limit, fault_or_limit          never two of these
--   only_memory, same_error, same_limit                     what an error leaves open
--   matched                                                 what is said of a result in both cases
use Rattle.std.proofs.Common.{◌≡◌, refl, sym, ◌∙◌, ap, ap₂, subst, ℕ, ◌+◌, List, [], length, Option, Some, None, ◌⊎◌, inl, inr, Result, Ok, Err, IfOk, IfErr, MatchResult}
use Rattle.irr_lines.specs.Lines.{IsFirstLine}
use Rattle.irr_lines.proofs.AllLines.{lines_unique}
use Rattle.irr_lines.proofs.FirstLines.{first_unique}
use Rattle.irr_text.specs.ReportText.{ReportContent}
use Rattle.irr_report.specs.ReportFault.{IsReport, IsLineFault, IsRangeFault, IsReportText, IsFault}
use Rattle.irr_report.specs.declared.report.ReportError.TheVariants.{Line, Range as PassesLimit}
use Rattle.irr_report.proofs.OneReport.{one-report}
use Rattle.irr_report.proofs.OneAnswer.{read-or-line, read-or-range, line-or-range, one-line-fault, one-range-fault}
use Rattle.irr_input.specs.declared.keyword.Keyword.TheVariants.{Report as ReportWord}
use Rattle.irr_input.specs.declared.input.GenLine.{GenLine}
use Rattle.irr_input.specs.declared.input.Reason.{Reason}
use Rattle.irr_input.specs.declared.input.InputError.{InputError}
use Rattle.irr_input.specs.declared.input.InputError.TheVariants.{Bad, Memory, ReportRange}
use Rattle.irr_input.specs.SectionLines.{Begins}
use Rattle.irr_input.specs.Stages.{Placed, SubContent, Said, IsWrong}
use Rattle.irr_input.specs.Stages.Said.{group, begun, based, complete}
use Rattle.irr_input.specs.InputLines.{IsAt, Comes, IsRest, IsEnd, IsInput, IsFaultAt, IsLimitAt, IsFaultyLine, IsLimitLine, IsInputFault, MayEnd, whole, placed}
use Rattle.irr_input.specs.InputLines.IsFaultAt.{wrong, missing, in_report}
use Rattle.irr_input.proofs.LineCounts.{no_line}
use Rattle.irr_input.proofs.FirstFaults.{Halts, halts_once, wrong_or_adds, wrong_unique, report_adds, report_wrong}

-- texts of reports

report_or_line : (text : List ℕ) (r : ReportContent) (p : ℕ) → IsReportText text r → IsFault text (Line p) → ⊥
report_or_line text r p h f = read-or-line h.lines r p h.report (subst (λ ls. IsLineFault ls p) (lines_unique f.1 h.are_lines) f.2)

report_or_range : (text : List ℕ) (r : ReportContent) (p : ℕ) → IsReportText text r → IsFault text (PassesLimit p) → ⊥
report_or_range text r p h f = read-or-range h.lines r p h.report (subst (λ ls. IsRangeFault ls p) (lines_unique f.1 h.are_lines) f.2)

line_or_range : (text : List ℕ) (p q : ℕ) → IsFault text (Line p) → IsFault text (PassesLimit q) → ⊥
line_or_range text p q h f = line-or-range h.0 p q h.2 (subst (λ ls. IsRangeFault ls q) (lines_unique f.1 h.1) f.2)

line_once : (text : List ℕ) (p q : ℕ) → IsFault text (Line p) → IsFault text (Line q) → p ≡ q
line_once text p q h f = one-line-fault h.0 p q h.2 (subst (λ ls. IsLineFault ls q) (lines_unique f.1 h.1) f.2)

range_once : (text : List ℕ) (p q : ℕ) → IsFault text (PassesLimit p) → IsFault text (PassesLimit q) → p ≡ q
range_once text p q h f = one-range-fault h.0 p q h.2 (subst (λ ls. IsRangeFault ls q) (lines_unique f.1 h.1) f.2)

report_once : (text : List ℕ) (r q : ReportContent) → IsReportText text r → IsReportText text q → r ≡ q
report_once text r q h f = one-report h.lines r q h.report (subst (λ ls. IsReport ls q) (lines_unique f.are_lines h.are_lines) f.report)

-- where lines stop

empty_line : (rest line behind : List ℕ) → rest ≡ [] → IsFirstLine rest line behind → ⊥
empty_line rest line behind e f = no_line rest line behind (ap length e) f

empty_at : (rest : List ℕ) → rest ≡ [] → IsAt ReportWord rest → ⊥
empty_at rest e a = empty_line rest a.line a.behind e a.is_first

empty_halts : (s : Said) (rest : List ℕ) → rest ≡ [] → Halts s rest
empty_halts s rest e = record { stops = λ line behind f n t a. empty_line rest line behind e f }

report_begins : (rest line behind : List ℕ) → IsAt ReportWord rest → IsFirstLine rest line behind → Begins ReportWord line
report_begins rest line behind a f = subst (Begins ReportWord) (first_unique rest a.line a.behind line behind a.is_first f).0 a.begins

report_halts : (s : Said) (rest : List ℕ) → IsAt ReportWord rest → Halts s rest
report_halts s rest h = record { stops = λ line behind f n t a. report_adds n s t line (report_begins rest line behind h f) a }

wrong_halts : (s : Said) (rest line behind : List ℕ) (r : Reason) → IsFirstLine rest line behind → IsWrong s line r → Halts s rest
wrong_halts s rest line behind r f w = record {
  stops = λ other after g n t a. wrong_or_adds n s t other r (subst (λ l. IsWrong s l r) (first_unique rest line behind other after f g).0 w) a;
}

rest_halts : (s : Said) (rest : List ℕ) (report : Option ReportContent) → IsRest rest report → Halts s rest
rest_halts s rest None e = empty_halts s rest e
rest_halts s rest (Some r) h = report_halts s rest h.0

fault_halts : (m : ℕ) (r : Reason) (s : Said) (n : ℕ) (rest : List ℕ) → IsFaultAt m r s n rest → Halts s rest
fault_halts m r s n rest (wrong line behind f w e) = wrong_halts s rest line behind r f w
fault_halts m r s n rest (missing e never i j) = empty_halts s rest e
fault_halts m r s n rest (in_report p may a f i j) = report_halts s rest a

two_ends : (P Q : Said → ℕ → List ℕ → Type 0) (R : Type 0) → ((s : Said) (n : ℕ) (rest : List ℕ) → P s n rest → Halts s rest)
    → ((s : Said) (n : ℕ) (rest : List ℕ) → Q s n rest → Halts s rest) → ((s : Said) (n : ℕ) (rest : List ℕ) → P s n rest → Q s n rest → R)
    → (bytes : List ℕ) → Comes bytes P → Comes bytes Q → R
two_ends P Q R halt stop law bytes c d =
    let once = halts_once c.reached (halt c.said c.number c.rest c.at_end) d.reached (stop d.said d.number d.rest d.at_end) in
    law c.said c.number c.rest c.at_end (subst (λ rest. Q c.said c.number rest) (sym once.2)
    (subst (λ n. Q c.said n d.rest) (sym once.0) (subst (λ s. Q s d.number d.rest) (sym once.1) d.at_end)))

-- at one place

pub may_end : (gens : List Placed) (sub : Option SubContent) → MayEnd (whole gens sub)
may_end gens None = tt
may_end gens (Some sub) = tt

rest_once : (rest : List ℕ) (a b : Option ReportContent) → IsRest rest a → IsRest rest b → a ≡ b
rest_once rest None None h g = refl
rest_once rest None (Some b) h g = absurd (empty_at rest h g.0)
rest_once rest (Some a) None h g = absurd (empty_at rest g h.0)
rest_once rest (Some a) (Some b) h g = ap Some (report_once rest a b h.1 g.1)

rest_or_wrong : (s : Said) (rest : List ℕ) (report : Option ReportContent) (line behind : List ℕ) (r : Reason) → MayEnd s → IsRest rest report → IsFirstLine rest line behind → IsWrong s line r → ⊥
rest_or_wrong s rest None line behind r may e f w = empty_line rest line behind e f
rest_or_wrong s rest (Some c) line behind r may h f w = report_wrong s line r (report_begins rest line behind h.0 f) may w

rest_or_line : (rest : List ℕ) (report : Option ReportContent) (p : ℕ) → IsRest rest report → IsAt ReportWord rest → IsFault rest (Line p) → ⊥
rest_or_line rest None p e a f = empty_at rest e a
rest_or_line rest (Some c) p h a f = report_or_line rest c p h.1 f

rest_or_range : (rest : List ℕ) (report : Option ReportContent) (p : ℕ) → IsRest rest report → IsAt ReportWord rest → IsFault rest (PassesLimit p) → ⊥
rest_or_range rest None p e a f = empty_at rest e a
rest_or_range rest (Some c) p h a f = report_or_range rest c p h.1 f

rest_or_fault : (s : Said) (report : Option ReportContent) (m : ℕ) (r : Reason) (n : ℕ) (rest : List ℕ) → MayEnd s → IsRest rest report → IsFaultAt m r s n rest → ⊥
rest_or_fault s report m r n rest may h (wrong line behind f w e) = rest_or_wrong s rest report line behind r may h f w
rest_or_fault s report m r n rest may h (missing e never i j) = never may
rest_or_fault s report m r n rest may h (in_report p can a f i j) = rest_or_line rest report p h a f

fault_once : (m k : ℕ) (r q : Reason) (s : Said) (n : ℕ) (rest : List ℕ) → IsFaultAt m r s n rest → IsFaultAt k q s n rest → (m ≡ k) × (r ≡ q)
fault_once m k r q s n rest (wrong line behind f w e) (wrong other after g v i) =
    (e ∙ sym i, wrong_unique s other r q (subst (λ l. IsWrong s l r) (first_unique rest line behind other after f g).0 w) v)
fault_once m k r q s n rest (wrong line behind f w e) (missing none never i j) = absurd (empty_line rest line behind none f)
fault_once m k r q s n rest (wrong line behind f w e) (in_report p may a g i j) = absurd (report_wrong s line r (report_begins rest line behind a f) may w)
fault_once m k r q s n rest (missing none never i j) (wrong line behind f w e) = absurd (empty_line rest line behind none f)
fault_once m k r q s n rest (missing none never i j) (missing none' never' a b) = (i ∙ sym a, j ∙ sym b)
fault_once m k r q s n rest (missing none never i j) (in_report p may a g u v) = absurd (never may)
fault_once m k r q s n rest (in_report p may a f i j) (wrong line behind g w e) = absurd (report_wrong s line q (report_begins rest line behind a g) may w)
fault_once m k r q s n rest (in_report p may a f i j) (missing none never u v) = absurd (never may)
fault_once m k r q s n rest (in_report p may a f i j) (in_report o can b g u v) = (i ∙ ap (λ x. n + x) (line_once rest p o f g) ∙ sym u, j ∙ sym v)

fault_or_limit_at : (m k : ℕ) (r : Reason) (s : Said) (n : ℕ) (rest : List ℕ) → IsFaultAt m r s n rest → IsLimitAt k s n rest → ⊥
fault_or_limit_at m k r s n rest (wrong line behind f w e) l = report_wrong s line r (report_begins rest line behind l.begins f) l.may_end w
fault_or_limit_at m k r s n rest (missing none never i j) l = never l.may_end
fault_or_limit_at m k r s n rest (in_report p may a f i j) l = line_or_range rest p l.place f l.passes

-- what is said at an end

gens_of : Said → List Placed
gens_of (group gens) = gens
gens_of (begun gens) = gens
gens_of (based gens n P) = gens
gens_of (complete gens sub) = gens

sub_of : Said → Option SubContent
sub_of (group gens) = None
sub_of (begun gens) = None
sub_of (based gens n P) = None
sub_of (complete gens sub) = Some sub

whole_gens : (gens : List Placed) (sub : Option SubContent) → gens_of (whole gens sub) ≡ gens
unfolding gens_of
whole_gens gens None = refl
whole_gens gens (Some sub) = refl

whole_sub : (gens : List Placed) (sub : Option SubContent) → sub_of (whole gens sub) ≡ sub
unfolding sub_of
whole_sub gens None = refl
whole_sub gens (Some sub) = refl

whole_once : (gens others : List Placed) (sub other : Option SubContent) → whole gens sub ≡ whole others other → (gens ≡ others) × (sub ≡ other)
whole_once gens others sub other e =
    (sym (whole_gens gens sub) ∙ ap (λ s. gens_of s) e ∙ whole_gens others other, sym (whole_sub gens sub) ∙ ap (λ s. sub_of s) e ∙ whole_sub others other)

-- inputs, faulty lines, and lines that pass a limit

pub input_unique : (bytes : List ℕ) (gens others : List GenLine) (sub less : Option SubContent) (report other : Option ReportContent) → IsInput bytes gens sub report
    → IsInput bytes others less other → (placed gens ≡ placed others) × (sub ≡ less) × (report ≡ other)
input_unique bytes gens others sub less report other i j =
    two_ends (IsEnd (whole (placed gens) sub) report) (IsEnd (whole (placed others) less) other) ((placed gens ≡ placed others) × (sub ≡ less) × (report ≡ other))
    (λ s n rest h. rest_halts s rest report h.1) (λ s n rest h. rest_halts s rest other h.1)
    (λ s n rest h g. let both = whole_once (placed gens) (placed others) sub less (sym h.0 ∙ g.0) in (both.0, both.1, rest_once rest report other h.1 g.1)) bytes i.comes j.comes

pub input_or_fault : (bytes : List ℕ) (gens : List GenLine) (sub : Option SubContent) (report : Option ReportContent) (n : ℕ) (r : Reason) → IsInput bytes gens sub report
    → IsFaultyLine bytes n r → ⊥
input_or_fault bytes gens sub report m r i f =
    two_ends (IsEnd (whole (placed gens) sub) report) (IsFaultAt m r) ⊥ (λ s n rest h. rest_halts s rest report h.1) (fault_halts m r)
    (λ s n rest h g. rest_or_fault s report m r n rest (subst MayEnd (sym h.0) (may_end (placed gens) sub)) h.1 g) bytes i.comes f.comes

pub input_or_limit : (bytes : List ℕ) (gens : List GenLine) (sub : Option SubContent) (report : Option ReportContent) (n : ℕ) → IsInput bytes gens sub report → IsLimitLine bytes n → ⊥
input_or_limit bytes gens sub report m i f =
    two_ends (IsEnd (whole (placed gens) sub) report) (IsLimitAt m) ⊥ (λ s n rest h. rest_halts s rest report h.1) (λ s n rest h. report_halts s rest h.begins)
    (λ s n rest h g. rest_or_range rest report g.place h.1 g.begins g.passes) bytes i.comes f.comes

pub faulty_line_unique : (bytes : List ℕ) (m n : ℕ) (r s : Reason) → IsFaultyLine bytes m r → IsFaultyLine bytes n s → (m ≡ n) × (r ≡ s)
faulty_line_unique bytes m k r q f g = two_ends (IsFaultAt m r) (IsFaultAt k q) ((m ≡ k) × (r ≡ q)) (fault_halts m r) (fault_halts k q) (fault_once m k r q) bytes f.comes g.comes

pub limit_line_unique : (bytes : List ℕ) (m n : ℕ) → IsLimitLine bytes m → IsLimitLine bytes n → m ≡ n
limit_line_unique bytes m k f g =
    two_ends (IsLimitAt m) (IsLimitAt k) (m ≡ k) (λ s n rest h. report_halts s rest h.begins) (λ s n rest h. report_halts s rest h.begins)
    (λ s n rest h l. h.is_place ∙ ap (λ x. n + x) (range_once rest h.place l.place h.passes l.passes) ∙ sym l.is_place) bytes f.comes g.comes

pub fault_or_limit : (bytes : List ℕ) (m n : ℕ) (r : Reason) → IsFaultyLine bytes m r → IsLimitLine bytes n → ⊥
fault_or_limit bytes m k r f g = two_ends (IsFaultAt m r) (IsLimitAt k) ⊥ (fault_halts m r) (λ s n rest h. report_halts s rest h.begins) (fault_or_limit_at m k r) bytes f.comes g.comes

-- what an error leaves open

pub only_memory : (bytes : List ℕ) (e : InputError) (gens : List GenLine) (sub : Option SubContent) (report : Option ReportContent) → IsInputFault bytes e → IsInput bytes gens sub report → e ≡ Memory
only_memory bytes Memory gens sub report f i = refl
only_memory bytes (Bad n reason) gens sub report f i = absurd (input_or_fault bytes gens sub report n reason i f)
only_memory bytes (ReportRange n) gens sub report f i = absurd (input_or_limit bytes gens sub report n i f)

pub same_error : (bytes : List ℕ) (e : InputError) (n : ℕ) (reason : Reason) → IsInputFault bytes e → IsFaultyLine bytes n reason → (e ≡ Memory) ⊎ (e ≡ Bad n reason)
same_error bytes Memory n reason f g = inl refl
same_error bytes (Bad m r) n reason f g = let both = faulty_line_unique bytes m n r reason f g in inr (ap₂ (λ (k : ℕ) (s : Reason). Bad k s) both.0 both.1)
same_error bytes (ReportRange m) n reason f g = absurd (fault_or_limit bytes n m reason g f)

pub same_limit : (bytes : List ℕ) (e : InputError) (n : ℕ) → IsInputFault bytes e → IsLimitLine bytes n → (e ≡ Memory) ⊎ (e ≡ ReportRange n)
same_limit bytes Memory n f g = inl refl
same_limit bytes (Bad m r) n f g = absurd (fault_or_limit bytes m n r f g)
same_limit bytes (ReportRange m) n f g = inr (ap ReportRange (limit_line_unique bytes m n f g))

-- what a result leaves open

pub matched : {A : Type 0} {E : Type 0} (P R : A → Type 0) (Q S : E → Type 0) (r : Result A E) → ((a : A) → P a → R a) → ((e : E) → Q e → S e) → IfOk r P → IfErr r Q → MatchResult r R S
matched P R Q S (Ok a) f g h k = f a h
matched P R Q S (Err e) f g h k = g e k
