-- How many lines a text has.
--   CountedSoFar text rest n     the lines of the text are n, and then those of the rest
--   none_counted, one_counted, all_counted     no line is counted, one more, and all
--   no_line                      no text is empty and has a first line
--   reached_lines                lines that are read, and those of the rest
--   few_lines                    there are no more lines than bytes
--   fits_behind                  the line of a fault in a report, counted with the lines before it
use Rattle.std.proofs.Common.{◌≡◌, ◌≢◌, refl, sym, ◌∙◌, ap, subst, ℕ, zero, suc, ◌+◌, ◌<◌, ◌≤◌, ◌^◌, List, [], ◌∷◌, length, take, arith}
use Rattle.std.proofs.lemmas.List.{length-take-le, nil_from_length}
use Rattle.irr_lines.specs.Lines.{IsFirstLine, AreLines}
use Rattle.irr_lines.specs.Lines.IsFirstLine.{ended, unended}
use Rattle.irr_lines.specs.Lines.AreLines.{none as no_lines, more as more_lines}
use Rattle.irr_lines.proofs.FirstLines.{rest_shorter}
use Rattle.irr_report.specs.ReportLines.{report_lines}
use Rattle.irr_report.specs.ReportFault.{IsLineFault, IsRangeFault, IsFault}
use Rattle.irr_report.specs.declared.report.ReportError.{ReportError}
use Rattle.irr_report.specs.declared.report.ReportError.TheVariants.{Line, Range, Memory}
use Rattle.irr_input.specs.Stages.{Said, Reaches}
use Rattle.irr_input.specs.Stages.Reaches.{start, more}
use Rattle.irr_input.specs.InputLines.{HasLines}
use Rattle.irr_input.specs.SectionReading.{FitsBehind}

pub record CountedSoFar (text rest : List ℕ) (n : ℕ) : Type 0 where
  pub continued : (m : ℕ) → HasLines rest m → HasLines text (n + m)

pub none_counted : (text : List ℕ) → CountedSoFar text text 0
none_counted text = record { continued = λ m h. subst (HasLines text) (let same : m ≡ 0 + m = omega arith in same) h }

first_counted : (text line rest : List ℕ) (m : ℕ) → IsFirstLine text line rest → HasLines rest m → HasLines text (suc m)
first_counted text line rest m f h = record { lines = line ∷ h.lines; are_lines = more_lines f h.are_lines; count = ap suc h.count }

pub one_counted : (text rest line behind : List ℕ) (n k : ℕ) → CountedSoFar text rest n → IsFirstLine rest line behind → k ≡ n + 1 → CountedSoFar text behind k
one_counted text rest line behind n k c f e = record {
  continued = λ m h. subst (HasLines text) (let same : n + suc m ≡ k + m = omega (arith, e) in same) (c.continued (suc m) (first_counted rest line behind m f h));
}

pub all_counted : (text rest : List ℕ) (n : ℕ) → CountedSoFar text rest n → length rest ≡ 0 → HasLines text n
all_counted text rest n c e =
    let no_line : AreLines rest [] = subst (λ t. AreLines t []) (sym (nil_from_length rest e)) no_lines in
    subst (HasLines text) (let same : n + 0 ≡ n = omega arith in same) (c.continued 0 (record { lines = []; are_lines = no_line; count = refl }))

pub reached_lines : {bytes rest : List ℕ} {s : Said} {n : ℕ} → Reaches bytes s n rest → (m : ℕ) → HasLines rest m → HasLines bytes (n + m)
reached_lines {bytes = bytes} start m h = subst (HasLines bytes) (let same : m ≡ 0 + m = omega arith in same) h
reached_lines {bytes = bytes} (more {n = n} {rest = rest} {line = line} {behind = behind} r f a) m h =
    subst (HasLines bytes) (let same : n + suc m ≡ suc n + m = omega arith in same) (reached_lines r (suc m) (first_counted rest line behind m f h))

some_bytes : (text : List ℕ) → text ≢ [] → 0 < length text
some_bytes [] some = absurd (some refl)
some_bytes (x ∷ text) some = omega arith

pub shorter : (text line rest : List ℕ) → IsFirstLine text line rest → length rest < length text
shorter text line rest (ended before e all content) = rest_shorter text before rest e
shorter text line rest (unended some all e r) = omega (arith, ap length r, some_bytes text some)

pub no_line : (text line rest : List ℕ) → length text ≡ 0 → IsFirstLine text line rest → ⊥
no_line text line rest e f = omega (arith, e, shorter text line rest f)

pub few_lines : {text : List ℕ} {lines : List (List ℕ)} → AreLines text lines → length lines ≤ length text
few_lines no_lines = omega arith
few_lines (more_lines {text = text} {line = line} {rest = rest} f r) = let few = few_lines r in omega (arith, few, shorter text line rest f)

-- a front of this length needs so many items
long_enough : {A : Type 0} (n : ℕ) (xs : List A) → length (take n xs) ≡ n → n ≤ length xs
long_enough zero xs e = omega arith
long_enough (suc n) [] e = absurd (omega (arith, e))
long_enough (suc n) (x ∷ xs) e = let rest : n ≤ length xs = long_enough n xs (let f : length (take n xs) ≡ n = omega (arith, e) in f) in omega arith

line_within : (lines : List (List ℕ)) (n : ℕ) → IsLineFault lines n → n ≤ length lines + 1
line_within lines n h = omega (arith, h.number, h.first.within)

range_within : (lines : List (List ℕ)) (n : ℕ) → IsRangeFault lines n → n ≤ length lines + 1
range_within lines n h =
    let p = h.passes in
    let long : suc h.place ≤ length lines = long_enough (suc h.place) lines (ap length p.begins ∙ length-take-le (suc h.place) (report_lines p.written) p.within) in
    omega (arith, h.number, long)

pub fits_behind : (before : ℕ) (text : List ℕ) (e : ReportError) → before + length text + 1 < 2 ^ 64 → IsFault text e → FitsBehind before e
fits_behind before text (Line n) fits h = omega (arith, fits, few_lines h.1, line_within h.0 n h.2)
fits_behind before text (Range n) fits h = omega (arith, fits, few_lines h.1, range_within h.0 n h.2)
fits_behind before text Memory fits h = tt
