-- The texts of lines from their parts.
--   values_none, values_step, values_rows_none, values_rows, values_rows_all     numbers that are appended one after another, and row by row
--   matrix-parts          the parts of the line of a matrix
--   head_regroup, head-parts     the lines before those of the operations
--   report-parts          the parts of a report
use Rattle.std.proofs.Common.{◌≡◌, sym, ◌∙◌, ap, ℕ, ◌+◌, ◌*◌, ◌<◌, ◌≤◌, List, [], ◌∷◌, ◌++◌, append_assoc, append-nil, length, get_or, take, drop, zero-mul, arith}
use native.Mathlib.Nat as Nat
use Rattle.std.specs.Prelude.{codes}
use Rattle.std.specs.Fmt.{decimal}
use Rattle.std.proofs.lemmas.List.{take_all}
use Rattle.irr_number.specs.Number.{Number}
use Rattle.irr_text.specs.ReportText.{line, next_word}
use Rattle.irr_cyc.specs.declared.scalars.Scalar.{Ghosts}
use Rattle.irr_report.specs.declared.report.Report.{Report}
use Rattle.irr_report.specs.Printed.{value_word, values_text, numbered, head_text, operation_text, representation_text, printed_report}
use Rattle.irr_report.proofs.Pieces.{flat_map_step, rows_step}

module _ {S : Type 0} (order : S → ℕ) (value : (n : ℕ) → S → Number n) (before : List ℕ) where
  pub values_none : before ≡ before ++ values_text order value []
  unfolding values_text
  values_none = sym (append-nil before)

  pub values_step : (text : List ℕ) (xs : List S) (i : ℕ) (x : S) → i < length xs → x ≡ get_or xs i x
      → text ≡ before ++ values_text order value (take i xs)
      → text ++ value_word order value x ≡ before ++ values_text order value (take (i + 1) xs)
  unfolding values_text
  values_step text xs i x lt is t = flat_map_step (value_word order value) before text xs i x lt is t

  pub values_rows_none : (xs : List S) (c : ℕ) → before ≡ before ++ values_text order value (take (0 * c) xs)
  values_rows_none xs c = values_none ∙ ap (λ k. before ++ values_text order value (take k xs)) (sym (zero-mul c))

  pub values_rows : (text : List ℕ) (xs : List S) (i c : ℕ) → text ≡ before ++ values_text order value (take (i * c) xs)
      → text ++ values_text order value (take c (drop (i * c) xs)) ≡ before ++ values_text order value (take ((i + 1) * c) xs)
  unfolding values_text
  values_rows text xs i c t = rows_step (value_word order value) before text xs i c t

  pub values_rows_all : (text : List ℕ) (xs : List S) (i r c : ℕ) → length xs ≡ r * c → r ≤ i
      → text ≡ before ++ values_text order value (take (i * c) xs)
      → text ≡ before ++ values_text order value xs
  values_rows_all text xs i r c e le t = t ∙ ap (λ ys. before ++ values_text order value ys) (take_all (i * c) xs short)
    where
      same : c ≤ c
      same = omega arith

      more : r * c ≤ i * c
      more = Nat.mul-le-mul le same

      short : length xs ≤ i * c
      short = omega (arith, e, more)

pub matrix-parts : (before k t : List ℕ) → ((before ++ (codes "mat " ++ k)) ++ t) ++ 10 ∷ [] ≡ before ++ line (codes "mat" ++ next_word k ++ t)
matrix-parts before k t = simp append_assoc

pub head_regroup : (r w o p l a n h : List ℕ) → r ++ (w ++ (a ++ (l ++ (o ++ (n ++ (l ++ (p ++ (h ++ l))))))))
    ≡ ((r ++ ((w ++ a) ++ l)) ++ ((o ++ n) ++ l)) ++ ((p ++ h) ++ l)
head_regroup r w o p l a n h = simp append_assoc

pub head-parts : (w n h : List ℕ) → codes "report 1\nwave " ++ (w ++ (codes "\norder " ++ (n ++ (codes "\nops " ++ (h ++ codes "\n")))))
    ≡ line (codes "report 1") ++ line (codes "wave" ++ next_word w) ++ line (codes "order" ++ next_word n) ++ line (codes "ops" ++ next_word h)
head-parts w n h = head_regroup (codes "report 1\n") (codes "wave ") (codes "order ") (codes "ops ") (10 ∷ []) w n h

report_regroup : (a b r c l d e : List ℕ) → (((a ++ b) ++ (r ++ (c ++ l))) ++ d) ++ e ≡ (((a ++ b) ++ ((r ++ c) ++ l)) ++ d) ++ e
report_regroup a b r c l d e = simp append_assoc

module _ {S : Type 0} {G : Ghosts S} (r : Report S G) (head operations count representations text : List ℕ) where
  pub report-parts : head ≡ head_text r.wave r.order (length r.ops.items) → operations ≡ head ++ numbered operation_text 1 r.ops.items
      → count ≡ operations ++ (codes "reps " ++ (decimal (length r.reps.items) ++ codes "\n"))
      → representations ≡ count ++ numbered (representation_text {G = G}) 1 r.reps.items → text ≡ representations ++ codes "end\n"
      → text ≡ printed_report r
  unfolding printed_report
  report-parts h o c m e = e ∙ ap (λ x. x ++ codes "end\n") (m ∙ ap (λ x. x ++ numbered (representation_text {G = G}) 1 r.reps.items)
      (c ∙ ap (λ x. x ++ (codes "reps " ++ (decimal (length r.reps.items) ++ codes "\n"))) (o
      ∙ ap (λ x. x ++ numbered operation_text 1 r.ops.items) h)))
      ∙ report_regroup (head_text r.wave r.order (length r.ops.items)) (numbered operation_text 1 r.ops.items) (codes "reps ")
      (decimal (length r.reps.items)) (10 ∷ [])
      (numbered (representation_text {G = G}) 1 r.reps.items) (codes "end\n")
