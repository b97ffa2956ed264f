-- The line of a faulty input: its literal pieces in one, and the column of a place.
use Rattle.std.proofs.Common.{◌≡◌, sym, subst, List, ℕ, ◌++◌, ◌∷◌, [], append_assoc, IfOk, string_bytes}
use Rattle.std.specs.Prelude.{codes}
use Rattle.std.specs.Fmt.{decimal}
use Rattle.irr_top.specs.RefusalText.{refusal_text}
use Rattle.irr_top.specs.declared.status.Status.TheVariants.{BadInput}
use Rattle.irr_top.proofs.refusal.bad_line.Goals as goal

regroup : (p a s y n : List ℕ) → p ++ (a ++ (s ++ (y ++ n))) ≡ p ++ a ++ s ++ y ++ n
regroup p a s y n = simp append_assoc

-- the pieces in one grouping and in the other
shape_pieces : (a b : List ℕ) → codes "bad input line " ++ (a ++ (codes ": shape " ++ (b ++ 10 ∷ []))) ≡ codes "bad input line " ++ a ++ codes ": " ++
    (codes "shape " ++ b) ++ 10 ∷ []
shape_pieces a b = regroup (codes "bad input line ") a (codes ": ") (codes "shape " ++ b) (10 ∷ [])

zero_pieces : (a b : List ℕ) → codes "bad input line " ++ (a ++ (codes ": zero " ++ (b ++ 10 ∷ []))) ≡ codes "bad input line " ++ a ++ codes ": " ++
    (codes "zero " ++ b) ++ 10 ∷ []
zero_pieces a b = regroup (codes "bad input line ") a (codes ": ") (codes "zero " ++ b) (10 ∷ [])

range_pieces : (a b : List ℕ) → codes "bad input line " ++ (a ++ (codes ": range " ++ (b ++ 10 ∷ []))) ≡ codes "bad input line " ++ a ++ codes ": " ++
    (codes "range " ++ b) ++ 10 ∷ []
range_pieces a b = regroup (codes "bad input line ") a (codes ": ") (codes "range " ++ b) (10 ∷ [])

determinant_pieces : (a : List ℕ) → codes "bad input line " ++ (a ++ codes ": determinant\n") ≡ codes "bad input line " ++ a ++ codes ": " ++
    codes "determinant" ++ 10 ∷ []
determinant_pieces a = regroup (codes "bad input line ") a (codes ": ") (codes "determinant") (10 ∷ [])

missing_pieces : (a : List ℕ) → codes "bad input line " ++ (a ++ codes ": missing\n") ≡ codes "bad input line " ++ a ++ codes ": " ++
    codes "missing" ++ 10 ∷ []
missing_pieces a = regroup (codes "bad input line ") a (codes ": ") (codes "missing") (10 ∷ [])

report_pieces : (a : List ℕ) → codes "bad input line " ++ (a ++ codes ": report\n") ≡ codes "bad input line " ++ a ++ codes ": " ++
    codes "report" ++ 10 ∷ []
report_pieces a = regroup (codes "bad input line ") a (codes ": ") (codes "report") (10 ∷ [])

singular_pieces : (a : List ℕ) → codes "bad input line " ++ (a ++ codes ": singular\n") ≡ codes "bad input line " ++ a ++ codes ": " ++
    codes "singular" ++ 10 ∷ []
singular_pieces a = regroup (codes "bad input line ") a (codes ": ") (codes "singular") (10 ∷ [])

outside_pieces : (a : List ℕ) → codes "bad input line " ++ (a ++ codes ": not in group\n") ≡ codes "bad input line " ++ a ++ codes ": " ++
    codes "not in group" ++ 10 ∷ []
outside_pieces a = regroup (codes "bad input line ") a (codes ": ") (codes "not in group") (10 ∷ [])

pub returns-in-Shape : goal.returns-in-Shape
returns-in-Shape c =
    subst (λ r. IfOk c.format.result (λ s. string_bytes s ≡ refusal_text (BadInput c.args.line r))) (sym c.in-Shape.is)
    (subst (λ n. IfOk c.format.result (λ s. string_bytes s ≡ codes "bad input line " ++ decimal c.args.line ++ codes ": " ++ (codes "shape " ++ decimal n) ++ 10 ∷ []))
    c.column_of-column.ensures
    (subst (λ text. IfOk c.format.result (λ s. string_bytes s ≡ text)) (shape_pieces (decimal c.args.line) (decimal c.column_of-column.result))
    c.format.ensures.ok))

pub returns-in-Zero : goal.returns-in-Zero
returns-in-Zero c =
    subst (λ r. IfOk c.format-in-Zero.result (λ s. string_bytes s ≡ refusal_text (BadInput c.args.line r))) (sym c.in-Zero.is)
    (subst (λ n. IfOk c.format-in-Zero.result (λ s. string_bytes s ≡ codes "bad input line " ++ decimal c.args.line ++ codes ": " ++ (codes "zero " ++ decimal n) ++ 10 ∷ []))
    c.column_of-column-in-Zero.ensures
    (subst (λ text. IfOk c.format-in-Zero.result (λ s. string_bytes s ≡ text)) (zero_pieces (decimal c.args.line) (decimal c.column_of-column-in-Zero.result))
    c.format-in-Zero.ensures.ok))

pub returns-in-Range : goal.returns-in-Range
returns-in-Range c =
    subst (λ r. IfOk c.format-in-Range.result (λ s. string_bytes s ≡ refusal_text (BadInput c.args.line r))) (sym c.in-Range.is)
    (subst (λ n. IfOk c.format-in-Range.result (λ s. string_bytes s ≡ codes "bad input line " ++ decimal c.args.line ++ codes ": " ++ (codes "range " ++ decimal n) ++ 10 ∷ []))
    c.column_of-column-in-Range.ensures
    (subst (λ text. IfOk c.format-in-Range.result (λ s. string_bytes s ≡ text)) (range_pieces (decimal c.args.line) (decimal c.column_of-column-in-Range.result))
    c.format-in-Range.ensures.ok))

pub returns-in-Determinant : goal.returns-in-Determinant
returns-in-Determinant c =
    subst (λ r. IfOk c.format-in-Determinant.result (λ s. string_bytes s ≡ refusal_text (BadInput c.args.line r))) (sym c.in-Determinant.is)
    (subst (λ text. IfOk c.format-in-Determinant.result (λ s. string_bytes s ≡ text)) (determinant_pieces (decimal c.args.line))
    c.format-in-Determinant.ensures.ok)

pub returns-in-Missing : goal.returns-in-Missing
returns-in-Missing c =
    subst (λ r. IfOk c.format-in-Missing.result (λ s. string_bytes s ≡ refusal_text (BadInput c.args.line r))) (sym c.in-Missing.is)
    (subst (λ text. IfOk c.format-in-Missing.result (λ s. string_bytes s ≡ text)) (missing_pieces (decimal c.args.line))
    c.format-in-Missing.ensures.ok)

pub returns-in-Report : goal.returns-in-Report
returns-in-Report c =
    subst (λ r. IfOk c.format-in-Report.result (λ s. string_bytes s ≡ refusal_text (BadInput c.args.line r))) (sym c.in-Report.is)
    (subst (λ text. IfOk c.format-in-Report.result (λ s. string_bytes s ≡ text)) (report_pieces (decimal c.args.line))
    c.format-in-Report.ensures.ok)

pub returns-in-Singular : goal.returns-in-Singular
returns-in-Singular c =
    subst (λ r. IfOk c.format-in-Singular.result (λ s. string_bytes s ≡ refusal_text (BadInput c.args.line r))) (sym c.in-Singular.is)
    (subst (λ text. IfOk c.format-in-Singular.result (λ s. string_bytes s ≡ text)) (singular_pieces (decimal c.args.line))
    c.format-in-Singular.ensures.ok)

pub returns-in-NotInGroup : goal.returns-in-NotInGroup
returns-in-NotInGroup c =
    subst (λ r. IfOk c.format-in-NotInGroup.result (λ s. string_bytes s ≡ refusal_text (BadInput c.args.line r))) (sym c.in-NotInGroup.is)
    (subst (λ text. IfOk c.format-in-NotInGroup.result (λ s. string_bytes s ≡ text)) (outside_pieces (decimal c.args.line))
    c.format-in-NotInGroup.ensures.ok)
