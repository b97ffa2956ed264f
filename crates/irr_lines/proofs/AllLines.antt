-- The lines of a text.
--   lines_of          each text has lines
--   lines_unique      and only these
use Rattle.std.proofs.Common.{◌≡◌, ◌≢◌, refl, sym, ◌∙◌, ap, ap₂, subst, ℕ, zero, suc, ◌<◌, ◌≤◌, List, [], ◌∷◌, ◌++◌, length, arith}
use Rattle.irr_lines.specs.Lines.{IsFirstLine, AreLines}
use Rattle.irr_lines.specs.Lines.IsFirstLine.{ended, unended}
use Rattle.irr_lines.specs.Lines.AreLines.{none, more}
use Rattle.irr_lines.proofs.FirstLines.{FirstLine, first_line, first_unique}

lines_below : (n : ℕ) (text : List ℕ) → length text ≤ n → (lines : List (List ℕ)) × AreLines text lines
lines_below n [] h = ([], none)
lines_below zero (x ∷ text) h = absurd (omega arith)
lines_below (suc n) (x ∷ text) h =
    let f : FirstLine (x ∷ text) = first_line (x ∷ text) (λ e. cc) (omega arith) in
    let s : length f.rest < length (x ∷ text) = f.shorter in
    let l : (lines : List (List ℕ)) × AreLines f.rest lines = lines_below n f.rest (omega arith) in
    (f.line ∷ l.0, more f.is_first l.1)

pub lines_of : (text : List ℕ) → (lines : List (List ℕ)) × AreLines text lines
lines_of text = lines_below (length text) text (omega arith)

no_first : (line rest : List ℕ) → IsFirstLine [] line rest → ⊥
no_first line rest (ended [] e l c) = cc
no_first line rest (ended (x ∷ before) e l c) = cc
no_first line rest (unended n l e r) = n refl

pub lines_unique : {text : List ℕ} {lines others : List (List ℕ)} → AreLines text lines → AreLines text others → lines ≡ others
lines_unique none none = refl
lines_unique none (more f r) = absurd (no_first _ _ f)
lines_unique (more f r) none = absurd (no_first _ _ f)
lines_unique (more {text = text} {line = line} {rest = rest} {lines = lines} f r) (more {line = other} {rest = after} {lines = others} g s) =
    let both : (line ≡ other) × (rest ≡ after) = first_unique text line rest other after f g in
    ap₂ (λ x xs. x ∷ xs) both.0 (lines_unique r (subst (λ t. AreLines t others) (sym both.1) s))
