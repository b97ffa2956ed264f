-- Lines that are skipped.
--   parted            a line is blanks, and a rest that begins with none
--   skipped-rest      such a line is skipped exactly where the rest is empty or begins with #
use Rattle.std.proofs.Common.{◌≡◌, refl, sym, ◌∙◌, ap, subst, ℕ, ◌⊎◌, inl, inr, List, [], ◌∷◌, ◌++◌, length, append-nil, arith}
use Rattle.std.specs.Prelude.{◌↔◌}
use Rattle.irr_token.specs.declared.kind.Kind.{Kind}
use Rattle.irr_token.specs.declared.kind.Kind.TheVariants.{Blank, Digit, Mark}
use Rattle.irr_token.specs.Kinds.{kind_of, AreBlanks}
use Rattle.irr_token.specs.Reading.{BeginsWith, BeginsWithBlank}
use Rattle.irr_token.proofs.Blanks.{blanks_unique}
use Rattle.irr_input.specs.SectionLines.{IsSkipped}
use Rattle.irr_input.specs.SectionLines.IsSkipped.{blank, comment}

pub record IsParted (line : List ℕ) : Type 0 where
  pub blanks : List ℕ
  pub rest : List ℕ
  pub are_blanks : AreBlanks blanks
  pub no_blank : ¬ (BeginsWithBlank rest)
  pub joins : line ≡ blanks ++ rest

pub parted : (line : List ℕ) → IsParted line
parted [] = record { blanks = []; rest = []; are_blanks = tt; no_blank = λ h. h; joins = refl }
parted (c ∷ cs) = of_kind (kind_of c) refl (parted cs)
  where
    of_kind : (k : Kind) → kind_of c ≡ k → IsParted cs → IsParted (c ∷ cs)
    of_kind Blank e p = record { blanks = c ∷ p.blanks; rest = p.rest; are_blanks = (e, p.are_blanks); no_blank = p.no_blank; joins = ap (λ l. c ∷ l) p.joins }
    of_kind Digit e p = record { blanks = []; rest = c ∷ cs; are_blanks = tt; no_blank = λ h. let f : Digit ≡ Blank = sym e ∙ h in cc; joins = refl }
    of_kind Mark e p = record { blanks = []; rest = c ∷ cs; are_blanks = tt; no_blank = λ h. let f : Mark ≡ Blank = sym e ∙ h in cc; joins = refl }

rest-skipped : (line : List ℕ) (p : IsParted line) → IsSkipped line → (p.rest ≡ []) ⊎ BeginsWith 35 p.rest
rest-skipped line p (blank are) = inl (sym (blanks_unique line p.blanks [] p.rest are p.are_blanks (λ h. h) p.no_blank (append-nil line ∙ p.joins)).1)
rest-skipped line p (comment blanks rest are e) = inr (subst (BeginsWith 35) (blanks_unique blanks p.blanks (35 ∷ rest) p.rest are p.are_blanks (λ h. cc) p.no_blank (sym e ∙ p.joins)).1 refl)

skipped-empty : (line : List ℕ) (p : IsParted line) → p.rest ≡ [] → IsSkipped line
skipped-empty line p e = blank (subst AreBlanks (sym (p.joins ∙ ap (λ l. p.blanks ++ l) e ∙ append-nil p.blanks)) p.are_blanks)

skipped-hash : (line blanks rest : List ℕ) → AreBlanks blanks → line ≡ blanks ++ rest → BeginsWith 35 rest → IsSkipped line
skipped-hash line blanks [] are e h = absurd h
skipped-hash line blanks (c ∷ rest) are e h = comment blanks rest are (e ∙ ap (λ d. blanks ++ d ∷ rest) h)

pub skipped-rest : (line : List ℕ) (p : IsParted line) → ((p.rest ≡ []) ⊎ BeginsWith 35 p.rest) ↔ IsSkipped line
skipped-rest line p = (elim [ inl e ↦ skipped-empty line p e | inr h ↦ skipped-hash line p.blanks p.rest p.are_blanks p.joins h ], rest-skipped line p)

pub empty-list : (xs : List ℕ) → length xs ≡ 0 → xs ≡ []
empty-list [] e = refl
empty-list (x ∷ xs) e = absurd (omega arith)
