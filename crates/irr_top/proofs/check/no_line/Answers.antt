-- The lines of verdicts of no: their pieces in one grouping and in the other.
use Rattle.std.proofs.Common.{◌≡◌, sym, subst, ℕ, List, [], ◌∷◌, ◌++◌, append_assoc, IfOk, string_bytes}
use Rattle.std.specs.Prelude.{codes}
use Rattle.std.specs.Fmt.{decimal}
use Rattle.irr_check.specs.declared.verdict.Clause.{Clause}
use Rattle.irr_check.specs.declared.verdict.Verdict.TheVariants.{No}
use Rattle.irr_top.specs.CheckCommand.{verdict_text}
use Rattle.irr_top.proofs.check.no_line.Goals as goal

two : (p a s b e : List ℕ) → p ++ (a ++ (s ++ (b ++ e))) ≡ p ++ a ++ s ++ b ++ e
two p a s b e = simp append_assoc

three : (p a s b t d e : List ℕ) → p ++ (a ++ (s ++ (b ++ (t ++ (d ++ e))))) ≡ p ++ a ++ s ++ b ++ t ++ d ++ e
three p a s b t d e = simp append_assoc

multiply_pieces : (a b d : List ℕ) → codes "no multiply S" ++ (a ++ (codes " " ++ (b ++ (codes " " ++ (d ++ 10 ∷ []))))) ≡ codes "no multiply S" ++ a
    ++ codes " " ++ b ++ codes " " ++ d ++ 10 ∷ []
multiply_pieces a b d = three (codes "no multiply S") a (codes " ") b (codes " ") d (10 ∷ [])

char_pieces : (a b : List ℕ) → codes "no char S" ++ (a ++ (codes " " ++ (b ++ 10 ∷ []))) ≡ codes "no char S" ++ a ++ codes " " ++ b ++ 10 ∷ []
char_pieces a b = two (codes "no char S") a (codes " ") b (10 ∷ [])

equivalent_pieces : (a b : List ℕ) → codes "no equivalent S" ++ (a ++ (codes " S" ++ (b ++ 10 ∷ []))) ≡ codes "no equivalent S" ++ a ++ codes " S" ++ b
    ++ 10 ∷ []
equivalent_pieces a b = two (codes "no equivalent S") a (codes " S") b (10 ∷ [])

pub returns-in-Multiply : goal.returns-in-Multiply
returns-in-Multiply c = subst (λ (k : Clause). IfOk c.format-in-Multiply.result (λ s. string_bytes s ≡ verdict_text (No k c.args.rep c.args.i c.args.j)))
    (sym c.in-Multiply.is)
    (subst (λ text. IfOk c.format-in-Multiply.result (λ s. string_bytes s ≡ text)) (multiply_pieces (decimal c.args.rep) (decimal c.args.i) (decimal c.args.j)) c.format-in-Multiply.ensures.ok)

pub returns-in-Char : goal.returns-in-Char
returns-in-Char c = subst (λ (k : Clause). IfOk c.format-in-Char.result (λ s. string_bytes s ≡ verdict_text (No k c.args.rep c.args.i c.args.j)))
    (sym c.in-Char.is)
    (subst (λ text. IfOk c.format-in-Char.result (λ s. string_bytes s ≡ text)) (char_pieces (decimal c.args.rep) (decimal c.args.i)) c.format-in-Char.ensures.ok)

pub returns-in-Equivalent : goal.returns-in-Equivalent
returns-in-Equivalent c = subst (λ (k : Clause). IfOk c.format-in-Equivalent.result (λ s. string_bytes s ≡ verdict_text (No k c.args.rep c.args.i c.args.j)))
    (sym c.in-Equivalent.is)
    (subst (λ text. IfOk c.format-in-Equivalent.result (λ s. string_bytes s ≡ text)) (equivalent_pieces (decimal c.args.rep) (decimal c.args.i)) c.format-in-Equivalent.ensures.ok)
