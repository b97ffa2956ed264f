-- The lines of limits that were passed: their literal pieces in one.
use Rattle.std.proofs.Common.{◌≡◌, sym, subst, ℕ, List, [], ◌∷◌, ◌++◌, append_assoc, IfOk, string_bytes}
use Rattle.std.specs.Prelude.{codes}
use Rattle.std.specs.Fmt.{decimal}
use Rattle.irr_top.specs.RefusalText.{refusal_text}
use Rattle.irr_top.specs.declared.status.Status.TheVariants.{TooLarge}
use Rattle.irr_top.proofs.refusal.large_line.Goals as goal

regroup : (p a b : List ℕ) → p ++ (a ++ b) ≡ p ++ a ++ b
regroup p a b = simp append_assoc

report_pieces : (a : List ℕ) → codes "too large: report line " ++ (a ++ 10 ∷ []) ≡ codes "too large: " ++ (codes "report line " ++ a) ++ 10 ∷ []
report_pieces a = regroup (codes "too large: report line ") a (10 ∷ [])

pub returns-in-Rotations : goal.returns-in-Rotations
returns-in-Rotations c = subst (λ k. IfOk c.format-in-Rotations.result (λ s. string_bytes s ≡ refusal_text (TooLarge k)))
    (sym c.in-Rotations.is) c.format-in-Rotations.ensures.ok

pub returns-in-Denominator : goal.returns-in-Denominator
returns-in-Denominator c = subst (λ k. IfOk c.format-in-Denominator.result (λ s. string_bytes s ≡ refusal_text (TooLarge k)))
    (sym c.in-Denominator.is) c.format-in-Denominator.ensures.ok

pub returns-in-Centrings : goal.returns-in-Centrings
returns-in-Centrings c = subst (λ k. IfOk c.format-in-Centrings.result (λ s. string_bytes s ≡ refusal_text (TooLarge k)))
    (sym c.in-Centrings.is) c.format-in-Centrings.ensures.ok

pub returns-in-Report : goal.returns-in-Report
returns-in-Report c = subst (λ k. IfOk c.format-in-Report.result (λ s. string_bytes s ≡ refusal_text (TooLarge k))) (sym c.in-Report.is)
    (subst (λ text. IfOk c.format-in-Report.result (λ s. string_bytes s ≡ text)) (report_pieces (decimal c.in-Report.n))
    c.format-in-Report.ensures.ok)
