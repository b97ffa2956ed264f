-- By the first byte.
use Rattle.std.proofs.Common.{◌≡◌, ◌<◌, ◌∙◌, ap, ℕ, [], length, arith, Vec, Global}
use Rattle.std.proofs.lemmas.Grind.{common_steps}
use Rattle.irr_numeral.proofs.PrintedTerms.{sum-none, sum-plus, sum-other}
use Rattle.irr_numeral.proofs.print.as_sum.Goals.{then-is_empty+in_ok-push, else-is_empty+then-index-eq43, else-is_empty+else-index-eq43}
use Rattle.irr_numeral.proofs.print.as_sum.Goals as goal

pub returns : goal.returns
returns c = elim c.if-is_empty.branch [
  | then-is_empty+in_ok-push w ↦ (let none : c.args.text.items ≡ [] = grind (arith, common_steps) in
      ap (λ (v : Vec ℕ Global). v.items) w.text-is ∙ w.in_ok-push.ensures.items ∙ sum-none c.args.text.items none)
  | else-is_empty+then-index-eq43 w ↦ (let some : 0 < length c.args.text.items = grind (arith, common_steps) in
      ap (λ (v : Vec ℕ Global). v.items) w.text-is ∙ w.remove.ensures.items ∙ sum-plus c.args.text.items w.index.result.now some (cc))
  | else-is_empty+else-index-eq43 w ↦ (let some : 0 < length c.args.text.items = grind (arith, common_steps) in
      ap (λ (v : Vec ℕ Global). v.items) w.text-is ∙ sum-other c.args.text.items w.index.result.now some (λ e. w.if-index-eq43.false (w.index.ensures ∙ e)))
]
