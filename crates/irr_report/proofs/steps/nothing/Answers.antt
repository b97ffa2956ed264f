use Rattle.std.proofs.Common.{◌≡◌, ◌<◌, refl, ap, arith, length, List, [], ◌∷◌, ℕ}
use Rattle.std.proofs.lemmas.Grind.{common_steps}
use Rattle.irr_report.proofs.StageSteps.{nothing-steps, nothing-fails}
use Rattle.irr_report.proofs.steps.nothing.Goals as goal

none_of : (xs : List ℕ) → length xs ≡ 0 → xs ≡ []
none_of [] e = refl
none_of (x ∷ xs) e = absurd (omega arith)

pub returns-then-is_empty-clause-steps : goal.returns-then-is_empty-clause-steps
returns-then-is_empty-clause-steps g c = nothing-steps c.args.report c.args.line.now (none_of c.args.line.now (grind (arith, common_steps)))

pub returns-else-is_empty-clause-fails : goal.returns-else-is_empty-clause-fails
returns-else-is_empty-clause-fails g c = let some : 0 < length c.args.line.now = grind (arith, common_steps) in nothing-fails c.args.report c.args.line.now (λ e. (let n : length c.args.line.now ≡ 0 = ap length e in omega (arith, some, n)))
