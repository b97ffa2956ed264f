use Rattle.std.proofs.Common.{◌≡◌, subst, Some, None, rules}
use Rattle.irr_input.specs.SectionLines.{Begins}
use Rattle.irr_input.proofs.SectionWords.{begins_unique}
use Rattle.irr_input.proofs.lines.begins.Goals as goal

pub returns-in-Some : goal.returns-in-Some
returns-in-Some c = (
  λ t. let e : c.in-Some.found ≡ c.args.keyword = search rules in subst (λ k. Begins k c.args.line.now) e c.in-Some.ensures.found,
  λ b. let e : c.in-Some.found ≡ c.args.keyword = begins_unique c.args.line.now c.in-Some.found c.args.keyword c.in-Some.ensures.found b in search rules,
)

pub returns-in-None : goal.returns-in-None
returns-in-None c = (λ t. absurd (cc t), λ b. let e : None ≡ Some c.args.keyword = c.in-None.ensures.only c.args.keyword b in cc)
