use Rattle.std.proofs.Common.{◌≡◌, subst, length, arith}
use Rattle.std.proofs.lemmas.Grind.{common_steps}
use Rattle.irr_lines.proofs.FirstLines.{first_unique}
use Rattle.irr_input.specs.SectionLines.{Begins}
use Rattle.irr_input.proofs.LineCounts.{no_line}
use Rattle.irr_input.proofs.lines.is_at.Goals as goal

pub returns-then-is_empty : goal.returns-then-is_empty
returns-then-is_empty c =
    let none : length c.args.text.now ≡ 0 = grind (arith, common_steps) in
    (λ t. absurd (cc t), λ a. absurd (no_line c.args.text.now a.line a.behind none a.is_first))

pub returns : goal.returns
returns c = (
  λ t. record { line = c.next_line.result.0.now; behind = c.next_line.result.1.now; is_first = c.next_line.ensures.line; begins = c.begins.ensures.0 t },
  λ a. c.begins.ensures.1 (subst (Begins c.args.keyword) (first_unique c.args.text.now a.line a.behind c.next_line.result.0.now c.next_line.result.1.now a.is_first c.next_line.ensures.line).0 a.begins),
)
