-- The first line of a text.
use Rattle.irr_lines.specs.Lines.IsFirstLine.{ended}
use Rattle.irr_lines.proofs.line.next_line.Goals as goal

pub returns-in-Some-clause-line : goal.returns-in-Some-clause-line
returns-in-Some-clause-line c = ended c.in-Some.before.now c.in-Some.ensures.found c.in-Some.ensures.before c.content.ensures
