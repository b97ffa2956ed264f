-- Each text has one list of lines.
use Rattle.irr_lines.proofs.AllLines.{lines_of, lines_unique}
use Rattle.irr_lines.proofs.laws.one_list_of_lines.Goals as goal

pub returns-clause-some : goal.returns-clause-some
returns-clause-some c = lines_of

pub returns-clause-one : goal.returns-clause-one
returns-clause-one c = λ text lines others l o. lines_unique l o
