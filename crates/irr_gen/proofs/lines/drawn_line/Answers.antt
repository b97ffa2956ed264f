-- The line that the draw names.
use Rattle.std.proofs.Common.{sym, subst}
use Rattle.irr_gen.specs.Signed.{IsSigned}
use Rattle.irr_gen.proofs.MadeLines.{line_drawn}
use Rattle.irr_gen.proofs.lines.drawn_line.Goals as goal

pub returns-clause-line : goal.returns-clause-line
returns-clause-line c = line_drawn c.args.lines.now c.index-lines-draw.result c.args.draws.now.number c.draw.result c.draw.ensures.below c.index-lines-draw.is c.draw.ensures.drawn

pub returns-clause-signed : goal.returns-clause-signed
returns-clause-signed c = subst IsSigned (sym c.index-lines-draw.is) (c.requires.signed c.draw.result _ c.draw.ensures.below)
