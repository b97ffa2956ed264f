-- Tables of line groups have steps.
use Rattle.irr_space.specs.SpaceGroup.{Generated}
use Rattle.irr_compat.proofs.Lines.{line_has_steps}
use Rattle.irr_compat.proofs.laws.line_tables_have_steps.Goals as goal

pub returns : goal.returns
returns c = λ generators s n point h ops T numbering table. line_has_steps s (Generated generators) point ops T numbering table
