-- Restrictions as parts of factor systems.
use Rattle.irr_rep.proofs.Subtables.{subtable}
use Rattle.irr_rep.proofs.subgroup.restrictions_are_subtables.Goals as goal

pub returns : goal.returns
returns c = λ h n T members S subgroup restriction M v w. subtable T members S subgroup restriction M v w
