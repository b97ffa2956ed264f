-- The table of a little group.
use Rattle.irr_space.specs.SpaceGroup.{Generated}
use Rattle.irr_cocycle.proofs.LittleGroups.{little_table, little_table-is_table}
use Rattle.irr_cocycle.proofs.little_groups_have_tables.Goals as goal

pub returns : goal.returns
returns c = λ generators group chosen s k n h ops numbering order.
    (little_table (Generated generators) group chosen s k ops numbering n order, little_table-is_table (Generated generators) group chosen s k ops numbering n order)
