use Rattle.irr_close.specs.StandsFor.{stands_for}
use Rattle.irr_close.proofs.SpaceGroups.{space_group}
use Rattle.irr_little.proofs.Spaces.{has_canonical}
use Rattle.irr_star.proofs.BlockLaws.{block_else, block_here}
use Rattle.irr_star.proofs.laws.blocks_of_full_representations.Goals as goal

pub returns-clause-here : goal.returns-clause-here
returns-clause-here c group k U M v d D A full g in_g j b at =
    block_here (stands_for group) (space_group group).is_group (has_canonical group) U M v D A full g in_g j b at

pub returns-clause-elsewhere : goal.returns-clause-elsewhere
returns-clause-elsewhere c group k U M v d D A full g in_g j b at =
    block_else (stands_for group) (space_group group).is_group (has_canonical group) U M v D A full g in_g j b at
