use Rattle.irr_close.specs.StandsFor.{stands_for}
use Rattle.irr_close.proofs.SpaceGroups.{space_group}
use Rattle.irr_little.proofs.Spaces.{has_canonical}
use Rattle.irr_star.proofs.FullSizes.{full_within}
use Rattle.irr_star.proofs.laws.sizes_of_full_representations.Goals as goal

pub returns : goal.returns
returns c group k U M positive v d D A full s e within g in_g =
    full_within (stands_for group) (space_group group).is_group
    (has_canonical group) U M positive v D A full s e within g in_g
