use Rattle.irr_close.specs.StandsFor.{stands_for}
use Rattle.irr_close.proofs.SpaceGroups.{space_group}
use Rattle.irr_little.proofs.Spaces.{has_canonical}
use Rattle.irr_full.proofs.FullExistence.{full_matrices, full_matrices-is_full}
use Rattle.irr_full.proofs.FullMatrices.{full_representation}
use Rattle.irr_star.proofs.laws.full_representations_of_groups.Goals as goal

pub returns : goal.returns
returns c group k U M positive v d D =
    let G = stands_for group in
    let is = (space_group group).is_group in
    let chosen = has_canonical group in
    let full = full_matrices-is_full G is chosen U M positive v D in (
      full_matrices G is chosen U M positive v D,
      full,
      full_representation G is chosen U M positive v D
          (full_matrices G is chosen U M positive v D) full,
    )
