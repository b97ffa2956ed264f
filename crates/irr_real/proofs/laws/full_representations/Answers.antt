-- By the matrices of the theory.
use Rattle.irr_close.specs.StandsFor.{stands_for}
use Rattle.irr_close.proofs.SpaceGroups.{space_group}
use Rattle.irr_little.proofs.Spaces.{has_canonical}
use Rattle.irr_full.proofs.FullExistence.{full_matrices, full_matrices-is_full}
use Rattle.irr_real.proofs.laws.full_representations.Goals as goal

pub returns : goal.returns
returns c = λ group k U M positive v d D. (
  full_matrices (stands_for group) (space_group group).is_group (has_canonical group) U M positive v D,
  full_matrices-is_full (stands_for group) (space_group group).is_group (has_canonical group) U M positive v D,
)
