-- One for each member.
use Rattle.irr_close.specs.StandsFor.{stands_for}
use Rattle.irr_close.proofs.SpaceGroups.{space_group}
use Rattle.irr_little.proofs.Spaces.{has_canonical}
use Rattle.irr_full_text.proofs.CompleteContents.{full_of_list, full_of_list-is}
use Rattle.irr_full_text.proofs.laws.full_representations_of_lists.Goals as goal

pub returns : goal.returns
returns c = λ group k U L. (
  full_of_list (stands_for group) (space_group group).is_group (has_canonical group) U L,
  full_of_list-is (stands_for group) (space_group group).is_group (has_canonical group) U L,
)
