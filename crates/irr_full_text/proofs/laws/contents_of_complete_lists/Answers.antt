-- The parts of the content.
use Rattle.irr_close.specs.StandsFor.{stands_for}
use Rattle.irr_close.proofs.SpaceGroups.{space_group}
use Rattle.irr_little.proofs.Spaces.{has_canonical}
use Rattle.irr_full_text.proofs.CompleteContents.{complete_content}
use Rattle.irr_full_text.proofs.laws.contents_of_complete_lists.Goals as goal

pub returns : goal.returns
returns c = λ group k U reduced L complete ordered A v full generators are.
    complete_content (stands_for group) (space_group group).is_group (has_canonical group) U L complete ordered reduced
    A v full generators are
