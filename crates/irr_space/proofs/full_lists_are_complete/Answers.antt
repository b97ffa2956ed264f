-- Full lists are complete.
use Rattle.irr_space.proofs.FullLists.{full_list-complete}
use Rattle.irr_space.proofs.full_lists_are_complete.Goals as goal

pub returns : goal.returns
returns c = λ h T L full. full_list-complete T L full
