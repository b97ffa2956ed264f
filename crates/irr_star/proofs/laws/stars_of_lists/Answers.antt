use Rattle.irr_star.proofs.StarLists.{star_of_lists}
use Rattle.irr_star.proofs.laws.stars_of_lists.Goals as goal

pub returns : goal.returns
returns c = star_of_lists
