use Rattle.irr_triplet.proofs.PrintedTriplets.{printed_unique}
use Rattle.irr_triplet.proofs.laws.unique_triplets.Goals as goal

pub returns : goal.returns
returns c = printed_unique
