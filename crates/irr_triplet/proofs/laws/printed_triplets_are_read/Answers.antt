use Rattle.irr_triplet.proofs.PrintedTriplets.{printed_read}
use Rattle.irr_triplet.proofs.laws.printed_triplets_are_read.Goals as goal

pub returns : goal.returns
returns c = printed_read
