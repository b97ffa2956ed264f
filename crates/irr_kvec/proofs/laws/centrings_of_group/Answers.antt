use Rattle.irr_kvec.proofs.CentringLists.{are_centring_list}
use Rattle.irr_kvec.proofs.laws.centrings_of_group.Goals as goal

pub returns : goal.returns
returns c = λ gens cs h few. are_centring_list gens cs h few
