-- One star.
use Rattle.irr_top.specs.GroupOf.{group_of}
use Rattle.irr_top.proofs.OneStar.{one_star}
use Rattle.irr_top.proofs.laws.one_star_of_a_wave_vector.Goals as goal

pub returns : goal.returns
returns c = λ gens s k. one_star s (group_of gens) k
