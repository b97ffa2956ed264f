-- The one representation at each wave vector.
use Rattle.std.proofs.Common.{refl}
use Rattle.irr_lattice.proofs.OnePlace.{one_place_list, one_place_list-complete, one_place_list-in_order}
use Rattle.irr_lattice.proofs.OneOperation.{one_numbering, one_table, one_table-is_table}
use Rattle.irr_lattice.proofs.representations_of_no_generators.Goals as goal

pub returns-clause-numbering : goal.returns-clause-numbering
returns-clause-numbering c = λ k. one_numbering k

pub returns-clause-complete : goal.returns-clause-complete
returns-clause-complete c = λ s k n p o. (one_table n p, one_place_list (one_table n p), one_table-is_table s k n o p, one_place_list-complete (one_table n p), one_place_list-in_order (one_table n p), refl)
