-- Yes is a complete list.
use Rattle.irr_space.specs.SpaceGroup.{Generated}
use Rattle.irr_close.specs.Limits.{operations}
use Rattle.irr_check.proofs.Verdicts.{meant_is_complete, yes_is_complete}
use Rattle.irr_check.proofs.laws.a_yes_is_complete.Goals as goal

pub returns-clause-by_dimensions : goal.returns-clause-by_dimensions
returns-clause-by_dimensions c = λ gens s r. yes_is_complete s (Generated (operations gens)) r

pub returns-clause-as_it_is_meant : goal.returns-clause-as_it_is_meant
returns-clause-as_it_is_meant c = λ gens s r positive. meant_is_complete s (Generated (operations gens)) r positive
