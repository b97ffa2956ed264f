-- The verdict by dimensions.
use Rattle.irr_space.specs.SpaceGroup.{Generated}
use Rattle.irr_close.specs.Limits.{operations}
use Rattle.irr_check.proofs.Verdicts.{verdict_meant_of}
use Rattle.irr_check.proofs.laws.verdicts_as_they_are_meant.Goals as goal

pub returns : goal.returns
returns c = λ gens s r v positive. verdict_meant_of s (Generated (operations gens)) r positive
