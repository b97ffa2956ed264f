use Rattle.irr_close.proofs.Identity.{no_shift, no_shift-lowest}
use Rattle.irr_close.proofs.rotation.bare.Goals as goal

pub invariant_of-result : goal.invariant_of-result
invariant_of-result c = record { lowest = no_shift-lowest }

pub returns-clause-vector : goal.returns-clause-vector
returns-clause-vector c = no_shift
