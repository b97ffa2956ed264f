use Rattle.irr_space.specs.Operation.{identity}
use Rattle.irr_seitz.proofs.Vectors.{operation-ext}
use Rattle.irr_seitz.proofs.Orders.{unit_rotation}
use Rattle.irr_close.proofs.Identity.{no_shift, no_shift-lowest}
use Rattle.irr_close.proofs.closing.identity_operation.Goals as goal

pub returns-clause-identity : goal.returns-clause-identity
unfolding identity
returns-clause-identity c = operation-ext _ identity unit_rotation no_shift

pub invariant_of-result : goal.invariant_of-result
invariant_of-result c = record { lowest = no_shift-lowest }
