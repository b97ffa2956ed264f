-- Products of operations.
use Rattle.irr_cocycle.proofs.Operations.{op-assoc}
use Rattle.irr_cocycle.proofs.products_of_operations.Goals as goal

pub returns : goal.returns
returns c = op-assoc
