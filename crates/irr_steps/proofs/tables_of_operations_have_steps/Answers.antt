-- The tables of operations have steps.
use Rattle.irr_steps.proofs.Tables.{operations_have_steps}
use Rattle.irr_steps.proofs.tables_of_operations_have_steps.Goals as goal

pub returns : goal.returns
returns c = λ h T ops are. operations_have_steps T ops are
