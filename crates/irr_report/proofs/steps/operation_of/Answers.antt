use Rattle.irr_triplet.proofs.OneFault.{fault_none}
use Rattle.irr_report.proofs.steps.operation_of.Goals as goal

pub returns-in-Err-clause-none : goal.returns-in-Err-clause-none
returns-in-Err-clause-none c = λ e h. fault_none c.args.text.now h.0 c.in-Err.field-0 h.1 c.in-Err.ensures.fault
