use Rattle.std.proofs.Common.{refl}
use Rattle.irr_input.proofs.lines.generator.Goals as goal

pub returns-in-Err-clause-fault : goal.returns-in-Err-clause-fault
returns-in-Err-clause-fault c = (c.reason_of.result, refl, c.reason_of.ensures c.args.line.now c.in-Err.ensures.fault)
