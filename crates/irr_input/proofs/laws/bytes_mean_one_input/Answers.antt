use Rattle.irr_input.proofs.OneInput.{input_unique, faulty_line_unique, limit_line_unique, input_or_fault, input_or_limit, fault_or_limit}
use Rattle.irr_input.proofs.laws.bytes_mean_one_input.Goals as goal

pub returns-clause-input : goal.returns-clause-input
returns-clause-input c = input_unique

pub returns-clause-faulty : goal.returns-clause-faulty
returns-clause-faulty c = faulty_line_unique

pub returns-clause-limit : goal.returns-clause-limit
returns-clause-limit c = limit_line_unique

pub returns-clause-input_or_faulty : goal.returns-clause-input_or_faulty
returns-clause-input_or_faulty c = input_or_fault

pub returns-clause-input_or_limit : goal.returns-clause-input_or_limit
returns-clause-input_or_limit c = input_or_limit

pub returns-clause-faulty_or_limit : goal.returns-clause-faulty_or_limit
returns-clause-faulty_or_limit c = fault_or_limit
