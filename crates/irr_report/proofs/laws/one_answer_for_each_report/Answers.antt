-- From how a report is read line by line.
use Rattle.irr_report.proofs.OneAnswer.{read-or-line, read-or-range, line-or-range, one-line-fault, one-range-fault, read-or-fault, one-fault}
use Rattle.irr_report.proofs.laws.one_answer_for_each_report.Goals as goal

pub returns-clause-read_or_line : goal.returns-clause-read_or_line
returns-clause-read_or_line c = read-or-line

pub returns-clause-read_or_range : goal.returns-clause-read_or_range
returns-clause-read_or_range c = read-or-range

pub returns-clause-line_or_range : goal.returns-clause-line_or_range
returns-clause-line_or_range c = line-or-range

pub returns-clause-one_line : goal.returns-clause-one_line
returns-clause-one_line c = one-line-fault

pub returns-clause-one_range : goal.returns-clause-one_range
returns-clause-one_range c = one-range-fault

pub returns-clause-read_or_fault : goal.returns-clause-read_or_fault
returns-clause-read_or_fault c = read-or-fault

pub returns-clause-one_fault : goal.returns-clause-one_fault
returns-clause-one_fault c = one-fault
