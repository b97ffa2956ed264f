-- What an outcome says.
use Rattle.irr_top.proofs.Statuses.{outcome_answered, outcome_read_fault, outcome_write_fault, outcome_memory, outcome_done, outcome_unread, outcome_usage}
use Rattle.irr_top.proofs.laws.an_outcome_status_by_status.Goals as goal

pub returns-clause-answered : goal.returns-clause-answered
returns-clause-answered c = λ words source read sink written t o n. outcome_answered words source read sink written o n

pub returns-clause-read_fault : goal.returns-clause-read_fault
returns-clause-read_fault c = λ words source read sink written o. outcome_read_fault words source read sink written o

pub returns-clause-write_fault : goal.returns-clause-write_fault
returns-clause-write_fault c = λ words source read sink written o. outcome_write_fault words source read sink written o

pub returns-clause-memory : goal.returns-clause-memory
returns-clause-memory c = λ words source read sink written o. outcome_memory words source read sink written o

pub returns-clause-done : goal.returns-clause-done
returns-clause-done c = λ words source read sink written o. outcome_done words source read sink written o

pub returns-clause-unread : goal.returns-clause-unread
returns-clause-unread c = λ words source read sink written t o. outcome_unread words source read sink written o

pub returns-clause-usage : goal.returns-clause-usage
returns-clause-usage c = λ words source read sink written n t f o. outcome_usage words source read sink written n f o
