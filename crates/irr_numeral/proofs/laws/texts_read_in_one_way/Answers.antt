-- Part by part.
use Rattle.irr_numeral.proofs.OneReading.{spelled-unique, read-unique, no-fault}
use Rattle.irr_numeral.proofs.laws.texts_read_in_one_way.Goals as goal

pub returns-clause-terms : goal.returns-clause-terms
returns-clause-terms c = spelled-unique

pub returns-clause-number : goal.returns-clause-number
returns-clause-number c = read-unique

pub returns-clause-fault : goal.returns-clause-fault
returns-clause-fault c = no-fault
