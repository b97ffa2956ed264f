-- Texts write one operation, or have one fault.
use Rattle.irr_triplet.proofs.OneTriplet.{operation_unique}
use Rattle.irr_triplet.proofs.OneFault.{fault_none, fault_unique}
use Rattle.irr_triplet.proofs.laws.one_operation_is_written.Goals as goal

pub returns-clause-one : goal.returns-clause-one
returns-clause-one c = λ text g h a b. operation_unique text g h a b

pub returns-clause-fault : goal.returns-clause-fault
returns-clause-fault c = λ text e f a b. fault_unique text e f a b

pub returns-clause-either : goal.returns-clause-either
returns-clause-either c = λ text g e a b. fault_none text g e a b
