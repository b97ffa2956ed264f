-- The texts of 1 and of the identity.
use Rattle.irr_text.proofs.OneText.{number_text-one, triplet_text-identity}
use Rattle.irr_text.proofs.texts_of_one.Goals as goal

pub returns-clause-number : goal.returns-clause-number
returns-clause-number c = number_text-one

pub returns-clause-operation : goal.returns-clause-operation
returns-clause-operation c = triplet_text-identity
