use Rattle.std.proofs.Common.{refl}
use Rattle.irr_space.specs.Operation.{translation}
use Rattle.irr_rat.specs.VectorMeaning.{vector}
use Rattle.irr_seitz.proofs.Vectors.{operation-ext}
use Rattle.irr_seitz.proofs.Orders.{unit_rotation}
use Rattle.irr_close.proofs.centring.translation_by.Goals as goal

pub returns-clause-translation : goal.returns-clause-translation
unfolding translation
returns-clause-translation c = operation-ext _ (translation (vector c.args.v.now)) unit_rotation refl
