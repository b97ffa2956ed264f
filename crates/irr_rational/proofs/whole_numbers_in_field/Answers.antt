-- Different whole numbers stay different.
use Rattle.irr_rational.proofs.Integers.{integer_inj}
use Rattle.irr_rational.proofs.whole_numbers_in_field.Goals as goal

pub returns : goal.returns
returns g c = integer_inj g.N.InField.field
