-- The law of spans, at the field of the numbers.
use Rattle.irr_algebra.proofs.Spans.{span-length}
use Rattle.irr_number.proofs.NumberField.{number_field}
use Rattle.irr_mat.proofs.laws.length_of_spanning_list.Goals as goal

pub returns : goal.returns
returns c = λ N m r k h p s i j. span-length (number_field N h) p s i j
