-- Sums over a list.
use Rattle.irr_eigen.proofs.ListSums.{list-sum}
use Rattle.irr_eigen.proofs.sum_over_list.Goals as goal

pub returns : goal.returns
returns g c = λ p k z s w times h l counts. list-sum g.N.InField.field.ring p z w times s h l counts
