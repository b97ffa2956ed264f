-- The root law.
use Rattle.irr_eigen.proofs.Splitting.{scalar-root}
use Rattle.irr_eigen.proofs.Shares.{root-law}
use Rattle.irr_eigen.proofs.root_by_trace.Goals as goal

pub returns : goal.returns
returns g c = record {
  of_number = λ p d x u h e t. scalar-root g.N.InField.field p h x d u e t;
  of_matrix = λ p d k x v u w two_or_three h t. root-law g.N.InField.field p x w two_or_three h t;
}
