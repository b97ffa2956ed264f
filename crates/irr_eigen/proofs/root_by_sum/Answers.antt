-- A root, and a matrix, from a sum of roots.
use Rattle.irr_eigen.proofs.KeptSums.{root_of_sum, multiple-power, multiple-trace}
use Rattle.irr_eigen.proofs.root_by_sum.Goals as goal

pub returns : goal.returns
returns g c = record {
  root = λ p x t s pos ne e. root_of_sum g.N.InField.field p x t s pos ne e;
  multiple = λ p d x s v u t h e. multiple-power g.N.InField.field p x s v u t h e;
  multiple_trace = λ d s u t. multiple-trace g.N.InField.field s u t;
}
