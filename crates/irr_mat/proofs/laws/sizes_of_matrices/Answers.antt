-- Sizes of sums, products and multiples.
use Rattle.irr_mat.proofs.Bounds.{within-unit, within-more, within-add, within-add_same, within-scale, within-mul, within-kron, within-trace}
use Rattle.irr_mat.proofs.laws.sizes_of_matrices.Goals as goal

pub returns : goal.returns
returns c = record {
  unit = within-unit;
  more = within-more;
  sum = within-add;
  same_denominator = within-add_same;
  multiple = within-scale;
  product = within-mul;
  kronecker = within-kron;
  trace = within-trace;
}
