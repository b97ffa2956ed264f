-- Steps with the scalar 1.
use Rattle.irr_eigen.proofs.Extended.{family-step, multiple-step}
use Rattle.irr_eigen.proofs.step_of_scalar_one.Goals as goal

pub returns : goal.returns
returns r q = record {
  of_family = λ S T part d A g p top e. family-step part A g p top e;
  of_sum = λ S T part d D g p c s u h t e. multiple-step r.N.InField.field part D g p c s u h t e;
}
