use Rattle.irr_space.specs.SpaceGroup.Generated.{one, product, inverse}
use Rattle.irr_close.specs.Limits.{operations}
use Rattle.irr_close.proofs.Lattice.{invertible_generated, invertible_operations, inverse_operation}
use Rattle.irr_close.proofs.Unimodular.{are_invertible}
use Rattle.irr_close.proofs.laws.generated_groups.Goals as goal

pub returns : goal.returns
returns c = λ gs unimodular. record {
  has_identity = one;
  has_product = λ g h p q. product p q;
  has_inverse = λ g p.
      let a = invertible_generated (operations gs) (invertible_operations gs (are_invertible gs unimodular)) p in
      let t = inverse_operation g a.0 a.1 in
      (t.0, inverse t.1 p, t.1);
}
