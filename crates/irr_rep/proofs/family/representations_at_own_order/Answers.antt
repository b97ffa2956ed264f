-- Representations over the table's own order.
use Rattle.irr_rep.specs.Family.{at_own_order}
use Rattle.irr_rep.proofs.Families.{at_own_order-at, at_own_order-over}
use Rattle.irr_rep.proofs.family.representations_at_own_order.Goals as goal

pub returns : goal.returns
returns c = record {
  from_lifted = λ h T v d A. (at_own_order T v A, at_own_order-at T v A);
  to_lifted = λ h T v d A i. at_own_order-over T v A i;
}
