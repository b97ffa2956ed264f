-- The root law on a twisted table.
use Rattle.irr_eigen.proofs.Orders.{order-multiple}
use Rattle.irr_eigen.proofs.KeptSums.{two_or_three-pos, step-root, step-kept_sum}
use Rattle.irr_eigen.proofs.root_of_step.Goals as goal

pub returns : goal.returns
returns r q = record {
  root = λ S T part d D g p c u two_or_three outside h cycle t. step-root r.N.InField.field part D g p c u two_or_three outside h cycle t;
  order = λ S T part d D g p c u two_or_three outside h cycle.
      order-multiple part g p outside h.top h.place-top (two_or_three-pos p two_or_three) cycle.order cycle.positive cycle.returns;
  kept_sum = λ S T part d D g p c u two_or_three h cycle m e t times occurs.
      step-kept_sum r.N.InField.field part D g p c u two_or_three h cycle m e t times occurs;
}
