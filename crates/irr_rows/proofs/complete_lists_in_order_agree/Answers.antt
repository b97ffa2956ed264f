-- Complete lists in canonical order.
use Rattle.irr_rows.proofs.OneOrder.{same_lists}
use Rattle.irr_rows.proofs.complete_lists_in_order_agree.Goals as goal

pub returns : goal.returns
returns c = λ h T L M l lo m mo. same_lists T L M l lo m mo
