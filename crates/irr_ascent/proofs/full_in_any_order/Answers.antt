-- Full lists in another order.
use Rattle.irr_ascent.proofs.Rearranged.{rearranged_full, full_of_same}
use Rattle.irr_ascent.proofs.full_in_any_order.Goals as goal

pub returns : goal.returns
returns g c = record {
  rearranged = λ T M n s t st ts f. rearranged_full g.N.InField.field M f s t st ts;
  same = λ T L M s t st ts e f. full_of_same g.N.InField.field L M f s t st ts e;
}
