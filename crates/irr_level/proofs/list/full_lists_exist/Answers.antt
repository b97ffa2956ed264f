-- Full lists.
use Rattle.irr_level.proofs.FullLists.{complete_full, full_list, own_list, unit_lists}
use Rattle.irr_level.proofs.Restricted.{restricted, restricted_is}
use Rattle.irr_space.specs.PhaseTable.{phases_over}
use Rattle.irr_level.proofs.list.full_lists_exist.Goals as goal

pub returns : goal.returns
returns c = record {
  restriction = λ h T members subgroup. (restricted T members subgroup, restricted_is T members subgroup);
  unit = λ h n T S restriction M w. unit_lists (phases_over S M w) restriction.count;
  over_order = λ h T steps M v positive. full_list T M v positive steps;
  own_order = λ h T steps. own_list T steps;
  complete_is_full = λ h T steps L complete. complete_full T steps L complete;
}
