-- The report of a little group of one operation.
use Rattle.irr_space.specs.SpaceGroup.{Generated}
use Rattle.irr_cocycle.proofs.OneOperation.{one_operation_report, one_operation_report-is_report, one_operation_text}
use Rattle.irr_cocycle.proofs.reports_of_one_operation.Goals as goal

pub returns : goal.returns
returns c = λ generators group chosen s k w n ops reduced numbering order. (
  one_operation_report (Generated generators) group chosen s k w reduced ops numbering n order,
  one_operation_report-is_report (Generated generators) group chosen s k w reduced ops numbering n order,
  one_operation_text (Generated generators) group chosen s k w reduced ops numbering n order,
)
