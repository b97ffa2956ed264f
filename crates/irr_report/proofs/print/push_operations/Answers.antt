-- One more operation.
use Rattle.std.proofs.Common.{◌∙◌}
use Rattle.irr_report.specs.Printed.{operation_text}
use Rattle.irr_report.proofs.Pieces.{numbered_none, numbered_step}
use Rattle.irr_report.proofs.print.push_operations.Goals as goal

pub loop-i-init : goal.loop-i-init
loop-i-init c = numbered_none operation_text c.args.text.now.items

pub loop-i-preserved : goal.loop-i-preserved
loop-i-preserved c = c.in_ok-push_operation.ensures ∙ numbered_step operation_text c.args.text.now.items c.loop-i.text.items c.args.ops.now
    c.loop-i.i c.index-ops-i.result
    c.loop-i-test.true c.index-ops-i.is c.loop-i.invariant
