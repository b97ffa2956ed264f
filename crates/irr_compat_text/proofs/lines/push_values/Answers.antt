-- One more number.
use Rattle.std.proofs.Common.{◌∙◌}
use Rattle.irr_report.proofs.LineTexts.{values_none, values_step}
use Rattle.irr_compat_text.proofs.lines.push_values.Goals as goal

pub loop-x-init : goal.loop-x-init
loop-x-init g c = values_none g.S.Scalar.order_of g.S.Scalar.value c.args.text.now.items

pub loop-x-preserved : goal.loop-x-preserved
loop-x-preserved g c = c.in_ok-push_value.ensures ∙ values_step g.S.Scalar.order_of g.S.Scalar.value c.args.text.now.items c.loop-x.text.items
    c.args.row.now c.loop-x.x-index c.x-item.result c.loop-x-test.true c.x-item.is c.loop-x.invariant
