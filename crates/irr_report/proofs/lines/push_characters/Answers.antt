-- One more character.
use Rattle.std.proofs.Common.{◌∙◌, ◌++◌}
use Rattle.std.specs.Prelude.{codes}
use Rattle.irr_report.proofs.LineTexts.{values_none, values_step}
use Rattle.irr_report.proofs.lines.push_characters.Goals as goal

pub loop-x-init : goal.loop-x-init
loop-x-init g c = c.in_ok-extend_from_slice.ensures.items ∙ values_none g.S.Scalar.order_of g.S.Scalar.value (c.args.text.now.items ++ codes "char")

pub loop-x-preserved : goal.loop-x-preserved
loop-x-preserved g c = c.in_ok-push_value.ensures ∙ values_step g.S.Scalar.order_of g.S.Scalar.value (c.args.text.now.items ++ codes "char")
    c.loop-x.text.items c.args.chars.now
    c.loop-x.x-index c.x-item.result c.loop-x-test.true c.x-item.is c.loop-x.invariant
