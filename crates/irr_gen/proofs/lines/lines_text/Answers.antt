-- One more line.
use Rattle.std.proofs.Common.{◌∙◌, ap, map}
use Rattle.std.proofs.lemmas.List.{take_all}
use Rattle.irr_seitz.specs.OperationMeaning.{operation}
use Rattle.irr_gen.specs.MadeInput.{lines_text}
use Rattle.irr_gen.proofs.MadeLines.{text_step}
use Rattle.irr_gen.proofs.lines.lines_text.Goals as goal

pub loop-op-preserved : goal.loop-op-preserved
loop-op-preserved c = c.in_ok-push_line.ensures ∙ text_step c.loop-op.text.items c.args.ops.now c.loop-op.op-index c.op-item.result c.loop-op-test.true
    c.op-item.is c.loop-op.invariant

pub returns : goal.returns
returns c = c.loop-op.invariant ∙ ap (λ ops. lines_text (map operation ops)) (take_all c.loop-op.op-index c.args.ops.now c.loop-op-test.false)
