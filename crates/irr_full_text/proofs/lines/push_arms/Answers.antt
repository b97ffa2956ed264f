-- One more arm.
use Rattle.std.proofs.Common.{◌∙◌, ap, ◌+◌, ◌++◌}
use Rattle.irr_seitz.specs.OperationMeaning.{operation}
use Rattle.irr_seitz.specs.declared.op.Op.{Op}
use Rattle.irr_kvec.specs.WaveMeaning.{wave_vector}
use Rattle.irr_report.proofs.Pieces.{numbered_none, numbered_step}
use Rattle.irr_full_text.specs.Lines.{arm_words, arm_text}
use Rattle.irr_full_text.proofs.Texts.{arm_inside, listed_item}
use Rattle.irr_full_text.proofs.lines.push_arms.Goals as goal

pub bounds-ops-arm : goal.bounds-ops-arm
bounds-ops-arm c = arm_inside c.args.ops.now c.args.arms.now c.requires c.loop-i.i c.index-arms-i.result
    c.loop-i-test.true c.index-arms-i.is

pub loop-i-init : goal.loop-i-init
loop-i-init c = λ d. numbered_none (arm_text c.args.ops.now d) c.args.text.now.items

pub loop-i-preserved : goal.loop-i-preserved
loop-i-preserved c = λ d.
    let arm = c.index-arms-i.result in
    let inside = arm_inside c.args.ops.now c.args.arms.now c.requires c.loop-i.i arm c.loop-i-test.true
    c.index-arms-i.is in
    c.in_ok-push_arm.ensures
    ∙ ap (λ (g : Op). c.loop-i.text.items ++ arm_words (c.loop-i.i + 1) (wave_vector arm.wave) (operation g))
    (listed_item c.args.ops.now arm.op c.index-ops-arm.result d inside c.index-ops-arm.is)
    ∙ numbered_step (arm_text c.args.ops.now d) c.args.text.now.items c.loop-i.text.items c.args.arms.now c.loop-i.i
    arm c.loop-i-test.true
    c.index-arms-i.is (c.loop-i.invariant d)
