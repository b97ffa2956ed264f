-- One more representation.
use Rattle.std.proofs.Common.{◌∙◌}
use Rattle.irr_report.specs.Printed.{representation_text}
use Rattle.irr_report.proofs.Pieces.{numbered_none, numbered_step}
use Rattle.irr_report.proofs.print.push_representations.Goals as goal

pub loop-i-init : goal.loop-i-init
loop-i-init g c = numbered_none (representation_text {G = g.S.Scalar}) c.args.text.now.items

pub loop-i-preserved : goal.loop-i-preserved
loop-i-preserved g c = c.in_ok-push_representation.ensures ∙ numbered_step (representation_text {G = g.S.Scalar}) c.args.text.now.items
    c.loop-i.text.items
    c.args.reps.now c.loop-i.i c.index-reps-i.result c.loop-i-test.true c.index-reps-i.is c.loop-i.invariant
