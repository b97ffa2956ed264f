-- One more matrix.
use Rattle.std.proofs.Common.{◌∙◌}
use Rattle.irr_report.specs.Printed.{matrix_text}
use Rattle.irr_report.proofs.Pieces.{numbered_none, numbered_step}
use Rattle.irr_report.proofs.lines.push_matrices.Goals as goal

pub loop-i-init : goal.loop-i-init
loop-i-init g c = numbered_none (matrix_text {G = g.S.Scalar}) c.args.text.now.items

pub loop-i-preserved : goal.loop-i-preserved
loop-i-preserved g c = c.in_ok-push_matrix.ensures ∙ numbered_step (matrix_text {G = g.S.Scalar}) c.args.text.now.items c.loop-i.text.items
    c.args.mats.now c.loop-i.i
    c.index-mats-i.result c.loop-i-test.true c.index-mats-i.is c.loop-i.invariant
