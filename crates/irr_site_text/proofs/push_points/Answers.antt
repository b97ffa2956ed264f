-- One more line.
use Rattle.std.proofs.Common.{◌∙◌}
use Rattle.irr_report.proofs.Pieces.{numbered_none, numbered_step}
use Rattle.irr_rat.specs.VectorMeaning.{vector}
use Rattle.irr_rat.specs.declared.vec3.Vec3.{Vec3}
use Rattle.irr_site_text.specs.SiteText.{site_line}
use Rattle.irr_site_text.proofs.push_points.Goals as goal

pub loop-i-init : goal.loop-i-init
loop-i-init c = numbered_none (λ k (x : Vec3). site_line k (vector x)) c.args.text.now.items

pub loop-i-preserved : goal.loop-i-preserved
loop-i-preserved c = c.in_ok-push_point.ensures ∙ numbered_step (λ k (x : Vec3). site_line k (vector x)) c.args.text.now.items c.loop-i.text.items
    c.args.points.now c.loop-i.i c.index-points-i.result c.loop-i-test.true c.index-points-i.is c.loop-i.invariant
