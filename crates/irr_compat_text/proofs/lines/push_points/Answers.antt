-- One more point.
use Rattle.std.proofs.Common.{◌≡◌, ◌∙◌, ◌+◌, arith}
use Rattle.irr_compat_text.specs.Printed.{point_text}
use Rattle.irr_compat_text.proofs.Numbers.{numbered_first, numbered_next}
use Rattle.irr_compat_text.proofs.lines.push_points.Goals as goal

pub loop-i-init : goal.loop-i-init
loop-i-init c = numbered_first point_text 0 c.args.text.now.items

pub loop-i-preserved : goal.loop-i-preserved
loop-i-preserved c = c.in_ok-push_point.ensures ∙ numbered_next point_text 0 c.args.text.now.items c.loop-i.text.items c.args.points.now c.loop-i.i c.loop-i.i
    c.index-points-i.result (let e : c.loop-i.i ≡ 0 + c.loop-i.i = omega arith in e) c.loop-i-test.true c.index-points-i.is c.loop-i.invariant
