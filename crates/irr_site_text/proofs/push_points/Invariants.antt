-- The lines so far.
use Rattle.std.proofs.Common.{◌≡◌, ◌++◌, take}
use Rattle.irr_report.specs.Printed.{numbered}
use Rattle.irr_rat.specs.VectorMeaning.{vector}
use Rattle.irr_rat.specs.declared.vec3.Vec3.{Vec3}
use Rattle.irr_site_text.specs.SiteText.{site_line}
use Rattle.irr_site_text.proofs.push_points.Given as goal

abbrev pub invariant-loop-i : goal.invariant-loop-i
invariant-loop-i l = l.text.items ≡ l.fn.text.items ++ numbered (λ k (x : Vec3). site_line k (vector x)) 1 (take l.i l.points)
