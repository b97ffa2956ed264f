-- The lines of the points so far.
use Rattle.std.proofs.Common.{◌≡◌, ◌++◌, take}
use Rattle.irr_report.specs.Printed.{numbered}
use Rattle.irr_compat_text.specs.Printed.{point_text}
use Rattle.irr_compat_text.proofs.lines.push_points.Given as goal

abbrev pub invariant-loop-i : goal.invariant-loop-i
invariant-loop-i l = l.text.items ≡ l.fn.text.items ++ numbered point_text 0 (take l.i l.points)
