-- The lines of the operations so far.
use Rattle.std.proofs.Common.{◌≡◌, ◌++◌, take}
use Rattle.irr_seitz.specs.declared.op.Op.{Op}
use Rattle.irr_rep.specs.Twisted.{operation_places}
use Rattle.irr_report.specs.Printed.{numbered}
use Rattle.irr_compat_text.specs.Printed.{place_line}
use Rattle.irr_compat_text.proofs.lines.push_places.Given as goal

abbrev pub invariant-loop-i : goal.invariant-loop-i
invariant-loop-i l = (d : Op) → l.text.items ≡ l.fn.text.items ++ numbered (place_line l.ops d) 1 (take l.i (operation_places l.line))
