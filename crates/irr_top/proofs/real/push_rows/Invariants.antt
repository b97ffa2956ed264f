-- The lines so far.
use Rattle.std.proofs.Common.{◌≡◌, ◌++◌, take}
use Rattle.irr_report.specs.Printed.{numbered}
use Rattle.irr_top.specs.RealFamilies.{row_text}
use Rattle.irr_top.proofs.real.push_rows.Given as goal

abbrev pub invariant-loop-i : goal.invariant-loop-i
invariant-loop-i l = l.text.items ≡ l.fn.text.items ++ numbered row_text 1 (take l.i l.rows)
