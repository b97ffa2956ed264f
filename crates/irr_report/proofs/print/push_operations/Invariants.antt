-- The lines of the operations so far.
use Rattle.std.proofs.Common.{◌≡◌, ◌++◌, take}
use Rattle.irr_report.specs.Printed.{numbered, operation_text}
use Rattle.irr_report.proofs.print.push_operations.Given as goal

abbrev pub invariant-loop-i : goal.invariant-loop-i
invariant-loop-i l = l.text.items ≡ l.fn.text.items ++ numbered operation_text 1 (take l.i l.ops)
