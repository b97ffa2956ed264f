-- The numbers so far.
use Rattle.std.proofs.Common.{◌≡◌, ◌++◌, take}
use Rattle.irr_report.specs.Printed.{values_text}
use Rattle.irr_compat_text.proofs.lines.push_values.Given as goal

abbrev pub invariant-loop-x : goal.invariant-loop-x
invariant-loop-x g l = l.text.items ≡ l.fn.text.items ++ values_text g.S.Scalar.order_of g.S.Scalar.value (take l.x-index l.row)
