-- The entries of the row so far.
use Rattle.std.proofs.Common.{◌≡◌, ◌++◌, ◌*◌, take, drop}
use Rattle.irr_report.specs.Printed.{values_text}
use Rattle.irr_report.proofs.lines.push_row.Given as goal

abbrev pub invariant-loop-j : goal.invariant-loop-j
invariant-loop-j g l = l.text.items ≡ l.fn.text.items
    ++ values_text g.S.Scalar.order_of g.S.Scalar.value (take l.j (drop (l.i * l.m.cols) l.m.entries.items))
