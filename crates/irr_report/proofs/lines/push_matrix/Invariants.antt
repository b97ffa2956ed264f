-- The rows so far.
use Rattle.std.proofs.Common.{◌≡◌, ◌++◌, ◌*◌, take}
use Rattle.std.specs.Prelude.{codes}
use Rattle.std.specs.Fmt.{decimal}
use Rattle.irr_report.specs.Printed.{values_text}
use Rattle.irr_report.proofs.lines.push_matrix.Given as goal

abbrev pub invariant-loop-i : goal.invariant-loop-i
invariant-loop-i g l = l.text.items ≡ (l.fn.text.items ++ (codes "mat " ++ decimal l.fn.number))
    ++ values_text g.S.Scalar.order_of g.S.Scalar.value (take (l.i * l.m.cols) l.m.entries.items)
