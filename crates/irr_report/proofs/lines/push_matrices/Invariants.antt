-- The lines of the matrices so far.
use Rattle.std.proofs.Common.{◌≡◌, ◌++◌, take}
use Rattle.irr_report.specs.Printed.{numbered, matrix_text}
use Rattle.irr_report.proofs.lines.push_matrices.Given as goal

abbrev pub invariant-loop-i : goal.invariant-loop-i
invariant-loop-i g l = l.text.items ≡ l.fn.text.items ++ numbered matrix_text 1 (take l.i l.mats)
