-- The lines of the rows so far.
use Rattle.std.proofs.Common.{◌≡◌, ◌++◌, take}
use Rattle.irr_compat_text.specs.Printed.{rows_text}
use Rattle.irr_compat_text.proofs.rows.push_rows.Given as goal

abbrev pub invariant-loop-row : goal.invariant-loop-row
invariant-loop-row l = l.text.items ≡ l.fn.text.items ++ rows_text (take l.row-index l.rows)
