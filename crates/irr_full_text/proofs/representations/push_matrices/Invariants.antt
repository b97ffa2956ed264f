-- The lines of the matrices so far.
use Rattle.std.proofs.Common.{◌≡◌, ◌++◌, take}
use Rattle.irr_report.specs.Printed.{numbered}
use Rattle.irr_full_text.specs.Lines.{matrix_text}
use Rattle.irr_full_text.specs.Reading.{Reading}
use Rattle.irr_full_text.proofs.representations.push_matrices.Given as goal

abbrev pub invariant-loop-i : goal.invariant-loop-i
invariant-loop-i g l = (e : Reading l.full) → l.text.items ≡ l.fn.text.items
    ++ numbered (matrix_text e.number e.matrix) 1 (take l.i l.gens)
