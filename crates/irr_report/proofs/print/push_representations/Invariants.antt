-- The lines of the representations so far.
use Rattle.std.proofs.Common.{◌≡◌, ◌++◌, take}
use Rattle.irr_report.specs.Printed.{numbered, representation_text}
use Rattle.irr_report.proofs.print.push_representations.Given as goal

abbrev pub invariant-loop-i : goal.invariant-loop-i
invariant-loop-i g l = l.text.items ≡ l.fn.text.items ++ numbered representation_text 1 (take l.i l.reps)
