-- The lines of the generators so far.
use Rattle.std.proofs.Common.{◌≡◌, ◌++◌, take}
use Rattle.irr_report.specs.Printed.{numbered}
use Rattle.irr_full_text.specs.Lines.{generator_text}
use Rattle.irr_full_text.proofs.lines.push_generators.Given as goal

abbrev pub invariant-loop-i : goal.invariant-loop-i
invariant-loop-i l = l.text.items ≡ l.fn.text.items ++ numbered generator_text 1 (take l.i l.gens)
