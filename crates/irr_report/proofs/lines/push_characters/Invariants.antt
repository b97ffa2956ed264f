-- The characters so far.
use Rattle.std.proofs.Common.{◌≡◌, ◌++◌, take}
use Rattle.std.specs.Prelude.{codes}
use Rattle.irr_report.specs.Printed.{values_text}
use Rattle.irr_report.proofs.lines.push_characters.Given as goal

abbrev pub invariant-loop-x : goal.invariant-loop-x
invariant-loop-x g l = l.text.items ≡ (l.fn.text.items ++ codes "char") ++ values_text g.S.Scalar.order_of g.S.Scalar.value (take l.x-index l.chars)
