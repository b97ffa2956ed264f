-- The lines of the arms so far.
use Rattle.std.proofs.Common.{◌≡◌, ◌++◌, take}
use Rattle.irr_seitz.specs.declared.op.Op.{Op}
use Rattle.irr_report.specs.Printed.{numbered}
use Rattle.irr_full_text.specs.Lines.{arm_text}
use Rattle.irr_full_text.proofs.lines.push_arms.Given as goal

abbrev pub invariant-loop-i : goal.invariant-loop-i
invariant-loop-i l = (d : Op) → l.text.items ≡ l.fn.text.items ++ numbered (arm_text l.ops d) 1 (take l.i l.arms)
