-- The text of the lines so far.
use Rattle.std.proofs.Common.{◌≡◌, map, take}
use Rattle.irr_seitz.specs.OperationMeaning.{operation}
use Rattle.irr_gen.specs.MadeInput.{lines_text}
use Rattle.irr_gen.proofs.lines.lines_text.Given as goal

abbrev pub invariant-loop-op : goal.invariant-loop-op
invariant-loop-op l = l.text.items ≡ lines_text (map operation (take l.op-index l.ops))
