-- The operations of the lines so far.
use Rattle.std.proofs.Common.{◌≡◌, map, take}
use Rattle.irr_input.specs.declared.input.GenLine.{GenLine}
use Rattle.irr_top.proofs.answer.operations.Given as goal

abbrev pub invariant-loop-line : goal.invariant-loop-line
invariant-loop-line l = l.ops.items ≡ map (λ (g : GenLine). g.op) (take l.line-index l.lines)
