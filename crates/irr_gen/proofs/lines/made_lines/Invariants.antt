-- The lines so far, and the number then.
use Rattle.std.proofs.Common.{◌<◌, ◌≤◌, length, map}
use Rattle.std.specs.List.{All}
use Rattle.irr_seitz.specs.OperationMeaning.{operation}
use Rattle.irr_gen.specs.MadeInput.{AreMadeLinesTo}
use Rattle.irr_gen.specs.Signed.{IsSigned}
use Rattle.irr_gen.proofs.lines.made_lines.Given as goal

abbrev pub invariant-loop : goal.invariant-loop
invariant-loop l = record {
  some : 0 < length l.lines.items;
  signed : All IsSigned l.lines.items;
  made : AreMadeLinesTo (map operation l.fn.generators.items) l.fn.number l.counter (map operation l.lines.items) l.draws.number;
  within : l.counter ≤ 2000;
}
