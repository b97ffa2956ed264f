-- The lines so far.
use Rattle.std.proofs.Common.{◌≡◌, ◌++◌, map, take}
use Rattle.std.specs.List.{flat_map}
use Rattle.irr_power.specs.Squares.{square_entry}
use Rattle.irr_power.specs.SquareText.{square_lines}
use Rattle.irr_power.proofs.text.push_squares.Given as goal

abbrev pub invariant-loop-square : goal.invariant-loop-square
invariant-loop-square l = l.text.items
    ≡ l.fn.text.items ++ flat_map square_lines (map square_entry (take l.square-index l.squares))
