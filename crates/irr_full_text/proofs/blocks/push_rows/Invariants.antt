-- The pieces so far.
use Rattle.std.proofs.Common.{◌≡◌, ◌++◌}
use Rattle.irr_algebra.specs.Fin.{Fin, to_nat}
use Rattle.irr_full_text.specs.Lines.{row_text}
use Rattle.irr_full_text.specs.Reading.{BlockRows}
use Rattle.irr_full_text.proofs.FirstPieces.{first_pieces}
use Rattle.irr_full_text.proofs.blocks.push_rows.Given as goal

abbrev pub invariant-loop-r : goal.invariant-loop-r
invariant-loop-r g l = (e : BlockRows l.order.n l.family l.blocks) (p : Fin e.arms) → to_nat p ≡ l.i
    → l.text.items ≡ l.fn.text.items ++ first_pieces l.r (row_text e.number (e.block p))
