-- The pieces so far.
use Rattle.std.proofs.Common.{◌≡◌, ◌++◌}
use Rattle.irr_algebra.specs.Fin.{Fin}
use Rattle.irr_text.specs.ReportText.{pieces}
use Rattle.irr_full_text.specs.Lines.{row_text}
use Rattle.irr_full_text.specs.Reading.{BlockRows}
use Rattle.irr_full_text.proofs.FirstPieces.{first_pieces}
use Rattle.irr_full_text.proofs.blocks.push_blocks.Given as goal

abbrev pub invariant-loop-i : goal.invariant-loop-i
invariant-loop-i g l = (e : BlockRows l.order.n l.family l.blocks)
    → l.text.items ≡ l.fn.text.items
    ++ first_pieces l.i (λ (p : Fin e.arms). pieces e.size (row_text e.number (e.block p)))
