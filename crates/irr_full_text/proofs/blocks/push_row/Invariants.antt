-- The pieces so far.
use Rattle.std.proofs.Common.{◌≡◌, ◌++◌}
use Rattle.irr_algebra.specs.Fin.{Fin, to_nat}
use Rattle.irr_text.specs.ReportText.{pieces}
use Rattle.irr_full_text.specs.Lines.{number_word}
use Rattle.irr_full_text.specs.Reading.{BlockRows}
use Rattle.irr_full_text.proofs.FirstPieces.{first_pieces}
use Rattle.irr_full_text.proofs.blocks.push_row.Given as goal

abbrev pub invariant-loop-block : goal.invariant-loop-block
invariant-loop-block g l = (e : BlockRows l.order.n l.family l.blocks) (p : Fin e.arms) (q : Fin e.size) → to_nat p
    ≡ l.i → to_nat q ≡ l.r
    → l.text.items ≡ l.fn.text.items
    ++ first_pieces l.block-index (λ (j : Fin e.arms). pieces e.size (λ c. number_word e.number ((e.block p j).at q c)))
