-- The entries of the row so far.
use Rattle.std.proofs.Common.{◌≡◌, ◌++◌}
use Rattle.irr_algebra.specs.Fin.{Fin, to_nat}
use Rattle.irr_full_text.specs.Lines.{number_word}
use Rattle.irr_full_text.specs.Reading.{Piece}
use Rattle.irr_full_text.proofs.FirstPieces.{first_pieces}
use Rattle.irr_full_text.proofs.blocks.push_block_row.Given as goal

abbrev pub invariant-loop-c : goal.invariant-loop-c
invariant-loop-c g l = (e : Piece l.order.n l.family l.block.row l.block) (q : Fin e.size) → to_nat q ≡ l.r
    → l.text.items ≡ l.fn.text.items ++ first_pieces l.c (λ (c : Fin e.size). number_word e.number (e.matrix.at q c))
