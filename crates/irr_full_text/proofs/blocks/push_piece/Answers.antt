-- The block is in the row, or it is 0 there.
use Rattle.std.proofs.Common.{◌≡◌, ◌∙◌, ◌++◌, ap, sym, subst, List, ℕ}
use Rattle.std.specs.Prelude.{◌<◌}
use Rattle.irr_algebra.specs.Fin.{Fin, to_nat}
use Rattle.irr_text.specs.ReportText.{pieces}
use Rattle.irr_full_text.specs.Lines.{number_word}
use Rattle.irr_full_text.specs.Reading.{Piece}
use Rattle.irr_full_text.proofs.Entries.{zero_pieces}
use Rattle.irr_full_text.proofs.blocks.push_piece.Goals as goal

pub push_block_row-requires-clause-piece : goal.push_block_row-requires-clause-piece
push_block_row-requires-clause-piece g c = subst (λ n. Piece c.args.order.now.n c.args.family.now n c.args.block.now)
    (sym c.if-block-i.true) c.requires.piece

pub returns-then-block-i : goal.returns-then-block-i
returns-then-block-i g c = subst (λ n. (e : Piece c.args.order.now.n c.args.family.now n c.args.block.now)
    (q : Fin e.size) → to_nat q ≡ c.args.r
    → c.push_block_row.new.text.items ≡ c.args.text.now.items
    ++ pieces e.size (λ k. number_word e.number (e.matrix.at q k)))
    c.if-block-i.true c.in_ok-push_block_row.ensures

pub returns : goal.returns
returns g c = λ e q eq. c.in_ok-push_zeros.ensures e.number e.size
    (subst (λ n. 0 < n) e.is_order c.args.order.now.positive) e.is_small.size
    ∙ ap (λ (w : List ℕ). c.args.text.now.items ++ w) (zero_pieces e q c.if-block-i.false)
