-- One more block.
use Rattle.std.proofs.Common.{◌∙◌, ◌<◌, ◌≤◌, subst}
use Rattle.irr_algebra.specs.Fin.{Fin}
use Rattle.irr_algebra.proofs.Indices.{from_nat, to_nat-from_nat}
use Rattle.irr_text.specs.ReportText.{pieces}
use Rattle.irr_full_text.specs.Lines.{number_word}
use Rattle.irr_full_text.proofs.FirstPieces.{pieces_none, pieces_step, pieces_all}
use Rattle.irr_full_text.proofs.Rows.{piece_at}
use Rattle.irr_full_text.proofs.blocks.push_row.Goals as goal

pub loop-block-init : goal.loop-block-init
loop-block-init g c = λ e p q ep eq. pieces_none c.args.text.now.items
    (λ (j : Fin e.arms). pieces e.size (λ c. number_word e.number ((e.block p j).at q c)))

pub push_piece-requires-clause-piece : goal.push_piece-requires-clause-piece
push_piece-requires-clause-piece g c =
    let e = c.requires.blocks in
    let here : c.args.i < e.arms = subst (λ n. c.args.i < n) e.count c.requires.arm in
    let inside : c.loop-block.block-index < e.arms = subst (λ n. c.loop-block.block-index < n) e.count
    c.loop-block-test.true in
    piece_at e (from_nat e.arms c.args.i here) (from_nat e.arms c.loop-block.block-index inside) c.args.i
    c.loop-block.block-index
    (to_nat-from_nat e.arms c.args.i here) (to_nat-from_nat e.arms c.loop-block.block-index inside)

pub loop-block-preserved : goal.loop-block-preserved
loop-block-preserved g c = λ e p q ep eq.
    let inside : c.loop-block.block-index < e.arms = subst (λ n. c.loop-block.block-index < n) e.count
    c.loop-block-test.true in
    let at = from_nat e.arms c.loop-block.block-index inside in
    let is = to_nat-from_nat e.arms c.loop-block.block-index inside in
    c.in_ok-push_piece.ensures (piece_at e p at c.args.i c.loop-block.block-index ep is) q eq
    ∙ pieces_step c.args.text.now.items
    (λ (j : Fin e.arms). pieces e.size (λ c. number_word e.number ((e.block p j).at q c))) c.loop-block.text.items
    c.loop-block.block-index at is (c.loop-block.invariant e p q ep eq)

pub returns : goal.returns
returns g c = λ e p q ep eq. pieces_all c.args.text.now.items
    (λ (j : Fin e.arms). pieces e.size (λ c. number_word e.number ((e.block p j).at q c)))
    c.loop-block.text.items c.loop-block.block-index (subst (λ n. n ≤ c.loop-block.block-index) e.count
    c.loop-block-test.false) (c.loop-block.invariant e p q ep eq)
