-- One more entry.
use Rattle.std.proofs.Common.{◌∙◌, ◌++◌, ◌<◌, ◌≤◌, ap, sym, subst, refl, List, ℕ, rules}
use Rattle.irr_algebra.specs.Fin.{Fin}
use Rattle.irr_algebra.proofs.Indices.{from_nat, to_nat-from_nat}
use Rattle.irr_full_text.specs.Lines.{number_word}
use Rattle.irr_full_text.proofs.FirstPieces.{pieces_none, pieces_step, pieces_all}
use Rattle.irr_full_text.proofs.Entries.{piece_inside, piece_rows, piece_cols, piece_order, piece_denominator, piece_size, piece_word}
use Rattle.irr_full_text.proofs.blocks.push_block_row.Goals as goal

pub index-matrix-requires : goal.index-matrix-requires
index-matrix-requires g c = let l = piece_inside c.requires.piece in search rules

pub loop-c-init : goal.loop-c-init
loop-c-init g c = λ e q eq. pieces_none c.args.text.now.items (λ (c : Fin e.size). number_word e.number
    (e.matrix.at q c))

pub at-requires-clause-row : goal.at-requires-clause-row
at-requires-clause-row g c = subst (λ n. c.args.r < n)
    (sym (piece_rows c.requires.piece c.index-matrix.result.now c.index-matrix.ensures)) c.requires.row

pub at-requires-clause-column : goal.at-requires-clause-column
at-requires-clause-column g c = subst (λ n. c.loop-c.c < n)
    (sym (piece_cols c.requires.piece c.index-matrix.result.now c.index-matrix.ensures))
    c.loop-c-test.true

pub push_turned-requires-clause-order : goal.push_turned-requires-clause-order
push_turned-requires-clause-order g c = piece_order c.requires.piece c.index-matrix.result.now c.index-matrix.ensures
    c.args.r c.loop-c.c c.at.result.now
    c.at.ensures.entry c.at.ensures.order

pub push_turned-requires-clause-denominator : goal.push_turned-requires-clause-denominator
push_turned-requires-clause-denominator g c = piece_denominator c.requires.piece c.index-matrix.result.now
    c.index-matrix.ensures c.args.r c.loop-c.c
    c.at.result.now c.at.ensures.entry c.args.order.now.positive c.requires.row c.loop-c-test.true

pub push_turned-requires-clause-size : goal.push_turned-requires-clause-size
push_turned-requires-clause-size g c = piece_size c.requires.piece c.index-matrix.result.now c.index-matrix.ensures
    c.args.r c.loop-c.c
    c.at.result.now c.at.ensures.entry c.args.order.now.positive c.args.order.now.limited c.requires.row
    c.loop-c-test.true

pub loop-c-preserved : goal.loop-c-preserved
loop-c-preserved g c = λ e q eq.
    let inside : c.loop-c.c < e.size = subst (λ n. c.loop-c.c < n) e.is_small.size c.loop-c-test.true in
    let at = from_nat e.size c.loop-c.c inside in
    let is = to_nat-from_nat e.size c.loop-c.c inside in
    c.in_ok-push_turned.ensures
    ∙ ap (λ (w : List ℕ). c.loop-c.text.items ++ w) (piece_word e c.index-matrix.result.now c.index-matrix.ensures
    c.args.r c.loop-c.c c.at.result.now
    c.at.ensures.entry q at eq is refl)
    ∙ pieces_step c.args.text.now.items (λ (c : Fin e.size). number_word e.number (e.matrix.at q c))
    c.loop-c.text.items c.loop-c.c at is
    (c.loop-c.invariant e q eq)

pub returns : goal.returns
returns g c = λ e q eq. pieces_all c.args.text.now.items (λ (c : Fin e.size). number_word e.number (e.matrix.at q c))
    c.loop-c.text.items c.loop-c.c
    (subst (λ n. n ≤ c.loop-c.c) e.is_small.size c.loop-c-test.false) (c.loop-c.invariant e q eq)
