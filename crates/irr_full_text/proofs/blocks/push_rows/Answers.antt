-- One more row.
use Rattle.std.proofs.Common.{◌∙◌, ◌<◌, ◌≤◌, subst}
use Rattle.irr_algebra.proofs.Indices.{from_nat, to_nat-from_nat}
use Rattle.irr_full_text.specs.Lines.{row_text}
use Rattle.irr_full_text.proofs.FirstPieces.{pieces_none, pieces_step, pieces_all}
use Rattle.irr_full_text.proofs.blocks.push_rows.Goals as goal

pub loop-r-init : goal.loop-r-init
loop-r-init g c = λ e p ep. pieces_none c.args.text.now.items (row_text e.number (e.block p))

pub loop-r-preserved : goal.loop-r-preserved
loop-r-preserved g c = λ e p ep.
    let inside : c.loop-r.r < e.size = subst (λ n. c.loop-r.r < n) e.is_small.size c.loop-r-test.true in
    let at = from_nat e.size c.loop-r.r inside in
    let is = to_nat-from_nat e.size c.loop-r.r inside in
    c.in_ok-push_row.ensures e p at ep is
    ∙ pieces_step c.args.text.now.items (row_text e.number (e.block p)) c.loop-r.text.items c.loop-r.r at is
    (c.loop-r.invariant e p ep)

pub returns : goal.returns
returns g c = λ e p ep. pieces_all c.args.text.now.items (row_text e.number (e.block p)) c.loop-r.text.items c.loop-r.r
    (subst (λ n. n ≤ c.loop-r.r) e.is_small.size c.loop-r-test.false) (c.loop-r.invariant e p ep)
