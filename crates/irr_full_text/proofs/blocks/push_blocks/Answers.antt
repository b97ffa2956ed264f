-- The rows of one more arm.
use Rattle.std.proofs.Common.{◌∙◌, ◌<◌, ◌≤◌, subst}
use Rattle.irr_algebra.specs.Fin.{Fin}
use Rattle.irr_algebra.proofs.Indices.{from_nat, to_nat-from_nat}
use Rattle.irr_text.specs.ReportText.{pieces}
use Rattle.irr_full_text.specs.Lines.{row_text}
use Rattle.irr_full_text.proofs.FirstPieces.{pieces_none, pieces_step, pieces_all}
use Rattle.irr_full_text.proofs.blocks.push_blocks.Goals as goal

pub loop-i-init : goal.loop-i-init
loop-i-init g c = λ e. pieces_none c.args.text.now.items
    (λ (p : Fin e.arms). pieces e.size (row_text e.number (e.block p)))

pub loop-i-preserved : goal.loop-i-preserved
loop-i-preserved g c = λ e.
    let inside : c.loop-i.i < e.arms = subst (λ n. c.loop-i.i < n) e.count c.loop-i-test.true in
    let at = from_nat e.arms c.loop-i.i inside in
    let is = to_nat-from_nat e.arms c.loop-i.i inside in
    c.in_ok-push_rows.ensures e at is
    ∙ pieces_step c.args.text.now.items (λ (p : Fin e.arms). pieces e.size (row_text e.number (e.block p)))
    c.loop-i.text.items c.loop-i.i at is
    (c.loop-i.invariant e)

pub returns : goal.returns
returns g c = λ e. pieces_all c.args.text.now.items (λ (p : Fin e.arms). pieces e.size (row_text e.number (e.block p)))
    c.loop-i.text.items c.loop-i.i
    (subst (λ n. n ≤ c.loop-i.i) e.count c.loop-i-test.false) (c.loop-i.invariant e)
