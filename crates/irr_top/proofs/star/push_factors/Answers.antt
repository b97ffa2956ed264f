-- One more row.
use Rattle.std.proofs.Common.{◌∙◌, subst, ◌<◌, ◌≤◌}
use Rattle.irr_algebra.proofs.Indices.{from_nat, to_nat-from_nat}
use Rattle.irr_rep.specs.Twisted.{phase_table, place_count}
use Rattle.irr_top.specs.StarText.{factors}
use Rattle.irr_top.proofs.FirstPieces.{pieces_none, pieces_step, pieces_all}
use Rattle.irr_top.proofs.star.push_factors.Goals as goal

pub loop-i-init : goal.loop-i-init
loop-i-init c = pieces_none c.args.text.now.items (factors (phase_table c.args.t.now))

pub loop-i-preserved : goal.loop-i-preserved
loop-i-preserved c =
    let h = place_count c.args.t.now in
    let inside : c.loop-i.i < h = subst (λ n. c.loop-i.i < n) c.len-i-end.ensures.count c.loop-i-test.true in
    c.in_ok-push_row.ensures (from_nat h c.loop-i.i inside) (to_nat-from_nat h c.loop-i.i inside)
    ∙ pieces_step c.args.text.now.items (factors (phase_table c.args.t.now)) c.loop-i.text.items c.loop-i.i (from_nat h c.loop-i.i inside)
    (to_nat-from_nat h c.loop-i.i inside) c.loop-i.invariant

pub returns : goal.returns
returns c = pieces_all c.args.text.now.items (factors (phase_table c.args.t.now)) c.loop-i.text.items c.loop-i.i
    (subst (λ n. n ≤ c.loop-i.i) c.len-i-end.ensures.count c.loop-i-test.false) c.loop-i.invariant
