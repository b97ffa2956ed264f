-- One more entry.
use Rattle.std.proofs.Common.{◌∙◌, ap, subst, ◌+◌, ◌<◌, ◌≤◌, List, ℕ, [], ◌∷◌, ◌++◌}
use Rattle.std.specs.Prelude.{codes}
use Rattle.std.specs.Fmt.{decimal}
use Rattle.irr_algebra.proofs.Indices.{from_nat, to_nat-from_nat}
use Rattle.irr_rep.specs.Twisted.{phase_table, place_count}
use Rattle.irr_top.specs.StarText.{factor}
use Rattle.irr_top.proofs.FirstPieces.{pieces_none, pieces_step, pieces_all}
use Rattle.irr_top.proofs.StarTexts.{row-parts}
use Rattle.irr_top.proofs.star.push_row.Goals as goal

pub loop-j-init : goal.loop-j-init
loop-j-init c = λ p e. c.in_ok-extend_from_slice.ensures.items
    ∙ ap (λ (t : List ℕ). c.args.text.now.items ++ t) (c.as_bytes.ensures.value ∙ c.in_ok-format.ensures.ok)
    ∙ pieces_none (c.args.text.now.items ++ (codes "factor " ++ decimal (c.args.i + 1))) (factor (phase_table c.args.t.now) p)

pub loop-j-preserved : goal.loop-j-preserved
loop-j-preserved c = λ p e.
    let h = place_count c.args.t.now in
    let inside : c.loop-j.j < h = subst (λ n. c.loop-j.j < n) c.len-j-end.ensures.count c.loop-j-test.true in
    c.in_ok-push_factor.ensures p (from_nat h c.loop-j.j inside) e (to_nat-from_nat h c.loop-j.j inside)
    ∙ pieces_step (c.args.text.now.items ++ (codes "factor " ++ decimal (c.args.i + 1))) (factor (phase_table c.args.t.now) p)
    c.loop-j.text.items c.loop-j.j (from_nat h c.loop-j.j inside) (to_nat-from_nat h c.loop-j.j inside) (c.loop-j.invariant p e)

pub returns : goal.returns
returns c = λ p e. c.in_ok-push.ensures.items
    ∙ ap (λ (t : List ℕ). t ++ 10 ∷ []) (pieces_all (c.args.text.now.items ++ (codes "factor " ++ decimal (c.args.i + 1)))
    (factor (phase_table c.args.t.now) p) c.loop-j.text.items c.loop-j.j
    (subst (λ n. n ≤ c.loop-j.j) c.len-j-end.ensures.count c.loop-j-test.false) (c.loop-j.invariant p e))
    ∙ row-parts c.args.text.now.items (phase_table c.args.t.now) p c.args.i e
