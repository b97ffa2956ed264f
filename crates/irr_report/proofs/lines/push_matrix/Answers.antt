-- One more row.
use Rattle.std.proofs.Common.{◌∙◌, ap, subst, ◌++◌, ◌∷◌, [], List, ℕ, ◌≤◌}
use Rattle.std.specs.Prelude.{codes}
use Rattle.std.specs.Fmt.{decimal}
use Rattle.irr_report.specs.Printed.{values_text}
use Rattle.irr_report.proofs.LineTexts.{values_rows_none, values_rows, values_rows_all, matrix-parts}
use Rattle.irr_report.proofs.lines.push_matrix.Goals as goal

pub loop-i-init : goal.loop-i-init
loop-i-init g c = c.in_ok-extend_from_slice.ensures.items
    ∙ ap (λ (t : List ℕ). c.args.text.now.items ++ t) (c.as_bytes.ensures.value ∙ c.in_ok-format.ensures.ok)
    ∙ values_rows_none g.S.Scalar.order_of g.S.Scalar.value (c.args.text.now.items ++ (codes "mat " ++ decimal c.args.number))
    c.args.m.now.entries.items c.args.m.now.cols

pub loop-i-preserved : goal.loop-i-preserved
loop-i-preserved g c = c.in_ok-push_row.ensures
    ∙ values_rows g.S.Scalar.order_of g.S.Scalar.value (c.args.text.now.items ++ (codes "mat " ++ decimal c.args.number)) c.loop-i.text.items
    c.args.m.now.entries.items c.loop-i.i
    c.args.m.now.cols c.loop-i.invariant

pub returns : goal.returns
returns g c = let m = c.args.m.now in
    c.in_ok-push.ensures.items ∙ ap (λ (t : List ℕ). t ++ 10 ∷ [])
    (values_rows_all g.S.Scalar.order_of g.S.Scalar.value (c.args.text.now.items ++ (codes "mat " ++ decimal c.args.number)) c.loop-i.text.items
    m.entries.items c.loop-i.i m.rows m.cols
    m.filled (subst (λ (r : ℕ). r ≤ c.loop-i.i) c.rows-i-end.ensures.value c.loop-i-test.false) c.loop-i.invariant)
    ∙ matrix-parts c.args.text.now.items (decimal c.args.number) (values_text g.S.Scalar.order_of g.S.Scalar.value m.entries.items)
