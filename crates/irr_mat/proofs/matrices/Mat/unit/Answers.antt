-- The unit matrix.
use Rattle.std.proofs.Common.{◌≡◌, ◌∙◌, sym, ap}
use Rattle.irr_algebra.specs.Matrix.{unit}
use Rattle.irr_algebra.specs.Fin.{to_nat}
use Rattle.irr_algebra.proofs.Indices.{to_nat_inj}
use Rattle.irr_algebra.proofs.Matrices.{unit-at}
use Rattle.irr_algebra.proofs.Sums.{delta-eq, delta-ne}
use Rattle.irr_number.specs.Number.{numbers}
use Rattle.irr_mat.specs.Entries.{IsEntry}
use Rattle.irr_mat.proofs.Entries.{filled-push, filled-done, filled-orders, filled-matrix}
use Rattle.irr_mat.proofs.matrices.Mat.unit.Goals as goal
use Rattle.irr_mat.proofs.matrices.Mat.unit.Goals.{then-i-j+in_ok-entry, else-i-j+in_ok-entry-2}

pub loop-j-preserved : goal.loop-j-preserved
loop-j-preserved g c =
    let n = c.args.order.now.n in
    let d = c.args.d in
    let i = c.loop-i.i in
    let j = c.loop-j.j in
    let order : g.S.Scalar.order_of c.if-i-j.entry ≡ n = elim c.if-i-j.branch [
      | then-i-j+in_ok-entry w ↦ ap g.S.Scalar.order_of w.entry-is ∙ w.in_ok-entry.ensures.order
      | else-i-j+in_ok-entry-2 w ↦ ap g.S.Scalar.order_of w.entry-is ∙ w.in_ok-entry-2.ensures.order
    ] in
    let value : IsEntry (unit (numbers n) d) i j (g.S.Scalar.value n c.if-i-j.entry) = elim c.if-i-j.branch [
      | then-i-j+in_ok-entry w ↦ record {
        is_entry = λ k l p q.
            ap (g.S.Scalar.value n) w.entry-is ∙ w.in_ok-entry.ensures.value
            ∙ sym (unit-at (numbers n) k l ∙ delta-eq (numbers n) k l (to_nat_inj k l (p ∙ w.if-i-j.true ∙ sym q)));
      }
      | else-i-j+in_ok-entry-2 w ↦ record {
        is_entry = λ k l p q.
            ap (g.S.Scalar.value n) w.entry-is ∙ w.in_ok-entry-2.ensures.value
            ∙ sym (unit-at (numbers n) k l ∙ delta-ne (numbers n) k l (λ e. w.if-i-j.false (sym p ∙ ap to_nat e ∙ q)));
      }
    ] in
    filled-push g.S.Scalar.order_of g.S.Scalar.value n d d (unit (numbers n) d) i j c.loop-j.entries.items c.push.new.self.items c.if-i-j.entry
    c.loop-j.invariant c.in_ok-push.ensures.items c.loop-j-test.true order value

pub invariant_of-result : goal.invariant_of-result
invariant_of-result g c =
    let n = c.args.order.now.n in
    let d = c.args.d in
    let full = filled-done g.S.Scalar.order_of g.S.Scalar.value n d d (unit (numbers n) d) c.loop-i.i c.loop-i.entries.items c.loop-i.invariant c.loop-i-test.false c.loop-i.auto.i-end in
    record {
      some_rows = c.requires.some;
      some_cols = c.requires.some;
      filled = full.count;
      one_order = (filled-orders g.S.Scalar.order_of g.S.Scalar.value n d d (unit (numbers n) d) c.loop-i.entries.items full c.requires.some c.requires.some).1;
    }

pub returns-clause-order : goal.returns-clause-order
returns-clause-order g c =
    let n = c.args.order.now.n in
    let d = c.args.d in
    (filled-orders g.S.Scalar.order_of g.S.Scalar.value n d d (unit (numbers n) d) c.loop-i.entries.items
    (filled-done g.S.Scalar.order_of g.S.Scalar.value n d d (unit (numbers n) d) c.loop-i.i c.loop-i.entries.items c.loop-i.invariant c.loop-i-test.false c.loop-i.auto.i-end)
    c.requires.some c.requires.some).0

pub returns-clause-value : goal.returns-clause-value
returns-clause-value g c =
    let n = c.args.order.now.n in
    let d = c.args.d in
    filled-matrix g.S.Scalar.order_of g.S.Scalar.value n d d (unit (numbers n) d) c.loop-i.entries.items
    (filled-done g.S.Scalar.order_of g.S.Scalar.value n d d (unit (numbers n) d) c.loop-i.i c.loop-i.entries.items c.loop-i.invariant c.loop-i-test.false c.loop-i.auto.i-end)
