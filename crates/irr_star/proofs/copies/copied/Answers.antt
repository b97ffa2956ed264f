-- The entries one after another.
use Rattle.std.proofs.Common.{◌≡◌, ◌∙◌, sym, ap, subst, ◌<◌, ◌≤◌}
use Rattle.irr_mat.specs.Entries.{first_order, IsEntry, matrix_of}
use Rattle.irr_mat.proofs.Entries.{filled-push, filled-done, filled-orders, filled-matrix}
use Rattle.irr_star.proofs.copies.copied.Goals as goal

pub loop-j-preserved : goal.loop-j-preserved
loop-j-preserved g c =
    let value = g.S.Scalar.value in
    let m = c.args.m.now in
    let n = first_order g.S.Scalar.order_of m.entries.items in
    let i = c.loop-i.i in
    let j = c.loop-j.j in
    let y = c.at.result.now in
    let z = c.in_ok-entry.entry in
    let a = matrix_of value n m.rows m.cols m.entries.items in
    filled-push g.S.Scalar.order_of value n m.rows m.cols a i j c.loop-j.entries.items c.push.new.self.items z
    c.loop-j.invariant
    c.in_ok-push.ensures.items (subst (λ k. j < k) c.cols-j-end.ensures.value c.loop-j-test.true)
    (c.in_ok-entry.ensures.order ∙ c.at.ensures.order)
    (subst (IsEntry a i j) (sym (subst (λ k. value k z ≡ value k y) c.at.ensures.order c.in_ok-entry.ensures.value))
    (c.at.ensures.entry n))

pub from_entries-requires-clause-one_order : goal.from_entries-requires-clause-one_order
from_entries-requires-clause-one_order g c =
    let value = g.S.Scalar.value in
    let m = c.args.m.now in
    let n = first_order g.S.Scalar.order_of m.entries.items in
    let a = matrix_of value n m.rows m.cols m.entries.items in
    (filled-orders g.S.Scalar.order_of value n m.rows m.cols a c.loop-i.entries.items
    (filled-done g.S.Scalar.order_of value n m.rows m.cols a c.loop-i.i c.loop-i.entries.items c.loop-i.invariant
    (subst (λ k. k ≤ c.loop-i.i) c.rows-i-end.ensures.value c.loop-i-test.false)
    (subst (λ k. c.loop-i.i ≤ k) c.rows-i-end.ensures.value c.loop-i.auto.i-end))
    m.some_rows m.some_cols).1

pub returns : goal.returns
returns g c n d a is =
    let order = g.S.Scalar.order_of in
    let value = g.S.Scalar.value in
    let m = c.args.m.now in
    let u = first_order order m.entries.items in
    let xs = c.loop-i.entries.items in
    let ms = m.entries.items in
    let b = matrix_of value u m.rows m.cols ms in
    let full = filled-done order value u m.rows m.cols b c.loop-i.i xs c.loop-i.invariant
    (subst (λ k. k ≤ c.loop-i.i) c.rows-i-end.ensures.value c.loop-i-test.false)
    (subst (λ k. c.loop-i.i ≤ k) c.rows-i-end.ensures.value c.loop-i.auto.i-end) in
    record {
      rows = c.from_entries.ensures.rows ∙ c.rows.ensures.value ∙ is.rows;
      cols = c.from_entries.ensures.cols ∙ c.cols.ensures.value ∙ is.cols;
      order = ap (first_order order) c.from_entries.ensures.entries
          ∙ (filled-orders order value u m.rows m.cols b xs full m.some_rows m.some_cols).0 ∙ is.order;
      value = ap (matrix_of value n d d) c.from_entries.ensures.entries
          ∙ subst (λ w. matrix_of value n d w xs ≡ matrix_of value n d w ms) is.cols
          (subst (λ w. matrix_of value n w m.cols xs ≡ matrix_of value n w m.cols ms) is.rows
          (subst (λ k. matrix_of value k m.rows m.cols xs ≡ matrix_of value k m.rows m.cols ms) is.order
          (filled-matrix order value u m.rows m.cols b xs full))) ∙ is.value;
    }
