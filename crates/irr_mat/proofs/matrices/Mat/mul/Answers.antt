-- The product, entry by entry.
use Rattle.std.proofs.Common.{◌∙◌, subst}
use Rattle.irr_algebra.specs.Matrix.{◌·◌}
use Rattle.irr_mat.specs.Entries.{first_order, IsEntry, matrix_of}
use Rattle.irr_mat.proofs.Entries.{filled-push, filled-done, filled-orders, filled-matrix}
use Rattle.irr_mat.proofs.matrices.Mat.mul.Goals as goal

pub loop-j-preserved : goal.loop-j-preserved
loop-j-preserved g c =
    let value = g.S.Scalar.value in
    let a = c.args.self.now in
    let b = c.args.other.now in
    let n = first_order g.S.Scalar.order_of a.entries.items in
    let i = c.loop-i.i in
    let j = c.loop-j.j in
    let z = c.in_ok-entry.entry in
    filled-push g.S.Scalar.order_of value n a.rows b.cols (matrix_of value n a.rows a.cols a.entries.items · matrix_of value n a.cols b.cols b.entries.items) i j
    c.loop-j.entries.items c.push.new.self.items z c.loop-j.invariant c.in_ok-push.ensures.items c.loop-j-test.true (c.in_ok-entry.ensures.order ∙ c.in_ok-order.ensures.order)
    (subst (λ k. IsEntry (matrix_of value k a.rows a.cols a.entries.items · matrix_of value k a.cols b.cols b.entries.items) i j (value k z)) c.in_ok-order.ensures.order c.in_ok-entry.ensures.entry)

pub invariant_of-result : goal.invariant_of-result
invariant_of-result g c =
    let value = g.S.Scalar.value in
    let a = c.args.self.now in
    let n = first_order g.S.Scalar.order_of a.entries.items in
    let full = filled-done g.S.Scalar.order_of value n a.rows c.args.other.now.cols (matrix_of value n a.rows a.cols a.entries.items · matrix_of value n a.cols c.args.other.now.cols c.args.other.now.entries.items) c.loop-i.i c.loop-i.entries.items c.loop-i.invariant c.loop-i-test.false c.loop-i.auto.i-end in
    record {
      some_rows = a.some_rows;
      some_cols = c.args.other.now.some_cols;
      filled = full.count;
      one_order = (filled-orders g.S.Scalar.order_of value n a.rows c.args.other.now.cols (matrix_of value n a.rows a.cols a.entries.items · matrix_of value n a.cols c.args.other.now.cols c.args.other.now.entries.items) c.loop-i.entries.items full a.some_rows c.args.other.now.some_cols).1;
    }

pub returns-clause-order : goal.returns-clause-order
returns-clause-order g c =
    let value = g.S.Scalar.value in
    let a = c.args.self.now in
    let n = first_order g.S.Scalar.order_of a.entries.items in
    (filled-orders g.S.Scalar.order_of value n a.rows c.args.other.now.cols (matrix_of value n a.rows a.cols a.entries.items · matrix_of value n a.cols c.args.other.now.cols c.args.other.now.entries.items) c.loop-i.entries.items
    (filled-done g.S.Scalar.order_of value n a.rows c.args.other.now.cols (matrix_of value n a.rows a.cols a.entries.items · matrix_of value n a.cols c.args.other.now.cols c.args.other.now.entries.items) c.loop-i.i c.loop-i.entries.items c.loop-i.invariant c.loop-i-test.false c.loop-i.auto.i-end)
    a.some_rows c.args.other.now.some_cols).0

pub returns-clause-value : goal.returns-clause-value
returns-clause-value g c =
    let value = g.S.Scalar.value in
    let a = c.args.self.now in
    let n = first_order g.S.Scalar.order_of a.entries.items in
    filled-matrix g.S.Scalar.order_of value n a.rows c.args.other.now.cols (matrix_of value n a.rows a.cols a.entries.items · matrix_of value n a.cols c.args.other.now.cols c.args.other.now.entries.items) c.loop-i.entries.items
    (filled-done g.S.Scalar.order_of value n a.rows c.args.other.now.cols (matrix_of value n a.rows a.cols a.entries.items · matrix_of value n a.cols c.args.other.now.cols c.args.other.now.entries.items) c.loop-i.i c.loop-i.entries.items c.loop-i.invariant c.loop-i-test.false c.loop-i.auto.i-end)
