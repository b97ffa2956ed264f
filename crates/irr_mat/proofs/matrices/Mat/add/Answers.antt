-- The sum, entry by entry.
use Rattle.std.proofs.Common.{◌≡◌, ◌∙◌, subst, ◌+◌, ◌*◌, ◌^◌, Some}
use Rattle.std.specs.Prelude.{slice_get}
use Rattle.irr_algebra.specs.Matrix.{◌⊕◌}
use Rattle.irr_number.specs.Number.{numbers}
use Rattle.irr_mat.specs.Entries.{first_order, matrix_of}
use Rattle.irr_mat.proofs.Entries.{filled-push, filled-done, filled-orders, filled-matrix, entry-is, entry-add}
use Rattle.irr_mat.proofs.Sizes.{within-at, sum_denominators, sum_sizes}
use Rattle.irr_mat.proofs.matrices.Mat.add.Goals as goal

pub add-requires-clause-denominators : goal.add-requires-clause-denominators
add-requires-clause-denominators g c =
    let value = g.S.Scalar.value in
    let a = c.args.self.now in
    let b = c.args.other.now in
    let n = first_order g.S.Scalar.order_of a.entries.items in
    let fit = c.requires.sizes in
    let x = c.at.result.now in
    let y = c.at-in-loop-j.result.now in
    sum_denominators value (g.S.Scalar.order_of x) n (g.met.S.Scalar.admitted_positive (g.S.Scalar.order_of x) (g.met.S.Scalar.order_admitted x)) c.at.ensures.order fit.s fit.d fit.t fit.e x y
    (within-at value n a.rows a.cols fit.s fit.d a.entries.items c.loop-i.i c.loop-j.j x fit.left c.loop-i-test.true c.loop-j-test.true c.at.ensures.place)
    (within-at value n a.rows a.cols fit.t fit.e b.entries.items c.loop-i.i c.loop-j.j y fit.right c.loop-i-test.true c.loop-j-test.true
    (subst (λ k. slice_get b.entries.items (c.loop-i.i * k + c.loop-j.j) ≡ Some y) c.requires.cols c.at-in-loop-j.ensures.place))
    (2 ^ 60) fit.denominators

pub add-requires-clause-sizes : goal.add-requires-clause-sizes
add-requires-clause-sizes g c =
    let value = g.S.Scalar.value in
    let a = c.args.self.now in
    let b = c.args.other.now in
    let n = first_order g.S.Scalar.order_of a.entries.items in
    let fit = c.requires.sizes in
    let x = c.at.result.now in
    let y = c.at-in-loop-j.result.now in
    sum_sizes value (g.S.Scalar.order_of x) n (g.met.S.Scalar.admitted_positive (g.S.Scalar.order_of x) (g.met.S.Scalar.order_admitted x)) c.at.ensures.order fit.s fit.d fit.t fit.e x y
    (within-at value n a.rows a.cols fit.s fit.d a.entries.items c.loop-i.i c.loop-j.j x fit.left c.loop-i-test.true c.loop-j-test.true c.at.ensures.place)
    (within-at value n a.rows a.cols fit.t fit.e b.entries.items c.loop-i.i c.loop-j.j y fit.right c.loop-i-test.true c.loop-j-test.true
    (subst (λ k. slice_get b.entries.items (c.loop-i.i * k + c.loop-j.j) ≡ Some y) c.requires.cols c.at-in-loop-j.ensures.place))
    (2 ^ 110) fit.sizes

pub loop-j-preserved : goal.loop-j-preserved
loop-j-preserved g c =
    let value = g.S.Scalar.value in
    let a = c.args.self.now in
    let b = c.args.other.now in
    let n = first_order g.S.Scalar.order_of a.entries.items in
    let i = c.loop-i.i in
    let j = c.loop-j.j in
    let x = c.at.result.now in
    let y = c.at-in-loop-j.result.now in
    let z = c.in_ok-sum.sum in
    filled-push g.S.Scalar.order_of value n a.rows a.cols (matrix_of value n a.rows a.cols a.entries.items ⊕ matrix_of value n a.rows a.cols b.entries.items) i j
    c.loop-j.entries.items c.push.new.self.items z c.loop-j.invariant c.in_ok-push.ensures.items c.loop-j-test.true (c.in_ok-sum.ensures.order ∙ c.at.ensures.order)
    (entry-add n (matrix_of value n a.rows a.cols a.entries.items) (matrix_of value n a.rows a.cols b.entries.items) i j (value n x) (value n y) (value n z)
    (c.at.ensures.entry n)
    (entry-is value n a.rows a.cols b.entries.items i j y (subst (λ k. slice_get b.entries.items (i * k + j) ≡ Some y) c.requires.cols c.at-in-loop-j.ensures.place))
    (subst (λ k. value k z ≡ (numbers k).add (value k x) (value k y)) c.at.ensures.order c.in_ok-sum.ensures.value))

pub invariant_of-result : goal.invariant_of-result
invariant_of-result g c =
    let value = g.S.Scalar.value in
    let a = c.args.self.now in
    let n = first_order g.S.Scalar.order_of a.entries.items in
    let full = filled-done g.S.Scalar.order_of value n a.rows a.cols (matrix_of value n a.rows a.cols a.entries.items ⊕ matrix_of value n a.rows a.cols c.args.other.now.entries.items) c.loop-i.i c.loop-i.entries.items c.loop-i.invariant c.loop-i-test.false c.loop-i.auto.i-end in
    record {
      some_rows = a.some_rows;
      some_cols = a.some_cols;
      filled = full.count;
      one_order = (filled-orders g.S.Scalar.order_of value n a.rows a.cols (matrix_of value n a.rows a.cols a.entries.items ⊕ matrix_of value n a.rows a.cols c.args.other.now.entries.items) c.loop-i.entries.items full a.some_rows a.some_cols).1;
    }

pub returns-clause-order : goal.returns-clause-order
returns-clause-order g c =
    let value = g.S.Scalar.value in
    let a = c.args.self.now in
    let n = first_order g.S.Scalar.order_of a.entries.items in
    (filled-orders g.S.Scalar.order_of value n a.rows a.cols (matrix_of value n a.rows a.cols a.entries.items ⊕ matrix_of value n a.rows a.cols c.args.other.now.entries.items) c.loop-i.entries.items
    (filled-done g.S.Scalar.order_of value n a.rows a.cols (matrix_of value n a.rows a.cols a.entries.items ⊕ matrix_of value n a.rows a.cols c.args.other.now.entries.items) c.loop-i.i c.loop-i.entries.items c.loop-i.invariant c.loop-i-test.false c.loop-i.auto.i-end)
    a.some_rows a.some_cols).0

pub returns-clause-value : goal.returns-clause-value
returns-clause-value g c =
    let value = g.S.Scalar.value in
    let a = c.args.self.now in
    let n = first_order g.S.Scalar.order_of a.entries.items in
    filled-matrix g.S.Scalar.order_of value n a.rows a.cols (matrix_of value n a.rows a.cols a.entries.items ⊕ matrix_of value n a.rows a.cols c.args.other.now.entries.items) c.loop-i.entries.items
    (filled-done g.S.Scalar.order_of value n a.rows a.cols (matrix_of value n a.rows a.cols a.entries.items ⊕ matrix_of value n a.rows a.cols c.args.other.now.entries.items) c.loop-i.i c.loop-i.entries.items c.loop-i.invariant c.loop-i-test.false c.loop-i.auto.i-end)
