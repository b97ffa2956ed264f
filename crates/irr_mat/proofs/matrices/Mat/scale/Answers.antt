-- Each entry times one number.
use Rattle.std.proofs.Common.{◌≡◌, ◌∙◌, subst, ◌^◌}
use Rattle.irr_algebra.specs.Matrix.{scale}
use Rattle.irr_number.specs.Number.{numbers}
use Rattle.irr_mat.specs.Entries.{first_order, matrix_of}
use Rattle.irr_mat.proofs.Entries.{filled-push, filled-done, filled-orders, filled-matrix, entry-scale}
use Rattle.irr_mat.proofs.Sizes.{within-at, sum_denominators, product_sizes}
use Rattle.irr_mat.proofs.matrices.Mat.scale.Goals as goal

pub product-requires-clause-denominators : goal.product-requires-clause-denominators
product-requires-clause-denominators g c =
    let value = g.S.Scalar.value in
    let a = c.args.self.now in
    let n = first_order g.S.Scalar.order_of a.entries.items in
    let fit = c.requires.sizes in
    let x = c.args.by.now in
    let y = c.at.result.now in
    sum_denominators value (g.S.Scalar.order_of x) n (g.met.S.Scalar.admitted_positive (g.S.Scalar.order_of x) (g.met.S.Scalar.order_admitted x)) c.requires.orders fit.s fit.d fit.t fit.e x y fit.factor
    (within-at value n a.rows a.cols fit.t fit.e a.entries.items c.loop-i.i c.loop-j.j y fit.right c.loop-i-test.true c.loop-j-test.true c.at.ensures.place)
    (2 ^ 60) fit.denominators

pub product-requires-clause-sizes : goal.product-requires-clause-sizes
product-requires-clause-sizes g c =
    let value = g.S.Scalar.value in
    let a = c.args.self.now in
    let n = first_order g.S.Scalar.order_of a.entries.items in
    let fit = c.requires.sizes in
    let x = c.args.by.now in
    let y = c.at.result.now in
    product_sizes value (g.S.Scalar.order_of x) n (g.met.S.Scalar.admitted_positive (g.S.Scalar.order_of x) (g.met.S.Scalar.order_admitted x)) c.requires.orders fit.s fit.d fit.t fit.e x y fit.factor
    (within-at value n a.rows a.cols fit.t fit.e a.entries.items c.loop-i.i c.loop-j.j y fit.right c.loop-i-test.true c.loop-j-test.true c.at.ensures.place)
    (2 ^ 100) fit.sizes

pub loop-j-preserved : goal.loop-j-preserved
loop-j-preserved g c =
    let value = g.S.Scalar.value in
    let a = c.args.self.now in
    let n = first_order g.S.Scalar.order_of a.entries.items in
    let i = c.loop-i.i in
    let j = c.loop-j.j in
    let x = c.args.by.now in
    let y = c.at.result.now in
    let z = c.in_ok-product.product in
    filled-push g.S.Scalar.order_of value n a.rows a.cols (scale (numbers n) (value n x) (matrix_of value n a.rows a.cols a.entries.items)) i j
    c.loop-j.entries.items c.push.new.self.items z c.loop-j.invariant c.in_ok-push.ensures.items c.loop-j-test.true (c.in_ok-product.ensures.order ∙ c.requires.orders)
    (entry-scale n (value n x) (matrix_of value n a.rows a.cols a.entries.items) i j (value n y) (value n z)
    (c.at.ensures.entry n)
    (subst (λ k. value k z ≡ (numbers k).mul (value k x) (value k y)) c.requires.orders c.in_ok-product.ensures.value))

pub invariant_of-result : goal.invariant_of-result
invariant_of-result g c =
    let value = g.S.Scalar.value in
    let a = c.args.self.now in
    let n = first_order g.S.Scalar.order_of a.entries.items in
    let full = filled-done g.S.Scalar.order_of value n a.rows a.cols (scale (numbers n) (value n c.args.by.now) (matrix_of value n a.rows a.cols a.entries.items)) c.loop-i.i c.loop-i.entries.items c.loop-i.invariant c.loop-i-test.false c.loop-i.auto.i-end in
    record {
      some_rows = a.some_rows;
      some_cols = a.some_cols;
      filled = full.count;
      one_order = (filled-orders g.S.Scalar.order_of value n a.rows a.cols (scale (numbers n) (value n c.args.by.now) (matrix_of value n a.rows a.cols a.entries.items)) c.loop-i.entries.items full a.some_rows a.some_cols).1;
    }

pub returns-clause-order : goal.returns-clause-order
returns-clause-order g c =
    let value = g.S.Scalar.value in
    let a = c.args.self.now in
    let n = first_order g.S.Scalar.order_of a.entries.items in
    (filled-orders g.S.Scalar.order_of value n a.rows a.cols (scale (numbers n) (value n c.args.by.now) (matrix_of value n a.rows a.cols a.entries.items)) c.loop-i.entries.items
    (filled-done g.S.Scalar.order_of value n a.rows a.cols (scale (numbers n) (value n c.args.by.now) (matrix_of value n a.rows a.cols a.entries.items)) c.loop-i.i c.loop-i.entries.items c.loop-i.invariant c.loop-i-test.false c.loop-i.auto.i-end)
    a.some_rows a.some_cols).0

pub returns-clause-value : goal.returns-clause-value
returns-clause-value g c =
    let value = g.S.Scalar.value in
    let a = c.args.self.now in
    let n = first_order g.S.Scalar.order_of a.entries.items in
    filled-matrix g.S.Scalar.order_of value n a.rows a.cols (scale (numbers n) (value n c.args.by.now) (matrix_of value n a.rows a.cols a.entries.items)) c.loop-i.entries.items
    (filled-done g.S.Scalar.order_of value n a.rows a.cols (scale (numbers n) (value n c.args.by.now) (matrix_of value n a.rows a.cols a.entries.items)) c.loop-i.i c.loop-i.entries.items c.loop-i.invariant c.loop-i-test.false c.loop-i.auto.i-end)
