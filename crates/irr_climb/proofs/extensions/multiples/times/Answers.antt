-- The entries one after another, each times the number.
use Rattle.std.proofs.Common.{◌≡◌, ◌∙◌, sym, ap, subst, ◌<◌, ◌≤◌, ◌^◌}
use Rattle.irr_algebra.specs.Matrix.{scale}
use Rattle.irr_number.specs.Number.{numbers}
use Rattle.irr_mat.specs.Entries.{first_order, matrix_of}
use Rattle.irr_mat.proofs.Entries.{entry-scale, filled-push, filled-done, filled-orders, filled-matrix}
use Rattle.irr_mat.proofs.Sizes.{product_sizes, sum_denominators, within-at}
use Rattle.irr_climb.proofs.extensions.multiples.times.Goals as goal

pub entry_multiple-requires-clause-orders : goal.entry_multiple-requires-clause-orders
entry_multiple-requires-clause-orders g c = c.at.ensures.order ∙ sym c.requires.orders

pub entry_multiple-requires-clause-denominators : goal.entry_multiple-requires-clause-denominators
entry_multiple-requires-clause-denominators g c =
    let value = g.S.Scalar.value in
    let m = c.args.m.now in
    let n = first_order g.S.Scalar.order_of m.entries.items in
    let fit = c.requires.sizes in
    let x = c.args.by.now in
    let y = c.at.result.now in
    sum_denominators value (g.S.Scalar.order_of x) n (g.met.S.Scalar.admitted_positive (g.S.Scalar.order_of x) (g.met.S.Scalar.order_admitted x))
    c.requires.orders fit.s fit.d fit.t fit.e x y fit.factor
    (within-at value n m.rows m.cols fit.t fit.e m.entries.items c.loop-i.i c.loop-j.j y fit.right
    (subst (λ k. c.loop-i.i < k) c.rows-i-end.ensures.value c.loop-i-test.true)
    (subst (λ k. c.loop-j.j < k) c.cols-j-end.ensures.value c.loop-j-test.true) c.at.ensures.place)
    (2 ^ 60) fit.denominators

pub entry_multiple-requires-clause-sizes : goal.entry_multiple-requires-clause-sizes
entry_multiple-requires-clause-sizes g c =
    let value = g.S.Scalar.value in
    let m = c.args.m.now in
    let n = first_order g.S.Scalar.order_of m.entries.items in
    let fit = c.requires.sizes in
    let x = c.args.by.now in
    let y = c.at.result.now in
    product_sizes value (g.S.Scalar.order_of x) n (g.met.S.Scalar.admitted_positive (g.S.Scalar.order_of x) (g.met.S.Scalar.order_admitted x))
    c.requires.orders fit.s fit.d fit.t fit.e x y fit.factor
    (within-at value n m.rows m.cols fit.t fit.e m.entries.items c.loop-i.i c.loop-j.j y fit.right
    (subst (λ k. c.loop-i.i < k) c.rows-i-end.ensures.value c.loop-i-test.true)
    (subst (λ k. c.loop-j.j < k) c.cols-j-end.ensures.value c.loop-j-test.true) c.at.ensures.place)
    (2 ^ 100) fit.sizes

pub loop-j-preserved : goal.loop-j-preserved
loop-j-preserved g c =
    let value = g.S.Scalar.value in
    let m = c.args.m.now in
    let n = first_order g.S.Scalar.order_of m.entries.items in
    let i = c.loop-i.i in
    let j = c.loop-j.j in
    let x = c.args.by.now in
    let y = c.at.result.now in
    let z = c.in_ok-product.product in
    let a = matrix_of value n m.rows m.cols m.entries.items in
    filled-push g.S.Scalar.order_of value n m.rows m.cols (scale (numbers n) (value n x) a) i j c.loop-j.entries.items c.push.new.self.items z
    c.loop-j.invariant c.in_ok-push.ensures.items (subst (λ k. j < k) c.cols-j-end.ensures.value c.loop-j-test.true)
    (c.in_ok-product.ensures.order ∙ c.requires.orders)
    (entry-scale n (value n x) a i j (value n y) (value n z) (c.at.ensures.entry n)
    (subst (λ k. value k z ≡ (numbers k).mul (value k x) (value k y)) c.requires.orders c.in_ok-product.ensures.value))

pub from_entries-requires-clause-one_order : goal.from_entries-requires-clause-one_order
from_entries-requires-clause-one_order g c =
    let value = g.S.Scalar.value in
    let m = c.args.m.now in
    let n = first_order g.S.Scalar.order_of m.entries.items in
    let a = scale (numbers n) (value n c.args.by.now) (matrix_of value n m.rows m.cols m.entries.items) in
    (filled-orders g.S.Scalar.order_of value n m.rows m.cols a c.loop-i.entries.items
    (filled-done g.S.Scalar.order_of value n m.rows m.cols a c.loop-i.i c.loop-i.entries.items c.loop-i.invariant
    (subst (λ k. k ≤ c.loop-i.i) c.rows-i-end.ensures.value c.loop-i-test.false)
    (subst (λ k. c.loop-i.i ≤ k) c.rows-i-end.ensures.value c.loop-i.auto.i-end))
    m.some_rows m.some_cols).1

pub returns-clause-order : goal.returns-clause-order
returns-clause-order g c =
    let order = g.S.Scalar.order_of in
    let value = g.S.Scalar.value in
    let m = c.args.m.now in
    let n = first_order order m.entries.items in
    let a = scale (numbers n) (value n c.args.by.now) (matrix_of value n m.rows m.cols m.entries.items) in
    ap (first_order order) c.from_entries.ensures.entries
    ∙ (filled-orders order value n m.rows m.cols a c.loop-i.entries.items
    (filled-done order value n m.rows m.cols a c.loop-i.i c.loop-i.entries.items c.loop-i.invariant
    (subst (λ k. k ≤ c.loop-i.i) c.rows-i-end.ensures.value c.loop-i-test.false)
    (subst (λ k. c.loop-i.i ≤ k) c.rows-i-end.ensures.value c.loop-i.auto.i-end))
    m.some_rows m.some_cols).0

pub returns-clause-value : goal.returns-clause-value
returns-clause-value g c =
    let order = g.S.Scalar.order_of in
    let value = g.S.Scalar.value in
    let m = c.args.m.now in
    let n = first_order order m.entries.items in
    let a = scale (numbers n) (value n c.args.by.now) (matrix_of value n m.rows m.cols m.entries.items) in
    ap (matrix_of value n m.rows m.cols) c.from_entries.ensures.entries
    ∙ filled-matrix order value n m.rows m.cols a c.loop-i.entries.items
    (filled-done order value n m.rows m.cols a c.loop-i.i c.loop-i.entries.items c.loop-i.invariant
    (subst (λ k. k ≤ c.loop-i.i) c.rows-i-end.ensures.value c.loop-i-test.false)
    (subst (λ k. c.loop-i.i ≤ k) c.rows-i-end.ensures.value c.loop-i.auto.i-end))
