-- The Kronecker product, entry by entry.
use Rattle.std.proofs.Common.{◌≡◌, sym, ◌∙◌, ap₂, subst, ◌*◌, ◌/◌, ◌%◌, ◌^◌, ◌<◌, ◌≤◌, arith}
use native.Mathlib.Nat as Nat
use Rattle.irr_algebra.specs.Pair.{kron, times}
use Rattle.irr_algebra.proofs.Pairs.{times-mul}
use Rattle.irr_number.specs.Number.{numbers}
use Rattle.irr_mat.specs.Entries.{first_order, matrix_of}
use Rattle.irr_mat.proofs.Blocks.{entry-kron, quotient-lt, remainder-lt}
use Rattle.irr_mat.proofs.Entries.{filled-push, filled-next, filled-done, filled-orders, filled-matrix}
use Rattle.irr_mat.proofs.Sizes.{within-at, sum_denominators, product_sizes}
use Rattle.irr_mat.proofs.matrices.Mat.kron.Goals as goal

pub product-requires-clause-denominators : goal.product-requires-clause-denominators
product-requires-clause-denominators g c =
    let value = g.S.Scalar.value in
    let a = c.args.self.now in
    let b = c.args.other.now in
    let n = first_order g.S.Scalar.order_of a.entries.items in
    let i = c.loop-i.i in
    let j = c.loop-j.j in
    let x = c.at-left.result.now in
    let y = c.at-right.result.now in
    let fit = c.requires.sizes in
    let row : i < times a.rows b.rows = subst (λ k. i < k) (sym (times-mul a.rows b.rows)) c.loop-i-test.true in
    let col : j < times a.cols b.cols = subst (λ k. j < k) (sym (times-mul a.cols b.cols)) c.loop-j-test.true in
    sum_denominators value (g.S.Scalar.order_of x) n (g.met.S.Scalar.admitted_positive (g.S.Scalar.order_of x) (g.met.S.Scalar.order_admitted x)) c.at-left.ensures.order fit.s fit.d fit.t fit.e x y
    (within-at value n a.rows a.cols fit.s fit.d a.entries.items (i / b.rows) (j / b.cols) x fit.left (quotient-lt a.rows b.rows i b.some_rows row) (quotient-lt a.cols b.cols j b.some_cols col) c.at-left.ensures.place)
    (within-at value n b.rows b.cols fit.t fit.e b.entries.items (i % b.rows) (j % b.cols) y fit.right (remainder-lt b.rows i b.some_rows) (remainder-lt b.cols j b.some_cols) c.at-right.ensures.place)
    (2 ^ 60) fit.denominators

pub product-requires-clause-sizes : goal.product-requires-clause-sizes
product-requires-clause-sizes g c =
    let value = g.S.Scalar.value in
    let a = c.args.self.now in
    let b = c.args.other.now in
    let n = first_order g.S.Scalar.order_of a.entries.items in
    let i = c.loop-i.i in
    let j = c.loop-j.j in
    let x = c.at-left.result.now in
    let y = c.at-right.result.now in
    let fit = c.requires.sizes in
    let row : i < times a.rows b.rows = subst (λ k. i < k) (sym (times-mul a.rows b.rows)) c.loop-i-test.true in
    let col : j < times a.cols b.cols = subst (λ k. j < k) (sym (times-mul a.cols b.cols)) c.loop-j-test.true in
    product_sizes value (g.S.Scalar.order_of x) n (g.met.S.Scalar.admitted_positive (g.S.Scalar.order_of x) (g.met.S.Scalar.order_admitted x)) c.at-left.ensures.order fit.s fit.d fit.t fit.e x y
    (within-at value n a.rows a.cols fit.s fit.d a.entries.items (i / b.rows) (j / b.cols) x fit.left (quotient-lt a.rows b.rows i b.some_rows row) (quotient-lt a.cols b.cols j b.some_cols col) c.at-left.ensures.place)
    (within-at value n b.rows b.cols fit.t fit.e b.entries.items (i % b.rows) (j % b.cols) y fit.right (remainder-lt b.rows i b.some_rows) (remainder-lt b.cols j b.some_cols) c.at-right.ensures.place)
    (2 ^ 100) fit.sizes

pub loop-j-preserved : goal.loop-j-preserved
loop-j-preserved g c =
    let value = g.S.Scalar.value in
    let a = c.args.self.now in
    let b = c.args.other.now in
    let n = first_order g.S.Scalar.order_of a.entries.items in
    let i = c.loop-i.i in
    let j = c.loop-j.j in
    let x = c.at-left.result.now in
    let y = c.at-right.result.now in
    let z = c.in_ok-product.product in
    filled-push g.S.Scalar.order_of value n (times a.rows b.rows) (times a.cols b.cols) (kron (matrix_of value n a.rows a.cols a.entries.items) (matrix_of value n b.rows b.cols b.entries.items)) i j
    c.loop-j.entries.items c.push.new.self.items z c.loop-j.invariant c.in_ok-push.ensures.items (subst (λ k. j < k) (sym (times-mul a.cols b.cols)) c.loop-j-test.true)
    (c.in_ok-product.ensures.order ∙ c.at-left.ensures.order)
    (entry-kron n (matrix_of value n a.rows a.cols a.entries.items) (matrix_of value n b.rows b.cols b.entries.items) i j (value n x) (value n y) (value n z) b.some_rows b.some_cols
    (c.at-left.ensures.entry n) (c.at-right.ensures.entry n)
    (subst (λ k. value k z ≡ (numbers k).mul (value k x) (value k y)) c.at-left.ensures.order c.in_ok-product.ensures.value))

pub loop-i-preserved : goal.loop-i-preserved
loop-i-preserved g c =
    let value = g.S.Scalar.value in
    let a = c.args.self.now in
    let b = c.args.other.now in
    let n = first_order g.S.Scalar.order_of a.entries.items in
    let full : c.loop-j.j ≡ a.cols * b.cols = omega arith in
    filled-next g.S.Scalar.order_of value n (times a.rows b.rows) (times a.cols b.cols) (kron (matrix_of value n a.rows a.cols a.entries.items) (matrix_of value n b.rows b.cols b.entries.items))
    c.loop-i.i c.loop-j.j c.loop-j.entries.items c.loop-j.invariant (full ∙ sym (times-mul a.cols b.cols))

pub invariant_of-result : goal.invariant_of-result
invariant_of-result g c =
    let value = g.S.Scalar.value in
    let a = c.args.self.now in
    let b = c.args.other.now in
    let n = first_order g.S.Scalar.order_of a.entries.items in
    let k = kron (matrix_of value n a.rows a.cols a.entries.items) (matrix_of value n b.rows b.cols b.entries.items) in
    let full = filled-done g.S.Scalar.order_of value n (times a.rows b.rows) (times a.cols b.cols) k c.loop-i.i c.loop-i.entries.items c.loop-i.invariant
    (subst (λ w. w ≤ c.loop-i.i) (sym (times-mul a.rows b.rows)) c.loop-i-test.false) (subst (λ w. c.loop-i.i ≤ w) (sym (times-mul a.rows b.rows)) c.loop-i.auto.i-end) in
    record {
      some_rows = Nat.mul-pos a.some_rows b.some_rows;
      some_cols = Nat.mul-pos a.some_cols b.some_cols;
      filled = full.count ∙ ap₂ (λ u v. u * v) (times-mul a.rows b.rows) (times-mul a.cols b.cols);
      one_order = (filled-orders g.S.Scalar.order_of value n (times a.rows b.rows) (times a.cols b.cols) k c.loop-i.entries.items full (subst (λ w. 0 < w) (sym (times-mul a.rows b.rows)) (Nat.mul-pos a.some_rows b.some_rows)) (subst (λ w. 0 < w) (sym (times-mul a.cols b.cols)) (Nat.mul-pos a.some_cols b.some_cols))).1;
    }

pub returns-clause-order : goal.returns-clause-order
returns-clause-order g c =
    let value = g.S.Scalar.value in
    let a = c.args.self.now in
    let b = c.args.other.now in
    let n = first_order g.S.Scalar.order_of a.entries.items in
    let k = kron (matrix_of value n a.rows a.cols a.entries.items) (matrix_of value n b.rows b.cols b.entries.items) in
    (filled-orders g.S.Scalar.order_of value n (times a.rows b.rows) (times a.cols b.cols) k c.loop-i.entries.items
    (filled-done g.S.Scalar.order_of value n (times a.rows b.rows) (times a.cols b.cols) k c.loop-i.i c.loop-i.entries.items c.loop-i.invariant
    (subst (λ w. w ≤ c.loop-i.i) (sym (times-mul a.rows b.rows)) c.loop-i-test.false) (subst (λ w. c.loop-i.i ≤ w) (sym (times-mul a.rows b.rows)) c.loop-i.auto.i-end))
    (subst (λ w. 0 < w) (sym (times-mul a.rows b.rows)) (Nat.mul-pos a.some_rows b.some_rows)) (subst (λ w. 0 < w) (sym (times-mul a.cols b.cols)) (Nat.mul-pos a.some_cols b.some_cols))).0

pub returns-clause-value : goal.returns-clause-value
returns-clause-value g c =
    let value = g.S.Scalar.value in
    let a = c.args.self.now in
    let b = c.args.other.now in
    let n = first_order g.S.Scalar.order_of a.entries.items in
    let k = kron (matrix_of value n a.rows a.cols a.entries.items) (matrix_of value n b.rows b.cols b.entries.items) in
    filled-matrix g.S.Scalar.order_of value n (times a.rows b.rows) (times a.cols b.cols) k c.loop-i.entries.items
    (filled-done g.S.Scalar.order_of value n (times a.rows b.rows) (times a.cols b.cols) k c.loop-i.i c.loop-i.entries.items c.loop-i.invariant
    (subst (λ w. w ≤ c.loop-i.i) (sym (times-mul a.rows b.rows)) c.loop-i-test.false) (subst (λ w. c.loop-i.i ≤ w) (sym (times-mul a.rows b.rows)) c.loop-i.auto.i-end))
