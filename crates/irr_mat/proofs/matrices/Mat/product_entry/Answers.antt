-- The sum of the products.
use Rattle.std.proofs.Common.{◌≡◌, sym, ◌∙◌, subst, ℕ, ◌*◌, ◌^◌, Bool, true, IsTrue, arith, rules}
use Rattle.irr_algebra.specs.Listed.{sum_below}
use Rattle.irr_number.specs.Number.{numbers}
use Rattle.irr_canonical.specs.RootSum.{IsRootSum}
use Rattle.irr_mat.proofs.PartialSums.{term, partial-none, partial-add, partial-skip, partial-within, le_of_square, partial_sizes, term-within, term-value, term-zero_left, term-zero_right, product-entry}
use Rattle.irr_mat.proofs.Sizes.{within-at, sum_denominators, sum_sizes, product_sizes}
use Rattle.irr_mat.proofs.matrices.Mat.product_entry.Goals as goal
use Rattle.irr_mat.proofs.matrices.Mat.product_entry.Goals.{then-is_zero-via-then-is_zero, then-is_zero-via-else-is_zero+then-is_zero-2}

is-true : (b : Bool) → b ≡ true → IsTrue b
is-true b e = search rules

pub loop-k-init : goal.loop-k-init
loop-k-init g c =
    let n = c.args.order.now.n in
    let a = c.args.self.now in
    let b = c.args.other.now in
    partial-none g.S.Scalar.order_of g.S.Scalar.value n (term g.S.Scalar.value n a.cols b.cols a.entries.items b.entries.items c.args.i c.args.j)
    c.in_ok-sum.sum c.in_ok-sum.ensures.order c.in_ok-sum.ensures.value

pub loop-k-preserved-then-is_zero : goal.loop-k-preserved-then-is_zero
loop-k-preserved-then-is_zero g c =
    let value = g.S.Scalar.value in
    let n = c.args.order.now.n in
    let a = c.args.self.now in
    let b = c.args.other.now in
    let k = c.loop-k.k in
    let x = c.at-left.result.now in
    let y = c.at-right.result.now in
    let f : ℕ → (numbers n).Carrier = term value n a.cols b.cols a.entries.items b.entries.items c.args.i c.args.j in
    let zero : f k ≡ (numbers n).zero = elim c.then-is_zero.branch [
      | then-is_zero-via-then-is_zero w ↦ term-zero_left value n a.cols b.cols a.entries.items b.entries.items c.args.i c.args.j k x c.at-left.ensures.place
          (subst (λ u. value u x ≡ (numbers u).zero) (c.at-left.ensures.order ∙ c.requires.order) (c.is_zero.ensures.zero.0 (is-true c.is_zero.result w.if-is_zero.true)))
      | then-is_zero-via-else-is_zero+then-is_zero-2 w ↦ term-zero_right value n a.cols b.cols a.entries.items b.entries.items c.args.i c.args.j k y c.at-right.ensures.place
          (subst (λ u. value u y ≡ (numbers u).zero) (c.at-right.ensures.order ∙ c.requires.other_order) (w.is_zero-else-is_zero.ensures.zero.0 (is-true w.is_zero-else-is_zero.result w.if-is_zero-2.true)))
    ] in
    partial-skip g.S.Scalar.order_of value n f k c.loop-k.sum c.loop-k.invariant zero

pub mul-requires-clause-denominators : goal.mul-requires-clause-denominators
mul-requires-clause-denominators g c =
    let value = g.S.Scalar.value in
    let n = c.args.order.now.n in
    let a = c.args.self.now in
    let b = c.args.other.now in
    let k = c.loop-k.k in
    let x = c.at-left.result.now in
    let y = c.at-right.result.now in
    let fit = c.requires.sizes in
    sum_denominators value (g.S.Scalar.order_of x) n (g.met.S.Scalar.admitted_positive (g.S.Scalar.order_of x) (g.met.S.Scalar.order_admitted x)) (c.at-left.ensures.order ∙ c.requires.order)
    fit.s fit.d fit.t fit.e x y
    (within-at value n a.rows a.cols fit.s fit.d a.entries.items c.args.i k x fit.left c.requires.row c.loop-k-test.true c.at-left.ensures.place)
    (within-at value n a.cols b.cols fit.t fit.e b.entries.items k c.args.j y fit.right c.loop-k-test.true c.requires.column c.at-right.ensures.place)
    (2 ^ 60) (le_of_square (fit.d * fit.e) (2 ^ 60) fit.denominators)

pub mul-requires-clause-sizes : goal.mul-requires-clause-sizes
mul-requires-clause-sizes g c =
    let value = g.S.Scalar.value in
    let n = c.args.order.now.n in
    let a = c.args.self.now in
    let b = c.args.other.now in
    let k = c.loop-k.k in
    let x = c.at-left.result.now in
    let y = c.at-right.result.now in
    let fit = c.requires.sizes in
    product_sizes value (g.S.Scalar.order_of x) n (g.met.S.Scalar.admitted_positive (g.S.Scalar.order_of x) (g.met.S.Scalar.order_admitted x)) (c.at-left.ensures.order ∙ c.requires.order)
    fit.s fit.d fit.t fit.e x y
    (within-at value n a.rows a.cols fit.s fit.d a.entries.items c.args.i k x fit.left c.requires.row c.loop-k-test.true c.at-left.ensures.place)
    (within-at value n a.cols b.cols fit.t fit.e b.entries.items k c.args.j y fit.right c.loop-k-test.true c.requires.column c.at-right.ensures.place)
    (2 ^ 100) fit.products

pub add-requires-clause-denominators : goal.add-requires-clause-denominators
add-requires-clause-denominators g c =
    let value = g.S.Scalar.value in
    let n = c.args.order.now.n in
    let a = c.args.self.now in
    let b = c.args.other.now in
    let k = c.loop-k.k in
    let x = c.at-left.result.now in
    let y = c.at-right.result.now in
    let z = c.in_ok-product.product in
    let sum = c.loop-k.sum in
    let fit = c.requires.sizes in
    let f : ℕ → (numbers n).Carrier = term value n a.cols b.cols a.entries.items b.entries.items c.args.i c.args.j in
    let w = term-within value n a.cols b.cols a.entries.items b.entries.items c.args.i c.args.j a.rows fit.s fit.d fit.t fit.e fit.left fit.right c.requires.row c.requires.column in
    let is : value n z ≡ f k = subst (λ u. value u z ≡ (numbers u).mul (value u x) (value u y)) (c.at-left.ensures.order ∙ c.requires.order) c.in_ok-product.ensures.value
    ∙ term-value value n a.cols b.cols a.entries.items b.entries.items c.args.i c.args.j k x y c.at-left.ensures.place c.at-right.ensures.place in
    sum_denominators value (g.S.Scalar.order_of sum) n (g.met.S.Scalar.admitted_positive (g.S.Scalar.order_of sum) (g.met.S.Scalar.order_admitted sum)) c.loop-k.invariant.has_order
    (k * (fit.s * fit.t)) (fit.d * fit.e) (fit.s * fit.t) (fit.d * fit.e) sum z
    (partial-within g.S.Scalar.order_of value n f k (fit.s * fit.t) (fit.d * fit.e) sum c.loop-k.invariant (w k c.loop-k-test.true).positive (λ i l. w i (omega arith)))
    (subst (IsRootSum n (fit.s * fit.t) (fit.d * fit.e)) (sym is) (w k c.loop-k-test.true))
    (2 ^ 60) fit.denominators

pub add-requires-clause-sizes : goal.add-requires-clause-sizes
add-requires-clause-sizes g c =
    let value = g.S.Scalar.value in
    let n = c.args.order.now.n in
    let a = c.args.self.now in
    let b = c.args.other.now in
    let k = c.loop-k.k in
    let x = c.at-left.result.now in
    let y = c.at-right.result.now in
    let z = c.in_ok-product.product in
    let sum = c.loop-k.sum in
    let fit = c.requires.sizes in
    let f : ℕ → (numbers n).Carrier = term value n a.cols b.cols a.entries.items b.entries.items c.args.i c.args.j in
    let w = term-within value n a.cols b.cols a.entries.items b.entries.items c.args.i c.args.j a.rows fit.s fit.d fit.t fit.e fit.left fit.right c.requires.row c.requires.column in
    let is : value n z ≡ f k = subst (λ u. value u z ≡ (numbers u).mul (value u x) (value u y)) (c.at-left.ensures.order ∙ c.requires.order) c.in_ok-product.ensures.value
    ∙ term-value value n a.cols b.cols a.entries.items b.entries.items c.args.i c.args.j k x y c.at-left.ensures.place c.at-right.ensures.place in
    sum_sizes value (g.S.Scalar.order_of sum) n (g.met.S.Scalar.admitted_positive (g.S.Scalar.order_of sum) (g.met.S.Scalar.order_admitted sum)) c.loop-k.invariant.has_order
    (k * (fit.s * fit.t)) (fit.d * fit.e) (fit.s * fit.t) (fit.d * fit.e) sum z
    (partial-within g.S.Scalar.order_of value n f k (fit.s * fit.t) (fit.d * fit.e) sum c.loop-k.invariant (w k c.loop-k-test.true).positive (λ i l. w i (omega arith)))
    (subst (IsRootSum n (fit.s * fit.t) (fit.d * fit.e)) (sym is) (w k c.loop-k-test.true))
    (2 ^ 110) (partial_sizes k a.cols (fit.s * fit.t) n (fit.d * fit.e) (2 ^ 110) c.loop-k-test.true fit.sums)

pub loop-k-preserved : goal.loop-k-preserved
loop-k-preserved g c =
    let value = g.S.Scalar.value in
    let n = c.args.order.now.n in
    let a = c.args.self.now in
    let b = c.args.other.now in
    let k = c.loop-k.k in
    let x = c.at-left.result.now in
    let y = c.at-right.result.now in
    let z = c.in_ok-product.product in
    let f : ℕ → (numbers n).Carrier = term value n a.cols b.cols a.entries.items b.entries.items c.args.i c.args.j in
    let is : value n z ≡ f k = subst (λ u. value u z ≡ (numbers u).mul (value u x) (value u y)) (c.at-left.ensures.order ∙ c.requires.order) c.in_ok-product.ensures.value
    ∙ term-value value n a.cols b.cols a.entries.items b.entries.items c.args.i c.args.j k x y c.at-left.ensures.place c.at-right.ensures.place in
    partial-add g.S.Scalar.order_of value n f k c.loop-k.sum c.in_ok-sum-2.sum (value n z) c.loop-k.invariant (c.in_ok-sum-2.ensures.order ∙ c.loop-k.invariant.has_order)
    (subst (λ u. value u c.in_ok-sum-2.sum ≡ (numbers u).add (value u c.loop-k.sum) (value u z)) c.loop-k.invariant.has_order c.in_ok-sum-2.ensures.value) is

pub returns-clause-entry : goal.returns-clause-entry
returns-clause-entry g c =
    let n = c.args.order.now.n in
    let a = c.args.self.now in
    let b = c.args.other.now in
    let k : c.loop-k.k ≡ a.cols = omega arith in
    product-entry g.S.Scalar.value n a.cols b.cols a.entries.items b.entries.items c.args.i c.args.j a.rows (g.S.Scalar.value n c.loop-k.sum)
    (subst (λ u. g.S.Scalar.value n c.loop-k.sum ≡ sum_below (numbers n) u (term g.S.Scalar.value n a.cols b.cols a.entries.items b.entries.items c.args.i c.args.j)) k c.loop-k.invariant.is_sum)
