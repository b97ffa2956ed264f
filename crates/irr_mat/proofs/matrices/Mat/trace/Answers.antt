-- The sum of the diagonal entries.
use Rattle.std.proofs.Common.{◌≡◌, sym, ◌∙◌, subst, ◌+◌, ◌*◌, ◌^◌, Some, Bool, true, IsTrue, arith, rules}
use Rattle.std.specs.Prelude.{slice_get}
use Rattle.irr_algebra.specs.Listed.{sum_below}
use Rattle.irr_number.specs.Number.{numbers}
use Rattle.irr_canonical.specs.RootSum.{IsRootSum}
use Rattle.irr_mat.specs.Entries.{first_order}
use Rattle.irr_mat.proofs.PartialSums.{diagonal, partial-one, partial-add, partial-skip, partial-within, partial_sizes, diagonal-within, diagonal-value, trace-entries}
use Rattle.irr_mat.proofs.Sizes.{sum_denominators, sum_sizes}
use Rattle.irr_mat.proofs.matrices.Mat.trace.Goals as goal

is-true : (b : Bool) → b ≡ true → IsTrue b
is-true b e = search rules

pub loop-i-init : goal.loop-i-init
loop-i-init g c =
    let value = g.S.Scalar.value in
    let a = c.args.self.now in
    let n = first_order g.S.Scalar.order_of a.entries.items in
    let x = c.at.result.now in
    partial-one g.S.Scalar.order_of value n (diagonal value n a.rows a.entries.items) c.in_ok-sum.sum (c.in_ok-sum.ensures.order ∙ c.at.ensures.order)
    (subst (λ u. value u c.in_ok-sum.sum ≡ value u x) c.at.ensures.order c.in_ok-sum.ensures.value
    ∙ diagonal-value value n a.rows a.entries.items 0 x (subst (λ u. slice_get a.entries.items (0 * u + 0) ≡ Some x) c.requires.square c.at.ensures.place))

pub add-requires-clause-denominators : goal.add-requires-clause-denominators
add-requires-clause-denominators g c =
    let value = g.S.Scalar.value in
    let a = c.args.self.now in
    let n = first_order g.S.Scalar.order_of a.entries.items in
    let k = c.loop-i.i in
    let x = c.at-entry.result.now in
    let sum = c.loop-i.sum in
    let fit = c.requires.sizes in
    let w = diagonal-within value n a.rows a.entries.items fit.s fit.d fit.within in
    let is = diagonal-value value n a.rows a.entries.items k x (subst (λ u. slice_get a.entries.items (k * u + k) ≡ Some x) c.requires.square c.at-entry.ensures.place) in
    sum_denominators value (g.S.Scalar.order_of sum) n (g.met.S.Scalar.admitted_positive (g.S.Scalar.order_of sum) (g.met.S.Scalar.order_admitted sum)) c.loop-i.invariant.has_order
    (k * fit.s) fit.d fit.s fit.d sum x
    (partial-within g.S.Scalar.order_of value n (diagonal value n a.rows a.entries.items) k fit.s fit.d sum c.loop-i.invariant (w k c.loop-i-test.true).positive (λ i l. w i (omega arith)))
    (subst (IsRootSum n fit.s fit.d) (sym is) (w k c.loop-i-test.true))
    (2 ^ 60) fit.denominators

pub add-requires-clause-sizes : goal.add-requires-clause-sizes
add-requires-clause-sizes g c =
    let value = g.S.Scalar.value in
    let a = c.args.self.now in
    let n = first_order g.S.Scalar.order_of a.entries.items in
    let k = c.loop-i.i in
    let x = c.at-entry.result.now in
    let sum = c.loop-i.sum in
    let fit = c.requires.sizes in
    let w = diagonal-within value n a.rows a.entries.items fit.s fit.d fit.within in
    let is = diagonal-value value n a.rows a.entries.items k x (subst (λ u. slice_get a.entries.items (k * u + k) ≡ Some x) c.requires.square c.at-entry.ensures.place) in
    sum_sizes value (g.S.Scalar.order_of sum) n (g.met.S.Scalar.admitted_positive (g.S.Scalar.order_of sum) (g.met.S.Scalar.order_admitted sum)) c.loop-i.invariant.has_order
    (k * fit.s) fit.d fit.s fit.d sum x
    (partial-within g.S.Scalar.order_of value n (diagonal value n a.rows a.entries.items) k fit.s fit.d sum c.loop-i.invariant (w k c.loop-i-test.true).positive (λ i l. w i (omega arith)))
    (subst (IsRootSum n fit.s fit.d) (sym is) (w k c.loop-i-test.true))
    (2 ^ 110) (partial_sizes k a.rows fit.s n fit.d (2 ^ 110) c.loop-i-test.true fit.sums)

pub loop-i-preserved : goal.loop-i-preserved
loop-i-preserved g c =
    let value = g.S.Scalar.value in
    let a = c.args.self.now in
    let n = first_order g.S.Scalar.order_of a.entries.items in
    let k = c.loop-i.i in
    let x = c.at-entry.result.now in
    let is = diagonal-value value n a.rows a.entries.items k x (subst (λ u. slice_get a.entries.items (k * u + k) ≡ Some x) c.requires.square c.at-entry.ensures.place) in
    partial-add g.S.Scalar.order_of value n (diagonal value n a.rows a.entries.items) k c.loop-i.sum c.in_ok-sum-2.sum (value n x) c.loop-i.invariant (c.in_ok-sum-2.ensures.order ∙ c.loop-i.invariant.has_order)
    (subst (λ u. value u c.in_ok-sum-2.sum ≡ (numbers u).add (value u c.loop-i.sum) (value u x)) c.loop-i.invariant.has_order c.in_ok-sum-2.ensures.value) is

pub loop-i-preserved-then-is_zero : goal.loop-i-preserved-then-is_zero
loop-i-preserved-then-is_zero g c =
    let value = g.S.Scalar.value in
    let a = c.args.self.now in
    let n = first_order g.S.Scalar.order_of a.entries.items in
    let k = c.loop-i.i in
    let x = c.at-entry.result.now in
    let is = diagonal-value value n a.rows a.entries.items k x (subst (λ u. slice_get a.entries.items (k * u + k) ≡ Some x) c.requires.square c.at-entry.ensures.place) in
    partial-skip g.S.Scalar.order_of value n (diagonal value n a.rows a.entries.items) k c.loop-i.sum c.loop-i.invariant
    (sym is ∙ subst (λ u. value u x ≡ (numbers u).zero) c.at-entry.ensures.order (c.is_zero.ensures.zero.0 (is-true c.is_zero.result c.if-is_zero.true)))

pub returns-clause-value : goal.returns-clause-value
returns-clause-value g c =
    let value = g.S.Scalar.value in
    let a = c.args.self.now in
    let n = first_order g.S.Scalar.order_of a.entries.items in
    let done : c.loop-i.i ≡ a.rows = omega (arith, a.some_rows) in
    subst (λ u. value n c.loop-i.sum ≡ sum_below (numbers n) u (diagonal value n a.rows a.entries.items)) done c.loop-i.invariant.is_sum ∙ sym (trace-entries value n a.rows a.entries.items)
