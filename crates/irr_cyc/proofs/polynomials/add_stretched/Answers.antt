-- Each coefficient is added at its place.
use Rattle.std.proofs.Common.{◌≡◌, sym, ◌∙◌, ap, rules, ℤ, pos, ◌+◌, ◌*◌, ◌%◌, ◌<◌, ◌≤◌, ◌^◌, ◌+ℤ◌, length, slice_set, unsigned_abs, FitsSigned, to_z, of_z, arith}
use native.Mathlib.Nat as Nat
use mir.Syntax.{w128}
use Rattle.irr_algebra.proofs.Rings.{one-mul}
use Rattle.irr_number.specs.Integers.{integers}
use Rattle.irr_cyc.specs.Form.{at}
use Rattle.irr_cyc.proofs.Placed.{bare, nothing-placed, placed-all, placed-bound, placed-write, placed_sum, running-bound}
use Rattle.irr_cyc.proofs.Written.{fits-added, written-added}
use Rattle.irr_cyc.proofs.polynomials.add_stretched.Goals as goal

pub loop-i-init : goal.loop-i-init
loop-i-init c = λ k lk. nothing-placed (at c.args.xs.now) (λ i. (c.args.factor * i) % length c.args.sums.now) (at c.args.sums.now k) (pos 1) k

pub overflow_add-sums : goal.overflow_add-sums
overflow_add-sums c =
    let inside : c.args.factor * c.loop-i.i < length c.args.sums.now = omega (arith, c.requires.equal, c.requires.positive, Nat.mul-le-mul_left c.args.factor c.loop-i-test.true) in
    let fa : FitsSigned w128 (at c.loop-i.sums (c.args.factor * c.loop-i.i)) = search rules in
    let fy : FitsSigned w128 (at c.args.xs.now c.loop-i.i) = search rules in
    let none : unsigned_abs (at c.args.sums.now (c.args.factor * c.loop-i.i)) ≡ 0 = ap unsigned_abs (c.requires.zeros (c.args.factor * c.loop-i.i)) in
    let bound : unsigned_abs (at c.loop-i.sums (c.args.factor * c.loop-i.i)) + 1 * unsigned_abs (at c.args.xs.now c.loop-i.i) ≤ 2 ^ 100 =
    running-bound (at c.args.xs.now) (λ i. (c.args.factor * i) % length c.args.sums.now) (at c.loop-i.sums (c.args.factor * c.loop-i.i)) (at c.args.sums.now (c.args.factor * c.loop-i.i)) (pos 1) c.loop-i.i (length c.args.xs.now) (c.args.factor * c.loop-i.i) (2 ^ 100) c.loop-i-test.true
    (c.loop-i.invariant (c.args.factor * c.loop-i.i) inside) (omega (arith, none, c.requires.small)) in
    fits-added (at c.loop-i.sums (c.args.factor * c.loop-i.i)) (at c.args.xs.now c.loop-i.i) fa fy (omega arith)

pub loop-i-preserved : goal.loop-i-preserved
loop-i-preserved c = λ k lk.
    let inside : c.args.factor * c.loop-i.i < length c.args.sums.now = omega (arith, c.requires.equal, c.requires.positive, Nat.mul-le-mul_left c.args.factor c.loop-i-test.true) in
    let fa : FitsSigned w128 (at c.loop-i.sums (c.args.factor * c.loop-i.i)) = search rules in
    let fy : FitsSigned w128 (at c.args.xs.now c.loop-i.i) = search rules in
    let none : unsigned_abs (at c.args.sums.now (c.args.factor * c.loop-i.i)) ≡ 0 = ap unsigned_abs (c.requires.zeros (c.args.factor * c.loop-i.i)) in
    let bound : unsigned_abs (at c.loop-i.sums (c.args.factor * c.loop-i.i)) + 1 * unsigned_abs (at c.args.xs.now c.loop-i.i) ≤ 2 ^ 100 =
    running-bound (at c.args.xs.now) (λ i. (c.args.factor * i) % length c.args.sums.now) (at c.loop-i.sums (c.args.factor * c.loop-i.i)) (at c.args.sums.now (c.args.factor * c.loop-i.i)) (pos 1) c.loop-i.i (length c.args.xs.now) (c.args.factor * c.loop-i.i) (2 ^ 100) c.loop-i-test.true
    (c.loop-i.invariant (c.args.factor * c.loop-i.i) inside) (omega (arith, none, c.requires.small)) in
    let turned : c.args.factor * c.loop-i.i ≡ (c.args.factor * c.loop-i.i) % length c.args.sums.now = sym (Nat.mod-eq_of_lt inside) in
    let is = written-added (at c.loop-i.sums (c.args.factor * c.loop-i.i)) (at c.args.xs.now c.loop-i.i) fa fy (omega arith) ∙ (λ t. at c.loop-i.sums (turned t) +ℤ sym (one-mul integers (at c.args.xs.now c.loop-i.i)) t) in
    let v : ℤ = to_z w128 (of_z w128 (to_z w128 (of_z w128 (at c.loop-i.sums (c.args.factor * c.loop-i.i))) +ℤ to_z w128 (of_z w128 (at c.args.xs.now c.loop-i.i)))) in
    ap (λ q. at (slice_set c.loop-i.sums q v) k) turned
    ∙ placed-write (at c.args.xs.now) (λ i. (c.args.factor * i) % length c.args.sums.now) c.args.sums.now c.loop-i.sums (pos 1) v c.loop-i.i c.loop-i.auto.sums (omega (arith, c.loop-i.auto.sums, turned, inside)) c.loop-i.invariant is k lk

pub returns-clause-value : goal.returns-clause-value
returns-clause-value c = λ k lk.
    let all : c.loop-i.i ≡ length c.args.xs.now = omega (arith, c.loop-i-test.false, c.loop-i.auto.i-end) in
    bare (at c.args.sums.now k) (at c.loop-i.sums k) (placed_sum (at c.args.xs.now) (λ i. (c.args.factor * i) % length c.args.sums.now) c.loop-i.i k) (c.requires.zeros k) (c.loop-i.invariant k lk)
    ∙ ap (λ i. placed_sum (at c.args.xs.now) (λ i. (c.args.factor * i) % length c.args.sums.now) i k) all ∙ placed-all (at c.args.xs.now) (λ i. (c.args.factor * i) % length c.args.sums.now) (length c.args.xs.now) k

pub returns-clause-small : goal.returns-clause-small
returns-clause-small c = λ k lk.
    let all : c.loop-i.i ≡ length c.args.xs.now = omega (arith, c.loop-i-test.false, c.loop-i.auto.i-end) in
    let is : unsigned_abs (at c.loop-i.sums k) ≡ unsigned_abs (placed_sum (at c.args.xs.now) (λ i. (c.args.factor * i) % length c.args.sums.now) (length c.args.xs.now) k) =
    ap unsigned_abs (bare (at c.args.sums.now k) (at c.loop-i.sums k) (placed_sum (at c.args.xs.now) (λ i. (c.args.factor * i) % length c.args.sums.now) c.loop-i.i k) (c.requires.zeros k) (c.loop-i.invariant k lk) ∙ ap (λ i. placed_sum (at c.args.xs.now) (λ i. (c.args.factor * i) % length c.args.sums.now) i k) all) in
    omega (arith, is, placed-bound (at c.args.xs.now) (λ i. (c.args.factor * i) % length c.args.sums.now) (length c.args.xs.now) k, c.requires.small)
