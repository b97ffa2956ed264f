-- Each coefficient is added at the place of its exponent.
use Rattle.std.proofs.Common.{◌≡◌, sym, ◌∙◌, ap, rules, ℕ, pos, ◌+◌, ◌*◌, ◌<◌, ◌≤◌, ◌^◌, ◌+ℤ◌, length, unsigned_abs, FitsSigned, arith}
use Rattle.std.proofs.lemmas.Int.{to_z-of_z}
use mir.Syntax.{w128, w64}
use Rattle.irr_algebra.proofs.Rings.{one-mul}
use Rattle.irr_number.specs.Integers.{integers}
use Rattle.irr_cyc.specs.Form.{at}
use Rattle.irr_cyc.proofs.Placed.{bare, nothing-placed, placed-bound, placed-write, placed_sum, running-bound}
use Rattle.irr_cyc.proofs.TermSums.{coefficient_at, exponent-below, exponent_at, terms-placed, total-terms}
use Rattle.irr_cyc.proofs.Written.{fits-added, written-added}
use Rattle.irr_cyc.proofs.polynomials.add_terms.Goals as goal

pub loop-exponent-init : goal.loop-exponent-init
loop-exponent-init c = λ k lk. nothing-placed (coefficient_at c.args.terms.now) (exponent_at c.args.terms.now) (at c.args.sums.now k) (pos 1) k

pub overflow_add-sums : goal.overflow_add-sums
overflow_add-sums c =
    let i : ℕ = c.loop-exponent.exponent-index in
    let e : ℕ = exponent_at c.args.terms.now c.loop-exponent.exponent-index in
    let inside : exponent_at c.args.terms.now c.loop-exponent.exponent-index < length c.args.sums.now = exponent-below c.args.terms.now (length c.args.sums.now) c.loop-exponent.exponent-index c.requires.exponents c.loop-exponent-test.true in
    let fa : FitsSigned w128 (at c.loop-exponent.sums (exponent_at c.args.terms.now c.loop-exponent.exponent-index)) = search rules in
    let fy : FitsSigned w128 c.from.result = search rules in
    let f64 : FitsSigned w64 (coefficient_at c.args.terms.now c.loop-exponent.exponent-index) = search rules in
    let ey : c.from.result ≡ coefficient_at c.args.terms.now c.loop-exponent.exponent-index = c.from.ensures ∙ to_z-of_z w64 (coefficient_at c.args.terms.now c.loop-exponent.exponent-index) f64 in
    let same : unsigned_abs c.from.result ≡ unsigned_abs (coefficient_at c.args.terms.now c.loop-exponent.exponent-index) = ap unsigned_abs ey in
    let none : unsigned_abs (at c.args.sums.now (exponent_at c.args.terms.now c.loop-exponent.exponent-index)) ≡ 0 = ap unsigned_abs (c.requires.zeros (exponent_at c.args.terms.now c.loop-exponent.exponent-index)) in
    let bound : unsigned_abs (at c.loop-exponent.sums (exponent_at c.args.terms.now c.loop-exponent.exponent-index)) + 1 * unsigned_abs (coefficient_at c.args.terms.now c.loop-exponent.exponent-index) ≤ 2 ^ 100 =
    running-bound (coefficient_at c.args.terms.now) (exponent_at c.args.terms.now) (at c.loop-exponent.sums (exponent_at c.args.terms.now c.loop-exponent.exponent-index)) (at c.args.sums.now (exponent_at c.args.terms.now c.loop-exponent.exponent-index)) (pos 1) c.loop-exponent.exponent-index (length c.args.terms.now) (exponent_at c.args.terms.now c.loop-exponent.exponent-index) (2 ^ 100) c.loop-exponent-test.true
    (c.loop-exponent.invariant (exponent_at c.args.terms.now c.loop-exponent.exponent-index) inside) (omega (arith, none, total-terms c.args.terms.now, c.requires.small)) in
    fits-added (at c.loop-exponent.sums e) c.from.result fa fy (omega arith)

pub loop-exponent-preserved : goal.loop-exponent-preserved
loop-exponent-preserved c = λ k lk.
    let i : ℕ = c.loop-exponent.exponent-index in
    let e : ℕ = exponent_at c.args.terms.now c.loop-exponent.exponent-index in
    let inside : exponent_at c.args.terms.now c.loop-exponent.exponent-index < length c.args.sums.now = exponent-below c.args.terms.now (length c.args.sums.now) c.loop-exponent.exponent-index c.requires.exponents c.loop-exponent-test.true in
    let fa : FitsSigned w128 (at c.loop-exponent.sums (exponent_at c.args.terms.now c.loop-exponent.exponent-index)) = search rules in
    let fy : FitsSigned w128 c.from.result = search rules in
    let f64 : FitsSigned w64 (coefficient_at c.args.terms.now c.loop-exponent.exponent-index) = search rules in
    let ey : c.from.result ≡ coefficient_at c.args.terms.now c.loop-exponent.exponent-index = c.from.ensures ∙ to_z-of_z w64 (coefficient_at c.args.terms.now c.loop-exponent.exponent-index) f64 in
    let same : unsigned_abs c.from.result ≡ unsigned_abs (coefficient_at c.args.terms.now c.loop-exponent.exponent-index) = ap unsigned_abs ey in
    let none : unsigned_abs (at c.args.sums.now (exponent_at c.args.terms.now c.loop-exponent.exponent-index)) ≡ 0 = ap unsigned_abs (c.requires.zeros (exponent_at c.args.terms.now c.loop-exponent.exponent-index)) in
    let bound : unsigned_abs (at c.loop-exponent.sums (exponent_at c.args.terms.now c.loop-exponent.exponent-index)) + 1 * unsigned_abs (coefficient_at c.args.terms.now c.loop-exponent.exponent-index) ≤ 2 ^ 100 =
    running-bound (coefficient_at c.args.terms.now) (exponent_at c.args.terms.now) (at c.loop-exponent.sums (exponent_at c.args.terms.now c.loop-exponent.exponent-index)) (at c.args.sums.now (exponent_at c.args.terms.now c.loop-exponent.exponent-index)) (pos 1) c.loop-exponent.exponent-index (length c.args.terms.now) (exponent_at c.args.terms.now c.loop-exponent.exponent-index) (2 ^ 100) c.loop-exponent-test.true
    (c.loop-exponent.invariant (exponent_at c.args.terms.now c.loop-exponent.exponent-index) inside) (omega (arith, none, total-terms c.args.terms.now, c.requires.small)) in
    let is = written-added (at c.loop-exponent.sums e) c.from.result fa fy (omega arith) ∙ (λ t. at c.loop-exponent.sums e +ℤ (ey ∙ sym (one-mul integers (coefficient_at c.args.terms.now i))) t) in
    placed-write (coefficient_at c.args.terms.now) (exponent_at c.args.terms.now) c.args.sums.now c.loop-exponent.sums (pos 1) _ i c.loop-exponent.auto.sums (omega (arith, c.loop-exponent.auto.sums, inside)) c.loop-exponent.invariant is k lk

pub returns-clause-value : goal.returns-clause-value
returns-clause-value c = λ k lk.
    let all : c.loop-exponent.exponent-index ≡ length c.args.terms.now = omega (arith, c.loop-exponent-test.false, c.loop-exponent.auto.exponent-index-end) in
    bare (at c.args.sums.now k) (at c.loop-exponent.sums k) (placed_sum (coefficient_at c.args.terms.now) (exponent_at c.args.terms.now) c.loop-exponent.exponent-index k) (c.requires.zeros k) (c.loop-exponent.invariant k lk)
    ∙ ap (λ i. placed_sum (coefficient_at c.args.terms.now) (exponent_at c.args.terms.now) i k) all ∙ sym (terms-placed c.args.terms.now k)

pub returns-clause-small : goal.returns-clause-small
returns-clause-small c = λ k lk.
    let all : c.loop-exponent.exponent-index ≡ length c.args.terms.now = omega (arith, c.loop-exponent-test.false, c.loop-exponent.auto.exponent-index-end) in
    let is : unsigned_abs (at c.loop-exponent.sums k) ≡ unsigned_abs (placed_sum (coefficient_at c.args.terms.now) (exponent_at c.args.terms.now) (length c.args.terms.now) k) =
    ap unsigned_abs (bare (at c.args.sums.now k) (at c.loop-exponent.sums k) (placed_sum (coefficient_at c.args.terms.now) (exponent_at c.args.terms.now) c.loop-exponent.exponent-index k) (c.requires.zeros k) (c.loop-exponent.invariant k lk) ∙ ap (λ i. placed_sum (coefficient_at c.args.terms.now) (exponent_at c.args.terms.now) i k) all) in
    omega (arith, is, placed-bound (coefficient_at c.args.terms.now) (exponent_at c.args.terms.now) (length c.args.terms.now) k, total-terms c.args.terms.now, c.requires.small)
