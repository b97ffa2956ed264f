-- Sums of canonical forms are canonical forms.
use Rattle.std.proofs.Common.{◌≡◌, ◌∙◌, ap, rules, ℕ, ℤ, pos, ◌*◌, ◌<◌, ◌≤◌, ◌^◌, length, unsigned_abs, to_z, of_z, arith}
use mir.Syntax.{w128}
use Rattle.irr_cyc.proofs.Combined.{add-same_value, add-value, combined-basis, entries-of, entry-bound, factors, product-bound, slices-bound, through}
use Rattle.irr_cyc.proofs.Written.{kept}
use Rattle.irr_cyc.proofs.coefficients.DenseScalar.add.Goals as goal

-- a denominator as a value of 128 bits
read : (z : ℤ) (d : ℕ) → z ≡ pos d → d < 2 ^ 64 → to_z w128 (of_z w128 z) ≡ pos d
read z d e h = let l : unsigned_abs z ≡ d = ap unsigned_abs e in kept z (omega arith) ∙ e

pub combination-requires-clause-small : goal.combination-requires-clause-small
combination-requires-clause-small c = slices-bound c.as_slice.result.now c.args.self.now.coefficients.items c.as_slice-then-self-other.result.now c.args.other.now.coefficients.items 1 1 (2 ^ 110) c.as_slice.ensures.value c.as_slice-then-self-other.ensures.value
    (entry-bound c.args.self.now.coefficients.items c.args.other.now.coefficients.items c.args.self.now.den c.args.other.now.den c.args.self.now.form c.args.other.now.form c.requires.orders c.requires.sizes 1 1 c.args.other.now.form.positive c.args.self.now.form.positive)

pub in_basis-requires-clause-basis : goal.in_basis-requires-clause-basis
in_basis-requires-clause-basis c = combined-basis c.args.self.now.coefficients.items c.args.other.now.coefficients.items c.args.self.now.den c.args.other.now.den c.args.self.now.form c.args.other.now.form c.requires.orders c.in_ok-sums.sums.items (pos 1) (pos 1) (c.in_ok-sums.ensures.len ∙ ap length c.as_slice.ensures.value)
    (entries-of c.as_slice.result.now c.args.self.now.coefficients.items c.as_slice-then-self-other.result.now c.args.other.now.coefficients.items c.in_ok-sums.sums.items (pos 1) (pos 1) c.as_slice.ensures.value c.as_slice-then-self-other.ensures.value c.in_ok-sums.ensures.value)

pub returns-then-self-other-clause-value : goal.returns-then-self-other-clause-value
returns-then-self-other-clause-value c = through (length c.args.self.now.coefficients.items) (length c.in_ok-sums.sums.items) c.in_basis.result.coefficients.items c.in_ok-sums.sums.items c.in_basis.result.den c.args.self.now.den (c.in_ok-sums.ensures.len ∙ ap length c.as_slice.ensures.value) c.in_basis.ensures.value
    ∙ add-same_value c.args.self.now.coefficients.items c.args.other.now.coefficients.items c.args.self.now.den c.args.other.now.den c.args.self.now.form c.args.other.now.form c.requires.orders c.in_ok-sums.sums.items c.if-self-other.true
    (entries-of c.as_slice.result.now c.args.self.now.coefficients.items c.as_slice-then-self-other.result.now c.args.other.now.coefficients.items c.in_ok-sums.sums.items (pos 1) (pos 1) c.as_slice.ensures.value c.as_slice-then-self-other.ensures.value c.in_ok-sums.ensures.value)

pub overflow_mul-self : goal.overflow_mul-self
overflow_mul-self c =
    let most : c.args.self.now.den * c.args.other.now.den ≤ 2 ^ 60 = product-bound c.args.self.now.coefficients.items c.args.other.now.coefficients.items c.args.self.now.den c.args.other.now.den c.args.self.now.form c.args.other.now.form c.requires.orders c.requires.denominators in
    let below : c.args.self.now.den * c.args.other.now.den < 2 ^ 64 = omega arith in
    search rules

pub combination-requires-2-clause-small : goal.combination-requires-2-clause-small
combination-requires-2-clause-small c =
    let d64 : c.args.self.now.den < 2 ^ 64 = search rules in
    let e64 : c.args.other.now.den < 2 ^ 64 = search rules in
    let u : unsigned_abs (to_z w128 (of_z w128 c.from.result)) ≡ c.args.other.now.den = ap unsigned_abs (read c.from.result c.args.other.now.den c.from.ensures e64) in
    let v : unsigned_abs (to_z w128 (of_z w128 c.from-2.result)) ≡ c.args.self.now.den = ap unsigned_abs (read c.from-2.result c.args.self.now.den c.from-2.ensures d64) in
    slices-bound c.as_slice-2.result.now c.args.self.now.coefficients.items c.as_slice-3.result.now c.args.other.now.coefficients.items (unsigned_abs (to_z w128 (of_z w128 c.from.result))) (unsigned_abs (to_z w128 (of_z w128 c.from-2.result))) (2 ^ 110) c.as_slice-2.ensures.value c.as_slice-3.ensures.value
    (entry-bound c.args.self.now.coefficients.items c.args.other.now.coefficients.items c.args.self.now.den c.args.other.now.den c.args.self.now.form c.args.other.now.form c.requires.orders c.requires.sizes (unsigned_abs (to_z w128 (of_z w128 c.from.result))) (unsigned_abs (to_z w128 (of_z w128 c.from-2.result))) (omega arith) (omega arith))

pub in_basis-requires-2-clause-basis : goal.in_basis-requires-2-clause-basis
in_basis-requires-2-clause-basis c = combined-basis c.args.self.now.coefficients.items c.args.other.now.coefficients.items c.args.self.now.den c.args.other.now.den c.args.self.now.form c.args.other.now.form c.requires.orders c.in_ok-sums-2.sums.items (to_z w128 (of_z w128 c.from.result)) (to_z w128 (of_z w128 c.from-2.result)) (c.in_ok-sums-2.ensures.len ∙ ap length c.as_slice-2.ensures.value)
    (entries-of c.as_slice-2.result.now c.args.self.now.coefficients.items c.as_slice-3.result.now c.args.other.now.coefficients.items c.in_ok-sums-2.sums.items (to_z w128 (of_z w128 c.from.result)) (to_z w128 (of_z w128 c.from-2.result)) c.as_slice-2.ensures.value c.as_slice-3.ensures.value c.in_ok-sums-2.ensures.value)

pub returns-clause-value : goal.returns-clause-value
returns-clause-value c =
    let d64 : c.args.self.now.den < 2 ^ 64 = search rules in
    let e64 : c.args.other.now.den < 2 ^ 64 = search rules in
    let u : to_z w128 (of_z w128 c.from.result) ≡ pos c.args.other.now.den = read c.from.result c.args.other.now.den c.from.ensures e64 in
    let v : (to_z w128 (of_z w128 c.from-2.result)) ≡ pos c.args.self.now.den = read c.from-2.result c.args.self.now.den c.from-2.ensures d64 in
    through (length c.args.self.now.coefficients.items) (length c.in_ok-sums-2.sums.items) c.in_basis-2.result.coefficients.items c.in_ok-sums-2.sums.items c.in_basis-2.result.den (c.args.self.now.den * c.args.other.now.den) (c.in_ok-sums-2.ensures.len ∙ ap length c.as_slice-2.ensures.value) c.in_basis-2.ensures.value
    ∙ add-value c.args.self.now.coefficients.items c.args.other.now.coefficients.items c.args.self.now.den c.args.other.now.den c.args.self.now.form c.args.other.now.form c.requires.orders c.in_ok-sums-2.sums.items
    (factors c.args.self.now.coefficients.items c.args.other.now.coefficients.items c.in_ok-sums-2.sums.items (to_z w128 (of_z w128 c.from.result)) (to_z w128 (of_z w128 c.from-2.result)) (pos c.args.other.now.den) (pos c.args.self.now.den) (length c.args.self.now.coefficients.items) u v
    (entries-of c.as_slice-2.result.now c.args.self.now.coefficients.items c.as_slice-3.result.now c.args.other.now.coefficients.items c.in_ok-sums-2.sums.items (to_z w128 (of_z w128 c.from.result)) (to_z w128 (of_z w128 c.from-2.result)) c.as_slice-2.ensures.value c.as_slice-3.ensures.value c.in_ok-sums-2.ensures.value))
