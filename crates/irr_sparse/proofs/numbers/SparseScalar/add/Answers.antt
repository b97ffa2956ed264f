-- Sums of canonical forms.
use Rattle.std.proofs.Common.{rules, ◌≡◌, sym, ◌∙◌, ap, subst, pos, ◌+◌, ◌*◌, ◌<◌, ◌≤◌, ◌^◌, ◌*ℤ◌, [], unsigned_abs, to_z, of_z, refl, arith, length, ◌==◌}
use mir.Syntax.{w128}
use Rattle.irr_number.specs.Integers.{integers}
use Rattle.irr_sparse.specs.TermList.{total}
use Rattle.irr_sparse.specs.Value.{value_of}
use Rattle.irr_sparse.proofs.Arithmetic.{combined-number, combined-same, dens-bound, once, small_of_slices, sum_of_slices, sums-bound, sums-bound_same, terms_of_slices, plus-nothing, nothing-plus}
use Rattle.irr_sparse.proofs.FormsOf.{form_at, form_of}
use Rattle.irr_sparse.proofs.Words.{den_read, times-abs}
use Rattle.irr_sparse.proofs.numbers.SparseScalar.add.Goals as goal

pub combination-requires-clause-small : goal.combination-requires-clause-small
combination-requires-clause-small c = small_of_slices c.args.self.now.n c.as_slice.result.now c.as_slice-then-self-other.result.now c.args.self.now.terms.items c.args.other.now.terms.items [] c.as_slice.ensures c.as_slice-then-self-other.ensures 1 1 (2 ^ 110) (sums-bound_same c.args.self.now.n c.args.self.now.terms.items c.args.other.now.terms.items c.args.self.now.den c.args.other.now.den (form_of c.args.self.now) (form_at c.args.other.now c.args.self.now.n c.requires.orders) c.requires.sizes)

pub returns-then-self-other-clause-value : goal.returns-then-self-other-clause-value
returns-then-self-other-clause-value c = c.of_terms.ensures.value
    ∙ combined-same c.args.self.now.n c.args.self.now.terms.items c.args.other.now.terms.items c.args.self.now.den c.args.other.now.den (form_of c.args.self.now) (form_at c.args.other.now c.args.self.now.n c.requires.orders) c.in_ok-sums.sums.items (pos 1) (pos 1) c.if-self-other.true (terms_of_slices c.args.self.now.n c.as_slice.result.now c.as_slice-then-self-other.result.now c.args.self.now.terms.items c.args.other.now.terms.items c.in_ok-sums.sums.items c.as_slice.ensures c.as_slice-then-self-other.ensures c.in_ok-sums.ensures.terms c.args.self.now.canonical (form_at c.args.other.now c.args.self.now.n c.requires.orders).terms) refl
    (sum_of_slices c.args.self.now.n c.as_slice.result.now c.as_slice-then-self-other.result.now c.args.self.now.terms.items c.args.other.now.terms.items c.in_ok-sums.sums.items c.as_slice.ensures c.as_slice-then-self-other.ensures (pos 1) (pos 1) (c.in_ok-sums.ensures.sum c.args.self.now.n))
    ∙ once c.args.self.now.n (value_of c.args.self.now.n c.args.self.now.terms.items c.args.self.now.den) (value_of c.args.self.now.n c.args.other.now.terms.items c.args.other.now.den)

pub combination-requires-2-clause-small : goal.combination-requires-2-clause-small
combination-requires-2-clause-small c =
    let d64 : c.args.self.now.den < 2 ^ 64 = search rules in
    let e64 : c.args.other.now.den < 2 ^ 64 = search rules in
    let u : to_z w128 (of_z w128 c.from.result) ≡ pos c.args.other.now.den = den_read c.from.result c.args.other.now.den c.from.ensures e64 in
    let v : to_z w128 (of_z w128 c.from-2.result) ≡ pos c.args.self.now.den *ℤ pos 1 = den_read c.from-2.result c.args.self.now.den c.from-2.ensures d64 ∙ sym (integers.mul-one (pos c.args.self.now.den)) in
    let a : unsigned_abs (to_z w128 (of_z w128 c.from.result)) ≡ c.args.other.now.den = ap unsigned_abs u in
    let b : unsigned_abs (to_z w128 (of_z w128 c.from-2.result)) ≡ c.args.self.now.den = ap unsigned_abs v ∙ times-abs c.args.self.now.den (pos 1) refl in
    small_of_slices c.args.self.now.n c.as_slice-2.result.now c.as_slice-3.result.now c.args.self.now.terms.items c.args.other.now.terms.items [] c.as_slice-2.ensures c.as_slice-3.ensures (unsigned_abs (to_z w128 (of_z w128 c.from.result))) (unsigned_abs (to_z w128 (of_z w128 c.from-2.result))) (2 ^ 110)
    (subst (λ m. m < 2 ^ 110) (λ i. total c.args.self.now.terms.items * sym a i + total c.args.other.now.terms.items * sym b i) (sums-bound c.args.self.now.n c.args.self.now.terms.items c.args.other.now.terms.items c.args.self.now.den c.args.other.now.den (form_of c.args.self.now) (form_at c.args.other.now c.args.self.now.n c.requires.orders) c.requires.sizes))

pub overflow_mul-self : goal.overflow_mul-self
overflow_mul-self c =
    let most : c.args.self.now.den * c.args.other.now.den ≤ 2 ^ 60 = dens-bound c.args.self.now.n c.args.self.now.terms.items c.args.other.now.terms.items c.args.self.now.den c.args.other.now.den (form_of c.args.self.now) (form_at c.args.other.now c.args.self.now.n c.requires.orders) c.requires.denominators in
    let below : c.args.self.now.den * c.args.other.now.den < 2 ^ 64 = omega arith in
    search rules

pub returns-clause-value : goal.returns-clause-value
returns-clause-value c =
    let d64 : c.args.self.now.den < 2 ^ 64 = search rules in
    let e64 : c.args.other.now.den < 2 ^ 64 = search rules in
    let u : to_z w128 (of_z w128 c.from.result) ≡ pos c.args.other.now.den = den_read c.from.result c.args.other.now.den c.from.ensures e64 in
    let v : to_z w128 (of_z w128 c.from-2.result) ≡ pos c.args.self.now.den *ℤ pos 1 = den_read c.from-2.result c.args.self.now.den c.from-2.ensures d64 ∙ sym (integers.mul-one (pos c.args.self.now.den)) in
    c.of_terms-2.ensures.value
    ∙ combined-number c.args.self.now.n c.args.self.now.terms.items c.args.other.now.terms.items c.args.self.now.den c.args.other.now.den (form_of c.args.self.now) (form_at c.args.other.now c.args.self.now.n c.requires.orders) c.in_ok-sums-2.sums.items (to_z w128 (of_z w128 c.from.result)) (to_z w128 (of_z w128 c.from-2.result)) (pos 1) (terms_of_slices c.args.self.now.n c.as_slice-2.result.now c.as_slice-3.result.now c.args.self.now.terms.items c.args.other.now.terms.items c.in_ok-sums-2.sums.items c.as_slice-2.ensures c.as_slice-3.ensures c.in_ok-sums-2.ensures.terms c.args.self.now.canonical (form_at c.args.other.now c.args.self.now.n c.requires.orders).terms) u v
    (sum_of_slices c.args.self.now.n c.as_slice-2.result.now c.as_slice-3.result.now c.args.self.now.terms.items c.args.other.now.terms.items c.in_ok-sums-2.sums.items c.as_slice-2.ensures c.as_slice-3.ensures (to_z w128 (of_z w128 c.from.result)) (to_z w128 (of_z w128 c.from-2.result)) (c.in_ok-sums-2.ensures.sum c.args.self.now.n))
    ∙ once c.args.self.now.n (value_of c.args.self.now.n c.args.self.now.terms.items c.args.self.now.den) (value_of c.args.self.now.n c.args.other.now.terms.items c.args.other.now.den)

pub returns-then-is_empty-clause-value : goal.returns-then-is_empty-clause-value
returns-then-is_empty-clause-value c = let e : c.is_empty.result ≡ (length c.args.other.now.terms.items == 0) = (let l = c.is_empty.ensures in search rules) in
    c.in_ok-same.ensures.value ∙ sym (plus-nothing c.args.self.now.n c.args.other.now.terms.items c.args.other.now.den c.is_empty.result (value_of c.args.self.now.n c.args.self.now.terms.items c.args.self.now.den) c.args.other.now.positive e c.if-is_empty.true)

pub returns-then-is_empty-2-clause-order : goal.returns-then-is_empty-2-clause-order
returns-then-is_empty-2-clause-order c = c.in_ok-same-2.ensures.order ∙ c.requires.orders

pub returns-then-is_empty-2-clause-value : goal.returns-then-is_empty-2-clause-value
returns-then-is_empty-2-clause-value c = let e : c.is_empty-2.result ≡ (length c.args.self.now.terms.items == 0) = (let l = c.is_empty-2.ensures in search rules) in
    subst (λ m. value_of m c.in_ok-same-2.same.terms.items c.in_ok-same-2.same.den ≡ value_of m c.args.other.now.terms.items c.args.other.now.den) c.requires.orders c.in_ok-same-2.ensures.value
    ∙ sym (nothing-plus c.args.self.now.n c.args.self.now.terms.items c.args.self.now.den c.is_empty-2.result (value_of c.args.self.now.n c.args.other.now.terms.items c.args.other.now.den) c.args.self.now.positive e c.if-is_empty-2.true)
