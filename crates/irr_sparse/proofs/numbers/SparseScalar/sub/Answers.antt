-- Differences of canonical forms.
use Rattle.std.proofs.Common.{rules, ◌≡◌, sym, ◌∙◌, ap, subst, pos, negsuc, ◌+◌, ◌*◌, ◌<◌, ◌≤◌, ◌^◌, ◌*ℤ◌, ◌-ℤ◌, [], unsigned_abs, to_z, of_z, refl, arith, length, ◌==◌}
use mir.Syntax.{w128}
use Rattle.irr_sparse.specs.TermList.{total}
use Rattle.irr_sparse.specs.Value.{value_of}
use Rattle.irr_sparse.proofs.Arithmetic.{combined-number, combined-same, dens-bound, minus_once, small_of_slices, sum_of_slices, sums-bound, sums-bound_same, terms_of_slices, minus-nothing}
use Rattle.irr_sparse.proofs.FormsOf.{form_at, form_of}
use Rattle.irr_sparse.proofs.Words.{den_negative, den_read, times-abs}
use Rattle.irr_sparse.proofs.numbers.SparseScalar.sub.Goals as goal

pub combination-requires-clause-small : goal.combination-requires-clause-small
combination-requires-clause-small c = small_of_slices c.args.self.now.n c.as_slice.result.now c.as_slice-then-self-other.result.now c.args.self.now.terms.items c.args.other.now.terms.items [] c.as_slice.ensures c.as_slice-then-self-other.ensures 1 1 (2 ^ 110) (sums-bound_same c.args.self.now.n c.args.self.now.terms.items c.args.other.now.terms.items c.args.self.now.den c.args.other.now.den (form_of c.args.self.now) (form_at c.args.other.now c.args.self.now.n c.requires.orders) c.requires.sizes)

pub returns-then-self-other-clause-value : goal.returns-then-self-other-clause-value
returns-then-self-other-clause-value c = c.of_terms.ensures.value
    ∙ combined-same c.args.self.now.n c.args.self.now.terms.items c.args.other.now.terms.items c.args.self.now.den c.args.other.now.den (form_of c.args.self.now) (form_at c.args.other.now c.args.self.now.n c.requires.orders) c.in_ok-differences.differences.items (pos 1) (negsuc 0) c.if-self-other.true (terms_of_slices c.args.self.now.n c.as_slice.result.now c.as_slice-then-self-other.result.now c.args.self.now.terms.items c.args.other.now.terms.items c.in_ok-differences.differences.items c.as_slice.ensures c.as_slice-then-self-other.ensures c.in_ok-differences.ensures.terms c.args.self.now.canonical (form_at c.args.other.now c.args.self.now.n c.requires.orders).terms) refl
    (sum_of_slices c.args.self.now.n c.as_slice.result.now c.as_slice-then-self-other.result.now c.args.self.now.terms.items c.args.other.now.terms.items c.in_ok-differences.differences.items c.as_slice.ensures c.as_slice-then-self-other.ensures (pos 1) (negsuc 0) (c.in_ok-differences.ensures.sum c.args.self.now.n))
    ∙ minus_once c.args.self.now.n (value_of c.args.self.now.n c.args.self.now.terms.items c.args.self.now.den) (value_of c.args.self.now.n c.args.other.now.terms.items c.args.other.now.den)

pub combination-requires-2-clause-small : goal.combination-requires-2-clause-small
combination-requires-2-clause-small c =
    let d64 : c.args.self.now.den < 2 ^ 64 = search rules in
    let e64 : c.args.other.now.den < 2 ^ 64 = search rules in
    let u : to_z w128 (of_z w128 c.from.result) ≡ pos c.args.other.now.den = den_read c.from.result c.args.other.now.den c.from.ensures e64 in
    let v : to_z w128 (of_z w128 (pos 0 -ℤ to_z w128 (of_z w128 c.from-2.result))) ≡ pos c.args.self.now.den *ℤ negsuc 0 = den_negative c.from-2.result c.args.self.now.den c.from-2.ensures d64 in
    let a : unsigned_abs (to_z w128 (of_z w128 c.from.result)) ≡ c.args.other.now.den = ap unsigned_abs u in
    let b : unsigned_abs (to_z w128 (of_z w128 (pos 0 -ℤ to_z w128 (of_z w128 c.from-2.result)))) ≡ c.args.self.now.den = ap unsigned_abs v ∙ times-abs c.args.self.now.den (negsuc 0) refl in
    small_of_slices c.args.self.now.n c.as_slice-2.result.now c.as_slice-3.result.now c.args.self.now.terms.items c.args.other.now.terms.items [] c.as_slice-2.ensures c.as_slice-3.ensures (unsigned_abs (to_z w128 (of_z w128 c.from.result))) (unsigned_abs (to_z w128 (of_z w128 (pos 0 -ℤ to_z w128 (of_z w128 c.from-2.result))))) (2 ^ 110)
    (subst (λ m. m < 2 ^ 110) (λ i. total c.args.self.now.terms.items * sym a i + total c.args.other.now.terms.items * sym b i) (sums-bound c.args.self.now.n c.args.self.now.terms.items c.args.other.now.terms.items c.args.self.now.den c.args.other.now.den (form_of c.args.self.now) (form_at c.args.other.now c.args.self.now.n c.requires.orders) c.requires.sizes))

pub overflow_mul-self : goal.overflow_mul-self
overflow_mul-self c =
    let most : c.args.self.now.den * c.args.other.now.den ≤ 2 ^ 60 = dens-bound c.args.self.now.n c.args.self.now.terms.items c.args.other.now.terms.items c.args.self.now.den c.args.other.now.den (form_of c.args.self.now) (form_at c.args.other.now c.args.self.now.n c.requires.orders) c.requires.denominators in
    let below : c.args.self.now.den * c.args.other.now.den < 2 ^ 64 = omega arith in
    search rules

pub returns-clause-value : goal.returns-clause-value
returns-clause-value c =
    let d64 : c.args.self.now.den < 2 ^ 64 = search rules in
    let e64 : c.args.other.now.den < 2 ^ 64 = search rules in
    let u : to_z w128 (of_z w128 c.from.result) ≡ pos c.args.other.now.den = den_read c.from.result c.args.other.now.den c.from.ensures e64 in
    let v : to_z w128 (of_z w128 (pos 0 -ℤ to_z w128 (of_z w128 c.from-2.result))) ≡ pos c.args.self.now.den *ℤ negsuc 0 = den_negative c.from-2.result c.args.self.now.den c.from-2.ensures d64 in
    c.of_terms-2.ensures.value
    ∙ combined-number c.args.self.now.n c.args.self.now.terms.items c.args.other.now.terms.items c.args.self.now.den c.args.other.now.den (form_of c.args.self.now) (form_at c.args.other.now c.args.self.now.n c.requires.orders) c.in_ok-differences-2.differences.items (to_z w128 (of_z w128 c.from.result)) (to_z w128 (of_z w128 (pos 0 -ℤ to_z w128 (of_z w128 c.from-2.result)))) (negsuc 0) (terms_of_slices c.args.self.now.n c.as_slice-2.result.now c.as_slice-3.result.now c.args.self.now.terms.items c.args.other.now.terms.items c.in_ok-differences-2.differences.items c.as_slice-2.ensures c.as_slice-3.ensures c.in_ok-differences-2.ensures.terms c.args.self.now.canonical (form_at c.args.other.now c.args.self.now.n c.requires.orders).terms) u v
    (sum_of_slices c.args.self.now.n c.as_slice-2.result.now c.as_slice-3.result.now c.args.self.now.terms.items c.args.other.now.terms.items c.in_ok-differences-2.differences.items c.as_slice-2.ensures c.as_slice-3.ensures (to_z w128 (of_z w128 c.from.result)) (to_z w128 (of_z w128 (pos 0 -ℤ to_z w128 (of_z w128 c.from-2.result)))) (c.in_ok-differences-2.ensures.sum c.args.self.now.n))
    ∙ minus_once c.args.self.now.n (value_of c.args.self.now.n c.args.self.now.terms.items c.args.self.now.den) (value_of c.args.self.now.n c.args.other.now.terms.items c.args.other.now.den)

pub returns-then-is_empty-clause-value : goal.returns-then-is_empty-clause-value
returns-then-is_empty-clause-value c = let e : c.is_empty.result ≡ (length c.args.other.now.terms.items == 0) = (let l = c.is_empty.ensures in search rules) in
    c.in_ok-same.ensures.value ∙ sym (minus-nothing c.args.self.now.n c.args.other.now.terms.items c.args.other.now.den c.is_empty.result (value_of c.args.self.now.n c.args.self.now.terms.items c.args.self.now.den) c.args.other.now.positive e c.if-is_empty.true)
