-- Multiples of canonical forms by fractions.
use Rattle.std.proofs.Common.{rules, ◌≡◌, ◌≢◌, sym, ◌∙◌, ap, subst, ℕ, ℤ, pos, ◌*◌, ◌<◌, ◌≤◌, ◌^◌, ◌*ℤ◌, List, map, unsigned_abs, FitsSigned, to_z, of_z, arith}
use Rattle.std.proofs.lemmas.Int.{to_z-of_z}
use mir.Syntax.{w128, w64}
use Rattle.irr_algebra.specs.Ring.{whole}
use Rattle.irr_number.specs.Number.{numbers}
use Rattle.irr_cyc.specs.Terms.{terms_sum}
use Rattle.irr_sparse.specs.TermList.{AreTerms, IsLowest, total}
use Rattle.irr_sparse.specs.Value.{value_of}
use Rattle.irr_sparse.proofs.Arithmetic.{none-number, scaled-den, scaled-number, scaled-small}
use Rattle.irr_sparse.proofs.Forms.{none-lowest}
use Rattle.irr_sparse.proofs.FormsOf.{form_of}
use Rattle.irr_sparse.proofs.Lists.{terms-none}
use Rattle.irr_sparse.proofs.Products.{terms-scaled}
use Rattle.irr_sparse.proofs.Sums.{sum-scaled}
use Rattle.irr_sparse.proofs.Values.{value-none}
use Rattle.irr_sparse.proofs.numbers.SparseScalar.scale.Goals as goal

pub invariant_of-result : goal.invariant_of-result
invariant_of-result c = record {
  some = c.args.self.now.some;
  few = c.args.self.now.few;
  positive = omega arith;
  canonical = subst (λ (ts : List (ℕ × ℤ)). AreTerms c.args.self.now.n 0 ts) (sym c.new.ensures.items) (terms-none c.args.self.now.n 0);
  lowest = subst (λ (ts : List (ℕ × ℤ)). IsLowest ts 1) (sym c.new.ensures.items) none-lowest;
}

pub returns-then-num-eq0-clause-value : goal.returns-then-num-eq0-clause-value
returns-then-num-eq0-clause-value c =
    let fits : FitsSigned w64 c.args.num = search rules in
    none-number c.args.self.now.n c.args.num c.args.den (value_of c.args.self.now.n c.new.result.items 1) (value_of c.args.self.now.n c.args.self.now.terms.items c.args.self.now.den)
    (sym (to_z-of_z w64 c.args.num fits) ∙ ap (to_z w64) c.if-num-eq0.true) (ap (λ (ts : List (ℕ × ℤ)). value_of c.args.self.now.n ts 1) c.new.ensures.items ∙ value-none c.args.self.now.n 1 (omega arith))

-- the factor as the program has it
factor_read : (z k : ℤ) → FitsSigned w128 z → FitsSigned w64 k → z ≡ to_z w64 (of_z w64 k) → to_z w128 (of_z w128 z) ≡ k
factor_read z k f g e = to_z-of_z w128 z f ∙ e ∙ to_z-of_z w64 k g

pub scaled-requires : goal.scaled-requires
scaled-requires c =
    let fits : FitsSigned w64 c.args.num = search rules in
    let ft : FitsSigned w128 c.from.result = search rules in
    let r : to_z w128 (of_z w128 c.from.result) ≡ c.args.num = factor_read c.from.result c.args.num ft fits c.from.ensures in
    let small : total c.args.self.now.terms.items * unsigned_abs c.args.num ≤ 2 ^ 100 = scaled-small c.args.self.now.n c.args.self.now.terms.items c.args.self.now.den (form_of c.args.self.now) (unsigned_abs c.args.num) c.requires.sizes in
    subst (λ x. total c.as_slice.result.now * unsigned_abs x < 2 ^ 126) (sym r)
    (subst (λ (ts : List (ℕ × ℤ)). total ts * unsigned_abs c.args.num < 2 ^ 126) (sym c.as_slice.ensures) (omega (arith, small)))

pub overflow_mul-self : goal.overflow_mul-self
overflow_mul-self c =
    let most : c.args.self.now.den * c.args.den ≤ 2 ^ 60 = scaled-den c.args.self.now.n c.args.self.now.terms.items c.args.self.now.den (form_of c.args.self.now) c.args.den c.requires.denominators in
    let below : c.args.self.now.den * c.args.den < 2 ^ 64 = omega arith in
    search rules

-- the products as multiples of the terms
multiples : (slice ts zs : List (ℕ × ℤ)) (k l : ℤ) → slice ≡ ts → k ≡ l → zs ≡ map (λ (t : ℕ × ℤ). (t.0, t.1 *ℤ k)) slice → zs ≡ map (λ (t : ℕ × ℤ). (t.0, t.1 *ℤ l)) ts
multiples slice ts zs k l e r h = h ∙ λ i. map (λ (t : ℕ × ℤ). (t.0, t.1 *ℤ r i)) (e i)

nonzero-num : (k : ℤ) → (of_z w64 k ≡ 0 → ⊥) → k ≢ pos 0
nonzero-num k n e = n (ap (of_z w64) e)

pub of_terms-requires-clause-terms : goal.of_terms-requires-clause-terms
of_terms-requires-clause-terms c =
    let fits : FitsSigned w64 c.args.num = search rules in
    let ft : FitsSigned w128 c.from.result = search rules in
    let r : to_z w128 (of_z w128 c.from.result) ≡ c.args.num = factor_read c.from.result c.args.num ft fits c.from.ensures in
    subst (AreTerms c.args.self.now.n 0) (sym (multiples c.as_slice.result.now c.args.self.now.terms.items c.in_ok-products.products.items (to_z w128 (of_z w128 c.from.result)) c.args.num c.as_slice.ensures r c.in_ok-products.ensures))
    (terms-scaled c.args.self.now.n 0 c.args.num c.args.self.now.terms.items (nonzero-num c.args.num c.if-num-eq0.false) c.args.self.now.canonical)

pub returns-clause-value : goal.returns-clause-value
returns-clause-value c =
    let fits : FitsSigned w64 c.args.num = search rules in
    let ft : FitsSigned w128 c.from.result = search rules in
    let r : to_z w128 (of_z w128 c.from.result) ≡ c.args.num = factor_read c.from.result c.args.num ft fits c.from.ensures in
    let is : c.in_ok-products.products.items ≡ map (λ (t : ℕ × ℤ). (t.0, t.1 *ℤ c.args.num)) c.args.self.now.terms.items = multiples c.as_slice.result.now c.args.self.now.terms.items c.in_ok-products.products.items (to_z w128 (of_z w128 c.from.result)) c.args.num c.as_slice.ensures r c.in_ok-products.ensures in
    ap ((numbers c.args.self.now.n).mul (whole (numbers c.args.self.now.n) c.args.den)) c.of_terms.ensures.value
    ∙ scaled-number c.args.self.now.n c.args.self.now.terms.items c.args.self.now.den (form_of c.args.self.now) c.in_ok-products.products.items c.args.num c.args.den c.requires.positive
    (subst (AreTerms c.args.self.now.n 0) (sym is) (terms-scaled c.args.self.now.n 0 c.args.num c.args.self.now.terms.items (nonzero-num c.args.num c.if-num-eq0.false) c.args.self.now.canonical))
    (ap (λ (ts : List (ℕ × ℤ)). terms_sum c.args.self.now.n ts) is ∙ sum-scaled c.args.self.now.n c.args.num c.args.self.now.terms.items)
