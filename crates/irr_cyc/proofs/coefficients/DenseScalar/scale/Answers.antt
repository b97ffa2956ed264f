-- Multiples of canonical forms by fractions.
use Rattle.std.proofs.Common.{◌≡◌, sym, ◌∙◌, ap, subst, rules, ℕ, ℤ, ◌*◌, ◌<◌, ◌≤◌, ◌^◌, ◌*ℤ◌, List, length, unsigned_abs, FitsSigned, to_z, of_z, arith}
use Rattle.std.proofs.lemmas.Int.{to_z-of_z}
use mir.Syntax.{w64}
use Rattle.irr_algebra.specs.Ring.{whole}
use Rattle.irr_number.specs.Number.{numbers}
use Rattle.irr_cyc.specs.Form.{at}
use Rattle.irr_cyc.proofs.Combined.{scale-value, scaled-basis, scaled-bound, scaled-denominator, through}
use Rattle.irr_cyc.proofs.coefficients.DenseScalar.scale.Goals as goal

-- entries of a slice as entries of the list
entries : (slice xs zs : List ℤ) (k : ℤ) → FitsSigned w64 k → slice ≡ xs → ((j : ℕ) → j < length slice → at zs j ≡ at slice j *ℤ to_z w64 (of_z w64 k)) → (j : ℕ) → j < length xs → at zs j ≡ at xs j *ℤ k
entries slice xs zs k f e h = subst (λ (ys : List ℤ). (j : ℕ) → j < length ys → at zs j ≡ at ys j *ℤ k) e (λ j lt. h j lt ∙ ap (λ x. at slice j *ℤ x) (to_z-of_z w64 k f))

bounds : (slice xs : List ℤ) (k : ℤ) → FitsSigned w64 k → slice ≡ xs → ((j : ℕ) → j < length xs → unsigned_abs (at xs j) * unsigned_abs k ≤ 2 ^ 100) → (j : ℕ) → j < length slice → unsigned_abs (at slice j) * unsigned_abs (to_z w64 (of_z w64 k)) ≤ 2 ^ 100
bounds slice xs k f e h = subst (λ x. (j : ℕ) → j < length slice → unsigned_abs (at slice j) * unsigned_abs x ≤ 2 ^ 100) (sym (to_z-of_z w64 k f)) (subst (λ (ys : List ℤ). (j : ℕ) → j < length ys → unsigned_abs (at ys j) * unsigned_abs k ≤ 2 ^ 100) (sym e) h)

pub multiples-requires : goal.multiples-requires
multiples-requires c = let fits : FitsSigned w64 c.args.num = search rules in bounds c.as_slice.result.now c.args.self.now.coefficients.items c.args.num fits c.as_slice.ensures.value (scaled-bound c.args.self.now.coefficients.items c.args.self.now.den c.args.self.now.form c.args.den c.args.num c.requires.positive c.requires.sizes)

pub overflow_mul-self : goal.overflow_mul-self
overflow_mul-self c =
    let most : c.args.self.now.den * c.args.den ≤ 2 ^ 60 = scaled-denominator c.args.self.now.coefficients.items c.args.self.now.den c.args.self.now.form c.args.den c.args.num c.requires.positive c.requires.denominators in
    let below : c.args.self.now.den * c.args.den < 2 ^ 64 = omega arith in
    search rules

pub in_basis-requires-clause-basis : goal.in_basis-requires-clause-basis
in_basis-requires-clause-basis c = let fits : FitsSigned w64 c.args.num = search rules in scaled-basis c.args.self.now.coefficients.items c.args.self.now.den c.args.self.now.form c.args.den c.args.num c.requires.positive c.in_ok-products.products.items (c.in_ok-products.ensures.len ∙ ap length c.as_slice.ensures.value)
    (entries c.as_slice.result.now c.args.self.now.coefficients.items c.in_ok-products.products.items c.args.num fits c.as_slice.ensures.value c.in_ok-products.ensures.value)

pub returns-clause-value : goal.returns-clause-value
returns-clause-value c = let fits : FitsSigned w64 c.args.num = search rules in ap ((numbers (length c.args.self.now.coefficients.items)).mul (whole (numbers (length c.args.self.now.coefficients.items)) c.args.den))
    (through (length c.args.self.now.coefficients.items) (length c.in_ok-products.products.items) c.in_basis.result.coefficients.items c.in_ok-products.products.items c.in_basis.result.den (c.args.self.now.den * c.args.den) (c.in_ok-products.ensures.len ∙ ap length c.as_slice.ensures.value) c.in_basis.ensures.value)
    ∙ scale-value c.args.self.now.coefficients.items c.args.self.now.den c.args.self.now.form c.args.den c.args.num c.requires.positive c.in_ok-products.products.items
    (entries c.as_slice.result.now c.args.self.now.coefficients.items c.in_ok-products.products.items c.args.num fits c.as_slice.ensures.value c.in_ok-products.ensures.value)
