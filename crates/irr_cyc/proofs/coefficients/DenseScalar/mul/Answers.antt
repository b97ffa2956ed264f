-- Products of canonical forms.
use Rattle.std.proofs.Common.{◌≡◌, sym, ◌∙◌, ap, subst, rules, ℕ, ℤ, ◌+◌, ◌*◌, ◌%◌, ◌<◌, ◌≤◌, ◌^◌, List, length, unsigned_abs, arith}
use Rattle.irr_number.specs.Element.{delta, weighted_sum}
use Rattle.irr_number.specs.Integers.{integers}
use Rattle.irr_canonical.specs.Coefficient.{total_below}
use Rattle.irr_cyc.specs.Form.{at}
use Rattle.irr_cyc.proofs.Combined.{mul-value, product-bound, through, totals-bound}
use Rattle.irr_cyc.proofs.coefficients.DenseScalar.mul.Goals as goal

totals : (left xs right ys : List ℤ) → left ≡ xs → right ≡ ys → total_below (length xs) (λ j. unsigned_abs (at xs j)) * total_below (length xs) (λ j. unsigned_abs (at ys j)) ≤ 2 ^ 100
    → total_below (length left) (λ j. unsigned_abs (at left j)) * total_below (length left) (λ j. unsigned_abs (at right j)) ≤ 2 ^ 100
totals left xs right ys p q h = subst (λ (zs : List ℤ). total_below (length zs) (λ j. unsigned_abs (at zs j)) * total_below (length zs) (λ j. unsigned_abs (at right j)) ≤ 2 ^ 100) (sym p)
    (subst (λ (zs : List ℤ). total_below (length xs) (λ j. unsigned_abs (at xs j)) * total_below (length xs) (λ j. unsigned_abs (at zs j)) ≤ 2 ^ 100) (sym q) h)

entries : (left xs right ys zs : List ℤ) → left ≡ xs → right ≡ ys
    → (let n = length left in (k : ℕ) → k < n → at zs k ≡ weighted_sum n (at left) (λ i. weighted_sum n (at right) (λ j. delta integers ((i + j) % n) k)))
    → (let n = length xs in (k : ℕ) → k < n → at zs k ≡ weighted_sum n (at xs) (λ i. weighted_sum n (at ys) (λ j. delta integers ((i + j) % n) k)))
entries left xs right ys zs p q h = subst (λ (ws : List ℤ). let n = length xs in (k : ℕ) → k < n → at zs k ≡ weighted_sum n (at xs) (λ i. weighted_sum n (at ws) (λ j. delta integers ((i + j) % n) k))) q
    (subst (λ (ws : List ℤ). let n = length ws in (k : ℕ) → k < n → at zs k ≡ weighted_sum n (at ws) (λ i. weighted_sum n (at right) (λ j. delta integers ((i + j) % n) k))) p h)

pub product-requires-clause-small : goal.product-requires-clause-small
product-requires-clause-small c = totals c.as_slice.result.now c.args.self.now.coefficients.items c.as_slice-2.result.now c.args.other.now.coefficients.items c.as_slice.ensures.value c.as_slice-2.ensures.value (totals-bound c.args.self.now.coefficients.items c.args.other.now.coefficients.items c.args.self.now.den c.args.other.now.den c.args.self.now.form c.args.other.now.form c.requires.orders c.requires.sizes)

pub overflow_mul-self : goal.overflow_mul-self
overflow_mul-self c =
    let most : c.args.self.now.den * c.args.other.now.den ≤ 2 ^ 60 = product-bound c.args.self.now.coefficients.items c.args.other.now.coefficients.items c.args.self.now.den c.args.other.now.den c.args.self.now.form c.args.other.now.form c.requires.orders c.requires.denominators in
    let below : c.args.self.now.den * c.args.other.now.den < 2 ^ 64 = omega arith in
    search rules

pub of_powers-requires-clause-small : goal.of_powers-requires-clause-small
of_powers-requires-clause-small c = λ j lj. omega (arith, c.in_ok-products.ensures.small j (omega (arith, c.in_ok-products.ensures.len)))

pub returns-clause-value : goal.returns-clause-value
returns-clause-value c = through (length c.args.self.now.coefficients.items) (length c.in_ok-products.products.items) c.of_powers.result.coefficients.items c.in_ok-products.products.items c.of_powers.result.den (c.args.self.now.den * c.args.other.now.den) (c.in_ok-products.ensures.len ∙ ap length c.as_slice.ensures.value) c.of_powers.ensures.value
    ∙ mul-value c.args.self.now.coefficients.items c.args.other.now.coefficients.items c.args.self.now.den c.args.other.now.den c.args.self.now.form c.args.other.now.form c.requires.orders c.in_ok-products.products.items (entries c.as_slice.result.now c.args.self.now.coefficients.items c.as_slice-2.result.now c.args.other.now.coefficients.items c.in_ok-products.products.items c.as_slice.ensures.value c.as_slice-2.ensures.value c.in_ok-products.ensures.value)
