-- Each coefficient is its exact quotient.
use Rattle.std.proofs.Common.{◌≡◌, ◌≢◌, sym, ◌∙◌, ap, rules, ℕ, ℤ, pos, ◌+◌, ◌<◌, ◌≤◌, inl, inr, ◌*ℤ◌, ◌<ℤ◌, List, length, slice_set, unsigned_abs, int_div, to_z, of_z, arith, get_or-set_other, get_or-set_same}
use Rattle.std.specs.Int.{◌∣◌}
use Rattle.std.specs.Int.RustNames.{FitsSigned}
use Rattle.std.proofs.lemmas.Bool.{cases_lt}
use Rattle.std.proofs.lemmas.Int.{ints, quot_fits, to_z-of_z}
use mir.Syntax.{w128}
use Rattle.irr_cyc.specs.Form.{at}
use Rattle.irr_cyc.proofs.Divisors.{mul-int_div}
use Rattle.irr_cyc.proofs.lowest.divide.Goals as goal

-- one more coefficient divided
module _ (old now : List ℤ) (i d : ℕ) (v : ℤ) (len : length now ≡ length old) (lt : i < length old) (divides : (j : ℕ) → j < length old → d ∣ unsigned_abs (at old j))
    (left : (j : ℕ) → j < length old → i ≤ j → at now j ≡ at old j) (is : v ≡ int_div (at now i) (pos d)) where
  done-step : ((j : ℕ) → j < length old → j < i → pos d *ℤ at now j ≡ at old j) → (j : ℕ) → j < length old → j < i + 1 → pos d *ℤ at (slice_set now i v) j ≡ at old j
  done-step done j lj h = elim (cases_lt j i) [
    | inl l ↦ (let ne : j ≢ i = omega arith in rw get_or-set_other (done j lj l))
    | inr g ↦ (let e : j ≡ i = omega arith in
        ap (λ x. pos d *ℤ at (slice_set now i v) x) e ∙ ap (λ x. pos d *ℤ x) (get_or-set_same now i v (pos 0) (omega (arith, len)) ∙ is ∙ ap (λ x. int_div x (pos d)) (left i lt (omega arith)))
        ∙ mul-int_div d (at old i) (divides i lt) ∙ ap (at old) (sym e))
  ]

  left-step : (j : ℕ) → j < length old → i + 1 ≤ j → at (slice_set now i v) j ≡ at old j
  left-step j lj h = let ne : j ≢ i = omega arith in rw get_or-set_other (left j lj (omega arith))

-- what is written is the quotient
written : (a b : ℤ) (d : ℕ) → FitsSigned w128 a → FitsSigned w128 b → b ≡ pos d → 0 < d → to_z w128 (of_z w128 (int_div (to_z w128 (of_z w128 a)) (to_z w128 (of_z w128 b)))) ≡ int_div a (pos d)
written a b d fa fb e p =
    let positive : pos 0 <ℤ pos d = omega (arith, ints) in
    let fits : FitsSigned w128 (int_div a (pos d)) = quot_fits w128 a (pos d) fa positive in
    ap (λ x. to_z w128 (of_z w128 x)) (λ i. int_div (to_z-of_z w128 a fa i) ((to_z-of_z w128 b fb ∙ e) i)) ∙ to_z-of_z w128 (int_div a (pos d)) fits

pub loop-coefficient-preserved : goal.loop-coefficient-preserved
loop-coefficient-preserved c =
    let now : List ℤ = c.loop-coefficient.coefficients in
    let old : List ℤ = c.args.coefficients.now in
    let i : ℕ = c.loop-coefficient.coefficient-index in
    let d : ℕ = c.args.divisor in
    let len : length c.loop-coefficient.coefficients ≡ length c.args.coefficients.now = c.loop-coefficient.auto.coefficients in
    let fits : FitsSigned w128 (at c.loop-coefficient.coefficients c.loop-coefficient.coefficient-index) = search rules in
    let fits_divisor : FitsSigned w128 c.from-divisor.result = search rules in
    let by : to_z w128 (of_z w128 c.from-divisor.result) ≡ pos c.args.divisor = to_z-of_z w128 c.from-divisor.result fits_divisor ∙ c.from-divisor.ensures in
    let is = written (at now i) c.from-divisor.result d fits fits_divisor c.from-divisor.ensures c.requires.positive in
    record {
      done = λ j lj h. ap (λ x. x *ℤ at (slice_set now i (to_z w128 (of_z w128 (int_div (to_z w128 (of_z w128 (at c.loop-coefficient.coefficients c.loop-coefficient.coefficient-index))) (to_z w128 (of_z w128 c.from-divisor.result)))))) j) by ∙ done-step old now i d _ len c.loop-coefficient-test.true c.requires.divides c.loop-coefficient.invariant.left is
          (λ k lk hk. ap (λ x. x *ℤ at now k) (sym by) ∙ c.loop-coefficient.invariant.done k lk hk) j lj h;
      left = left-step old now i d _ len c.loop-coefficient-test.true c.requires.divides c.loop-coefficient.invariant.left is;
    }
