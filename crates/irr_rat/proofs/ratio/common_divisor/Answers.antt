use Rattle.std.proofs.Common.{◌≡◌, ap, subst, refl, ℤ, suc, zero, pos, negsuc, ◌%◌, arith}
use Rattle.std.specs.Prelude.{◌≤ℤ◌, ◌<ℤ◌, unsigned_abs, int_rem}
use Rattle.std.specs.Int.{IsGcd}
use Rattle.std.proofs.lemmas.Int.{ints, rem_below}
use Rattle.std.proofs.lemmas.Nat.Gcd.{IsGcd-from_zero, IsGcd-from_mod}
use Rattle.num_traits.proofs.Fits.{rem-fits}
use Rattle.irr_rat.proofs.ratio.common_divisor.Goals as goal

above_zero : (z : ℤ) → pos 0 ≤ℤ z → (z ≡ pos 0 → ⊥) → pos 0 <ℤ z
above_zero (pos zero) up other = absurd (other refl)
above_zero (pos (suc n)) up other = omega (arith, ints)
above_zero (negsuc n) up other = absurd (omega (arith, ints))

rem_sign : (x y : ℤ) → pos 0 ≤ℤ x → pos 0 ≤ℤ int_rem x y
rem_sign (pos n) y h = omega (arith, ints)
rem_sign (negsuc n) y h = absurd (omega (arith, ints))

rem_size : (x y : ℤ) → pos 0 ≤ℤ x → unsigned_abs (int_rem x y) ≡ unsigned_abs x % unsigned_abs y
rem_size (pos n) y h = refl
rem_size (negsuc n) y h = absurd (omega (arith, ints))

pub steps-init : goal.steps-init
steps-init g c = record { x_fits = c.requires.a; y_fits = c.requires.b; x_sign = c.requires.a_sign; y_sign = c.requires.b_sign; keeps = λ k h. h }

pub rem-rest-requires : goal.rem-rest-requires
rem-rest-requires g c =
    let exact = g.met.I.Integral.exact_law in
    let big = above_zero _ c.steps.invariant.y_sign (λ h. cc (rw c.steps-test.true at ((c.is_zero.ensures.value exact).1 h))) in
    g.met.I.Num.can_rem_law c.steps.x c.steps.y (λ e. g.met.I.Num.positive_divisor_law _ _ e c.steps.invariant.x_fits c.steps.invariant.y_fits big)

pub steps-smaller : goal.steps-smaller
steps-smaller g c =
    let exact = g.met.I.Integral.exact_law in
    let big = above_zero _ c.steps.invariant.y_sign (λ h. cc (rw c.steps-test.true at ((c.is_zero.ensures.value exact).1 h))) in
    let is = g.met.I.Num.rem_law _ _ _ c.rem-rest.ensures exact in
    rw is (rem_below (g.I.Number.value c.steps.x) (g.I.Number.value c.steps.y) (omega (arith, ints)))

pub steps-preserved : goal.steps-preserved
steps-preserved g c =
    let exact = g.met.I.Integral.exact_law in
    let is = g.met.I.Num.rem_law _ _ _ c.rem-rest.ensures exact in
    let low = g.met.I.FixedWidth.small_fits_law 0 (omega arith) in
    record {
      x_fits = c.steps.invariant.y_fits;
      y_fits = rw is (rem-fits g.I.Number.fits (λ x y z. g.I.Number.between_law x y z exact) (g.I.Number.value c.steps.x) (g.I.Number.value c.steps.y) low c.steps.invariant.x_fits c.steps.invariant.x_sign);
      x_sign = c.steps.invariant.y_sign;
      y_sign = rw is (rem_sign (g.I.Number.value c.steps.x) (g.I.Number.value c.steps.y) c.steps.invariant.x_sign);
      keeps = λ k h. c.steps.invariant.keeps k (IsGcd-from_mod (unsigned_abs (g.I.Number.value c.steps.x)) (unsigned_abs (g.I.Number.value c.steps.y)) k
          (subst (λ n. IsGcd (unsigned_abs (g.I.Number.value c.steps.y)) n k) (rem_size (g.I.Number.value c.steps.x) (g.I.Number.value c.steps.y) c.steps.invariant.x_sign) (rw is at h)));
    }

pub returns-clause-greatest : goal.returns-clause-greatest
returns-clause-greatest g c =
    let exact = g.met.I.Integral.exact_law in
    c.steps.invariant.keeps _ (IsGcd-from_zero _ _ (ap unsigned_abs ((c.steps-test.ensures.value exact).0 refl)))
