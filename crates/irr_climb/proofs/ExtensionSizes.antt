-- Sizes of the matrices of an extension.
--   size_grows               h times the bound at h is at most the bound at 2 h or more
--   size_small, size_limited the bounds up to 24 and up to 48
--   ratio_powers             d over h as a sum of d powers
--   square_bound             the number of powers for an entry
use Rattle.std.proofs.Common.{◌≡◌, sym, ◌∙◌, ap, subst, ℕ, ◌+◌, ◌*◌, ◌/◌, ◌<◌, ◌≤◌, arith}
use native.Mathlib.Nat as Nat
use Rattle.irr_algebra.specs.Ring.{whole}
use Rattle.irr_algebra.proofs.Rings.{one-mul}
use Rattle.irr_algebra.proofs.Whole.{whole-one}
use Rattle.irr_number.specs.Number.{Number, numbers}
use Rattle.irr_canonical.specs.RootSum.{IsRootSum}
use Rattle.irr_rep.proofs.TraceRoots.{IsRootSum-whole}
use Rattle.irr_climb.specs.Sizes.{size_bound}

module _ (h o : ℕ) (double : 2 * h ≤ o) (few : h ≤ 24) where
  first_half : 1 + h ≤ 1 + o / 2
  first_half = omega (arith, double)

  second_half : 1 + h / 2 ≤ 1 + o / 4
  second_half = omega (arith, double)

  third_half : 1 + h / 4 ≤ 1 + o / 8
  third_half = omega (arith, double)

  fourth_half : 1 + h / 8 ≤ 1 + o / 16
  fourth_half = omega (arith, double)

  fifth_half : 1 + h / 16 ≤ 1 + o / 32
  fifth_half = omega (arith, double)

  none_left : 1 + h / 32 ≡ 1
  none_left = omega (arith, few)

  regroup : (x a b c d : ℕ) → x * (a * b * c * d * 1) ≡ x * a * b * c * d
  regroup x a b c d = ap (λ k. x * k) (Nat.mul-one (a * b * c * d)) ∙ sym (Nat.mul_assoc x (a * b * c) d)
      ∙ ap (λ k. k * d) (sym (Nat.mul_assoc x (a * b) c) ∙ ap (λ k. k * c) (sym (Nat.mul_assoc x a b)))

  pub size_grows : h * size_bound h ≤ size_bound o
  unfolding size_bound
  size_grows =
      let a = 1 + h / 2 in
      let b = 1 + h / 4 in
      let c = 1 + h / 8 in
      let d = 1 + h / 16 in
      let e : h * (a * b * c * d * (1 + h / 32)) ≡ h * a * b * c * d = ap (λ k. h * (a * b * c * d * k)) none_left ∙ regroup h a b c d in
      let l : h * a * b * c * d ≤ (1 + h) * a * b * c * d =
      Nat.mul-le-mul_right d (Nat.mul-le-mul_right c (Nat.mul-le-mul_right b (Nat.mul-le-mul_right a (let q : h ≤ 1 + h = omega arith in q)))) in
      let m : (1 + h) * a * b * c * d ≤ (1 + o / 2) * (1 + o / 4) * (1 + o / 8) * (1 + o / 16) * (1 + o / 32) =
      Nat.mul-le-mul (Nat.mul-le-mul (Nat.mul-le-mul (Nat.mul-le-mul first_half second_half) third_half) fourth_half) fifth_half in
      subst (λ k. k ≤ (1 + o / 2) * (1 + o / 4) * (1 + o / 8) * (1 + o / 16) * (1 + o / 32)) (sym e) (Nat.le_trans l m)

module _ (h : ℕ) (few : h ≤ 24) where
  half : 1 + h / 2 ≤ 13
  half = omega (arith, few)

  quarter : 1 + h / 4 ≤ 7
  quarter = omega (arith, few)

  eighth : 1 + h / 8 ≤ 4
  eighth = omega (arith, few)

  sixteenth : 1 + h / 16 ≤ 2
  sixteenth = omega (arith, few)

  last : 1 + h / 32 ≤ 1
  last = omega (arith, few)

  pub size_small : size_bound h ≤ 728
  unfolding size_bound
  size_small = Nat.mul-le-mul (Nat.mul-le-mul (Nat.mul-le-mul (Nat.mul-le-mul half quarter) eighth) sixteenth) last

module _ (o : ℕ) (few : o ≤ 48) where
  half_o : 1 + o / 2 ≤ 25
  half_o = omega (arith, few)

  quarter_o : 1 + o / 4 ≤ 13
  quarter_o = omega (arith, few)

  eighth_o : 1 + o / 8 ≤ 7
  eighth_o = omega (arith, few)

  sixteenth_o : 1 + o / 16 ≤ 4
  sixteenth_o = omega (arith, few)

  last_o : 1 + o / 32 ≤ 2
  last_o = omega (arith, few)

  pub size_limited : size_bound o ≤ 18200
  unfolding size_bound
  size_limited = Nat.mul-le-mul (Nat.mul-le-mul (Nat.mul-le-mul (Nat.mul-le-mul half_o quarter_o) eighth_o) sixteenth_o) last_o

-- d over h
pub ratio_powers : (N d h : ℕ) (x : Number N) → 0 < h → (numbers N).mul (whole (numbers N) h) x ≡ whole (numbers N) d → IsRootSum N d h x
ratio_powers N d h x positive e =
    let w = IsRootSum-whole N d in
    record {
      positive = positive;
      powers = w.powers;
      few = w.few;
      multiple = e ∙ sym (one-mul (numbers N) (whole (numbers N) d)) ∙ ap (λ k. (numbers N).mul k (whole (numbers N) d)) (sym (whole-one
          (numbers N))) ∙ w.multiple;
    }

-- d times h times d times the square of b
pub square_bound : (d h b B : ℕ) → d * d ≤ h → h * b ≤ B → d * (h * (d * (b * b))) ≤ B * B
square_bound d h b B few grows =
    let e : d * (h * (d * (b * b))) ≡ d * d * (h * (b * b)) = sym (Nat.mul_assoc d h (d * (b * b))) ∙ ap (λ k. k * (d * (b * b))) (Nat.mul_comm d h)
    ∙ Nat.mul_assoc h d (d * (b * b)) ∙ ap (λ k. h * k) (sym (Nat.mul_assoc d d (b * b))) ∙ Nat.mul_left_comm h (d * d) (b * b) in
    let f : h * (h * (b * b)) ≡ h * b * (h * b) = ap (λ k. h * k) (Nat.mul_left_comm h b b) ∙ sym (Nat.mul_assoc h b (h * b)) in
    let l : d * d * (h * (b * b)) ≤ h * (h * (b * b)) = Nat.mul-le-mul_right (h * (b * b)) few in
    let m : h * b * (h * b) ≤ B * B = Nat.mul-le-mul grows grows in
    subst (λ k. k ≤ B * B) (sym e) (Nat.le_trans (subst (λ k. d * d * (h * (b * b)) ≤ k) f l) m)
