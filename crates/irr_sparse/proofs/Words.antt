-- Values of 128 bits that are read back.
--   sum_read, product_read, neg_read     sums, products and negatives that fit
--   zero_read, ne_zero_read              tests for 0
use Rattle.std.proofs.Common.{◌≡◌, ◌≢◌, sym, ◌∙◌, ap, subst, ℕ, ℤ, pos, ◌+◌, ◌*◌, ◌^◌, ◌<◌, ◌+ℤ◌, ◌*ℤ◌, ◌-ℤ◌, neg_ℤ, negsuc, zero, suc, refl, unsigned_abs, FitsSigned, to_z, of_z, arith}
use Rattle.std.proofs.lemmas.Int.{fits_signed_from_abs, to_z-of_z, unsigned_abs-mul}
use mir.Syntax.{w128}
use native.Mathlib.Nat as Nat
use Rattle.irr_algebra.proofs.Rings.{mul-neg, zero-add}
use Rattle.irr_number.specs.Integers.{integers}
use Rattle.irr_canonical.proofs.Sizes.{unsigned_abs-add, unsigned_abs-sub}
use Rattle.irr_cyc.proofs.Written.{kept}

pub sum_read : (a b : ℤ) → unsigned_abs a + unsigned_abs b < 2 ^ 127 → to_z w128 (of_z w128 (to_z w128 (of_z w128 a) +ℤ to_z w128 (of_z w128 b))) ≡ a +ℤ b
sum_read a b h = ap (λ x. to_z w128 (of_z w128 x)) (λ i. kept a (omega arith) i +ℤ kept b (omega arith) i) ∙ kept (a +ℤ b) (omega (arith, unsigned_abs-add a b))

pub sum_zero : (a b : ℤ) → unsigned_abs a + unsigned_abs b < 2 ^ 127 → of_z w128 (to_z w128 (of_z w128 a) +ℤ to_z w128 (of_z w128 b)) ≡ 0 → a +ℤ b ≡ pos 0
sum_zero a b h e = sym (sum_read a b h) ∙ ap (to_z w128) e

pub sum_ne_zero : (a b : ℤ) → unsigned_abs a + unsigned_abs b < 2 ^ 127 → (of_z w128 (to_z w128 (of_z w128 a) +ℤ to_z w128 (of_z w128 b)) ≡ 0 → ⊥) → a +ℤ b ≢ pos 0
sum_ne_zero a b h ne e = ne (ap (of_z w128) ((λ i. kept a (omega arith) i +ℤ kept b (omega arith) i) ∙ e))

pub product_read : (a b : ℤ) → FitsSigned w128 a → FitsSigned w128 b → unsigned_abs a * unsigned_abs b < 2 ^ 127 → to_z w128 (of_z w128 (to_z w128 (of_z w128 a) *ℤ to_z w128 (of_z w128 b))) ≡ a *ℤ b
product_read a b fa fb h = ap (λ x. to_z w128 (of_z w128 x)) (λ i. to_z-of_z w128 a fa i *ℤ to_z-of_z w128 b fb i) ∙ kept (a *ℤ b) (let e : unsigned_abs (a *ℤ b) ≡ unsigned_abs a * unsigned_abs b = unsigned_abs-mul a b in omega arith)

-- a negative that fits
pub neg_fits : (c : ℤ) → unsigned_abs c < 2 ^ 126 → FitsSigned w128 (pos 0 -ℤ to_z w128 (of_z w128 c))
neg_fits c h = subst (λ x. FitsSigned w128 (pos 0 -ℤ x)) (sym (kept c (omega arith))) (fits_signed_from_abs w128 (pos 0 -ℤ c) (omega (arith, unsigned_abs-sub (pos 0) c)))

pub zero-sub : (c : ℤ) → pos 0 -ℤ c ≡ neg_ℤ c
zero-sub c = zero-add integers (neg_ℤ c)

pub neg_read : (c : ℤ) → unsigned_abs c < 2 ^ 126 → to_z w128 (of_z w128 (pos 0 -ℤ to_z w128 (of_z w128 c))) ≡ neg_ℤ c
neg_read c h = ap (λ x. to_z w128 (of_z w128 (pos 0 -ℤ x))) (kept c (omega arith)) ∙ kept (pos 0 -ℤ c) (omega (arith, unsigned_abs-sub (pos 0) c)) ∙ zero-sub c

pub neg-ne-zero : (c : ℤ) → c ≢ pos 0 → neg_ℤ c ≢ pos 0
neg-ne-zero (pos zero) ne e = ne refl
neg-ne-zero (pos (suc n)) ne e = false e
  where
    false : negsuc n ≡ pos 0 → ⊥
    false e = let h : unsigned_abs (negsuc n) ≡ 0 = ap unsigned_abs e in omega arith
neg-ne-zero (negsuc n) ne e = let h : unsigned_abs (neg_ℤ (negsuc n)) ≡ 0 = ap unsigned_abs e in omega arith

pub product_fits : (a b : ℤ) → FitsSigned w128 a → FitsSigned w128 b → unsigned_abs a * unsigned_abs b < 2 ^ 127 → FitsSigned w128 (to_z w128 (of_z w128 a) *ℤ to_z w128 (of_z w128 b))
product_fits a b fa fb h = subst (FitsSigned w128) (λ i. sym (to_z-of_z w128 a fa) i *ℤ sym (to_z-of_z w128 b fb) i)
    (fits_signed_from_abs w128 (a *ℤ b) (let e : unsigned_abs (a *ℤ b) ≡ unsigned_abs a * unsigned_abs b = unsigned_abs-mul a b in omega arith))

-- a denominator as a value of 128 bits, and its negative
pub den_read : (z : ℤ) (d : ℕ) → z ≡ pos d → d < 2 ^ 64 → to_z w128 (of_z w128 z) ≡ pos d
den_read z d e h = let l : unsigned_abs z ≡ d = ap unsigned_abs e in kept z (omega arith) ∙ e

pub den_negative : (z : ℤ) (d : ℕ) → z ≡ pos d → d < 2 ^ 64 → to_z w128 (of_z w128 (pos 0 -ℤ to_z w128 (of_z w128 z))) ≡ pos d *ℤ negsuc 0
den_negative z d e h = neg_read z (let l : unsigned_abs z ≡ d = ap unsigned_abs e in omega arith) ∙ ap neg_ℤ e ∙ sym (mul-neg integers (pos d) (pos 1) ∙ ap neg_ℤ (integers.mul-one (pos d)))

pub times-abs : (d : ℕ) (k : ℤ) → unsigned_abs k ≡ 1 → unsigned_abs (pos d *ℤ k) ≡ d
times-abs d k e = unsigned_abs-mul (pos d) k ∙ ap (λ x. d * x) e ∙ Nat.mul-one d
