-- Absolute values of whole numbers, and numbers read back from the code's bits.
--   abs-add, abs-sub, abs-mul     bounds of sums, differences and products
--   fits_of_abs                   a number whose absolute value is small fits
--   difference_fits, product_fits
--   weighted_sum                  three products of at most m times n
use Rattle.std.proofs.Common.{sym, subst, ℕ, ◌+◌, ◌*◌, ◌≤◌, ◌^◌, ℤ, pos, negsuc, ◌+ℤ◌, ◌-ℤ◌, ◌*ℤ◌, unsigned_abs, FitsSigned, arith}
use Rattle.std.proofs.lemmas.Int.{ints, unsigned_abs-mul, fits_signed_from_abs}
use Rattle.std.specs.Int.{w16, w64}
use native.Mathlib.Nat as Nat

pub abs-add : (x y : ℤ) (m n : ℕ) → unsigned_abs x ≤ m → unsigned_abs y ≤ n → unsigned_abs (x +ℤ y) ≤ m + n
abs-add (pos a) (pos b) m n h k = omega (arith, ints)
abs-add (pos a) (negsuc b) m n h k = omega (arith, ints)
abs-add (negsuc a) (pos b) m n h k = omega (arith, ints)
abs-add (negsuc a) (negsuc b) m n h k = omega (arith, ints)

pub abs-sub : (x y : ℤ) (m n : ℕ) → unsigned_abs x ≤ m → unsigned_abs y ≤ n → unsigned_abs (x -ℤ y) ≤ m + n
abs-sub (pos a) (pos b) m n h k = omega (arith, ints)
abs-sub (pos a) (negsuc b) m n h k = omega (arith, ints)
abs-sub (negsuc a) (pos b) m n h k = omega (arith, ints)
abs-sub (negsuc a) (negsuc b) m n h k = omega (arith, ints)

pub abs-mul : (x y : ℤ) (m n : ℕ) → unsigned_abs x ≤ m → unsigned_abs y ≤ n → unsigned_abs (x *ℤ y) ≤ m * n
abs-mul x y m n h k = subst (λ v. v ≤ m * n) (sym (unsigned_abs-mul x y)) (Nat.mul-le-mul h k)

pub weighted_sum : (a b c x y z : ℤ) (m n : ℕ) → unsigned_abs a ≤ m → unsigned_abs b ≤ m → unsigned_abs c ≤ m → unsigned_abs x ≤ n → unsigned_abs y ≤ n → unsigned_abs z ≤ n
    → unsigned_abs (((a *ℤ x) +ℤ (b *ℤ y)) +ℤ (c *ℤ z)) ≤ (m * n + m * n) + m * n
weighted_sum a b c x y z m n ha hb hc hx hy hz = abs-add ((a *ℤ x) +ℤ (b *ℤ y)) (c *ℤ z) (m * n + m * n) (m * n)
    (abs-add (a *ℤ x) (b *ℤ y) (m * n) (m * n) (abs-mul a x m n ha hx) (abs-mul b y m n hb hy)) (abs-mul c z m n hc hz)

pub difference_fits : (x y : ℤ) → unsigned_abs x ≤ 2 ^ 60 → unsigned_abs y ≤ 2 ^ 60 → FitsSigned w64 (x -ℤ y)
difference_fits x y h k = let s : unsigned_abs (x -ℤ y) ≤ 2 ^ 60 + 2 ^ 60 = abs-sub x y (2 ^ 60) (2 ^ 60) h k in fits_signed_from_abs w64 (x -ℤ y) (omega arith)

pub product_fits : (x y : ℤ) → unsigned_abs x ≤ 2 ^ 30 → unsigned_abs y ≤ 2 ^ 15 → (unsigned_abs (x *ℤ y) ≤ 2 ^ 45) × FitsSigned w64 (x *ℤ y)
product_fits x y h k = let s : unsigned_abs (x *ℤ y) ≤ 2 ^ 45 = abs-mul x y (2 ^ 30) (2 ^ 15) h k in (s, fits_signed_from_abs w64 (x *ℤ y) (omega arith))

pub small_fits : (x : ℤ) → unsigned_abs x ≤ 243 → FitsSigned w16 x
small_fits x h = fits_signed_from_abs w16 x (omega arith)
