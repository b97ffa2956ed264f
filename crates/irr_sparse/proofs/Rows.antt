-- Rows of terms, one term after another.
--   row-start, row-next, row-end    the sums
--   most-next, small-next, product-small    the sizes
use Rattle.std.proofs.Common.{◌≡◌, ◌≢◌, sym, ◌∙◌, ap, ap₂, ℕ, ℤ, pos, negsuc, ◌+◌, ◌*◌, ◌%◌, ◌<◌, ◌≤◌, ◌*ℤ◌, List, take, length, unsigned_abs, arith}
use Rattle.std.proofs.lemmas.Int.{unsigned_abs-mul}
use Rattle.std.proofs.lemmas.List.{take_all, take_more}
use Rattle.std.proofs.lemmas.List.Sums.{get_or-le-sum_by, sum_by-take-le, sum_by_more}
use native.Mathlib.Nat as Nat
use Rattle.irr_number.specs.Number.{Number, numbers, root_power}
use Rattle.irr_number.proofs.RootPowers.{root_power-mod}
use Rattle.irr_rational.specs.Integer.{integer}
use Rattle.irr_sparse.specs.TermList.{coefficient_at, exponent_at, row_sum, total}
use Rattle.irr_sparse.proofs.Sums.{row-more, row-none, term_value}

module _ (n : ℕ) (times : ℤ) (shift factor : ℕ) (ts : List (ℕ × ℤ)) where
  pub row-start : (old : Number n) → old ≡ (numbers n).add old (row_sum n times shift factor (take 0 ts))
  row-start old = sym (ap ((numbers n).add old) (row-none n times shift factor) ∙ (numbers n).add-zero old)

  pub row-next : (old now new : Number n) (i place : ℕ) (k : ℤ) → i < length ts → place ≡ (shift + factor * exponent_at ts i) % n → k ≡ times *ℤ coefficient_at ts i
      → now ≡ (numbers n).add old (row_sum n times shift factor (take i ts)) → new ≡ (numbers n).add now (term_value n place k)
      → new ≡ (numbers n).add old (row_sum n times shift factor (take (i + 1) ts))
  row-next old now new i place k lt ep ek h g = g
      ∙ ap₂ (numbers n).add h (λ t. (numbers n).mul (integer (numbers n) (ek t)) ((ap (root_power n) ep ∙ root_power-mod n (shift + factor * exponent_at ts i)) t))
      ∙ (numbers n).add_assoc old (row_sum n times shift factor (take i ts)) (term_value n (shift + factor * exponent_at ts i) (times *ℤ coefficient_at ts i))
      ∙ ap ((numbers n).add old) (sym (row-more n times shift factor (take i ts) (exponent_at ts i, coefficient_at ts i)) ∙ ap (row_sum n times shift factor) (sym (take_more ts i (0, pos 0) lt)))

  pub row-end : (i : ℕ) → length ts ≤ i → row_sum n times shift factor (take i ts) ≡ row_sum n times shift factor ts
  row-end i le = ap (row_sum n times shift factor) (take_all i ts le)

module _ (ts : List (ℕ × ℤ)) (m w : ℕ) (i : ℕ) (lt : i < length ts) where
  one_more : total (take (i + 1) ts) ≡ total (take i ts) + unsigned_abs (coefficient_at ts i)
  one_more = sum_by_more (λ (t : ℕ × ℤ). unsigned_abs t.1) ts i (0, pos 0) lt

  one-le : unsigned_abs (coefficient_at ts i) ≤ total ts
  one-le = get_or-le-sum_by (λ (t : ℕ × ℤ). unsigned_abs t.1) ts i (0, pos 0) lt

  pub most-next : (old now new a : ℕ) → a ≡ m * unsigned_abs (coefficient_at ts i) → now ≤ old + m * total (take i ts) * w → new ≤ now + a * w → new ≤ old + m * total (take (i + 1) ts) * w
  most-next old now new a e h g = omega (arith, ap (λ x. m * x * w) one_more, ap (λ x. x * w) e, h, g)

  pub small-next : (old now a most : ℕ) → a ≡ m * unsigned_abs (coefficient_at ts i) → now ≤ old + m * total (take i ts) * w → old + m * total ts * w < most → now + a * w < most
  small-next old now a most e h small =
      let le : total (take (i + 1) ts) ≤ total ts = sum_by-take-le (λ (t : ℕ × ℤ). unsigned_abs t.1) ts (i + 1) in
      omega (arith, ap (λ x. m * x * w) one_more, ap (λ x. x * w) e, h, small, Nat.mul-le-mul_right w (Nat.mul-le-mul_left m le))

  pub product-small : (old most : ℕ) → 1 ≤ w → old + m * total ts * w < most → m * unsigned_abs (coefficient_at ts i) < most
  product-small old most one small = omega (arith, small, Nat.mul-le-mul_left m one-le, Nat.mul-le-mul_left (m * total ts) one)

-- a product of numbers that are not 0
pub product-ne-zero : (a b : ℤ) → a ≢ pos 0 → b ≢ pos 0 → a *ℤ b ≢ pos 0
product-ne-zero a b na nb e = zero_factor (unsigned_abs a) (unsigned_abs b) (sym (unsigned_abs-mul a b) ∙ ap unsigned_abs e) (λ z. na (zero_of a z)) (λ z. nb (zero_of b z))
  where
    zero_of : (a : ℤ) → unsigned_abs a ≡ 0 → a ≡ pos 0
    zero_of (pos n) z = ap pos z
    zero_of (negsuc n) z = absurd (omega arith)

    zero_factor : (x y : ℕ) → x * y ≡ 0 → (x ≡ 0 → ⊥) → (y ≡ 0 → ⊥) → ⊥
    zero_factor x y z nx ny = let px : 1 ≤ x = omega (arith, nx) in let py : 1 ≤ y = omega (arith, ny) in omega (arith, z, Nat.mul-le-mul px py)
