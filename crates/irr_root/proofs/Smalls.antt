-- Numbers that are sums of few powers of z: what the calls on two of them ask.
--   is-true, not-true        a test that is true, or false
--   small-more               with room for more powers
--   denominators_of_small    of a sum, a product or a comparison
--   sizes_of_small           of a sum or a comparison
--   products_of_small        of a product
--   small-product            the size of a product
use Rattle.std.proofs.Common.{rules, ◌≡◌, sym, ◌∙◌, subst, ℕ, ◌+◌, ◌*◌, ◌<◌, ◌≤◌, ◌^◌, arith}
use Rattle.std.specs.Prelude.{Bool, true, false, IsTrue}
use native.Mathlib.Nat as Nat
use Rattle.irr_number.specs.Number.{Number, numbers}
use Rattle.irr_canonical.specs.RootSum.{IsRootSum}
use Rattle.irr_canonical.specs.Coefficient.{denominator, size}
use Rattle.irr_canonical.proofs.RootSums.{IsRootSum-more, IsRootSum-mul}
use Rattle.irr_mat.proofs.Sizes.{product_sizes, sum_denominators, sum_sizes}
use Rattle.irr_root.specs.RootSums.{IsSmall}

-- a test that is true
pub is-true : (b : Bool) → b ≡ true → IsTrue b
is-true b e = search rules

pub not-true : (b : Bool) → b ≡ false → IsTrue b → ⊥
not-true b e t = let f : IsTrue false = subst IsTrue e t in absurd (search rules)

sum_of_small : (n s t : ℕ) → n ≤ 12000 → s ≤ 2 ^ 36 → t ≤ 2 ^ 36 → s * n * 1 + t * n * 1 < 2 ^ 110
sum_of_small n s t l p q =
    let a : s * n ≤ 2 ^ 36 * 12000 = Nat.mul-le-mul p l in
    let b : t * n ≤ 2 ^ 36 * 12000 = Nat.mul-le-mul q l in
    omega arith

product_of_small : (n s t : ℕ) → n ≤ 12000 → s ≤ 2 ^ 36 → t ≤ 2 ^ 36 → s * n * (t * n) ≤ 2 ^ 100
product_of_small n s t l p q =
    let a : s * n * (t * n) ≤ 2 ^ 36 * 12000 * (2 ^ 36 * 12000) = Nat.mul-le-mul (Nat.mul-le-mul p l) (Nat.mul-le-mul q l) in
    let b : 2 ^ 36 * 12000 * (2 ^ 36 * 12000) ≤ 2 ^ 100 = omega arith in
    Nat.le_trans a b

module _ {S : Type 0} (order : S → ℕ) (value : (n : ℕ) → S → Number n) where
  pub small-more : (n s t : ℕ) (x : S) → s ≤ t → IsSmall order value n s x → IsSmall order value n t x
  small-more n s t x l h = record { has_order = h.has_order; few = IsRootSum-more n t l h.few }

  module _ (positive : (x : S) → 0 < order x) (limited : (x : S) → order x ≤ 12000) (n s t : ℕ) (x y : S) (h : IsSmall order value n s x) (k : IsSmall order value n t y) where
    within : n ≤ 12000
    within = subst (λ m. m ≤ 12000) h.has_order (limited x)

    pub denominators_of_small : denominator (order x) (value (order x) x) * denominator (order x) (value (order x) y) ≤ 2 ^ 60
    denominators_of_small = sum_denominators value (order x) n (positive x) h.has_order s 1 t 1 x y h.few k.few (2 ^ 60) (omega arith)

    pub sizes_of_small : s ≤ 2 ^ 36 → t ≤ 2 ^ 36
        → size (order x) (value (order x) x) * denominator (order x) (value (order x) y) + size (order x) (value (order x) y) * denominator (order x) (value (order x) x) < 2 ^ 110
    sizes_of_small p q = sum_sizes value (order x) n (positive x) h.has_order s 1 t 1 x y h.few k.few (2 ^ 110) (sum_of_small n s t within p q)

    pub products_of_small : s ≤ 2 ^ 36 → t ≤ 2 ^ 36 → size (order x) (value (order x) x) * size (order x) (value (order x) y) ≤ 2 ^ 100
    products_of_small p q = product_sizes value (order x) n (positive x) h.has_order s 1 t 1 x y h.few k.few (2 ^ 100) (product_of_small n s t within p q)

  pub small-product : (n s t b : ℕ) (x y z : S) → IsSmall order value n s x → IsSmall order value n t y → s * t ≤ b → order z ≡ order x
      → value (order x) z ≡ (numbers (order x)).mul (value (order x) x) (value (order x) y) → IsSmall order value n b z
  small-product n s t b x y z h k l o v = record {
    has_order = o ∙ h.has_order;
    few = subst (IsRootSum n b 1) (sym (subst (λ m. value m z ≡ (numbers m).mul (value m x) (value m y)) h.has_order v)) (IsRootSum-more n b l (IsRootSum-mul n h.few k.few));
  }
