-- Sizes of entries, and what the calls on numbers ask.
--   within-at                        an entry of a matrix within s over d
--   sum_denominators, sum_sizes      of two numbers that are sums of powers
--   product_sizes                    of two numbers that are sums of powers
--   IsRootSum-sum_below              the sum of k numbers over one denominator
use Rattle.std.proofs.Common.{◌≡◌, sym, ◌∙◌, ap₂, get_or, map, subst, ℕ, zero, suc, ◌+◌, ◌*◌, ◌<◌, ◌≤◌, List, Some, arith}
use Rattle.std.specs.Prelude.{slice_get}
use native.Mathlib.Nat as Nat
use Rattle.irr_algebra.specs.Listed.{sum_below}
use Rattle.irr_algebra.proofs.Indices.{from_nat, to_nat-from_nat}
use Rattle.irr_number.specs.Number.{Number, numbers}
use Rattle.irr_canonical.specs.Coefficient.{denominator, size}
use Rattle.irr_canonical.specs.RootSum.{IsRootSum}
use Rattle.irr_canonical.proofs.RootSizes.{denominator_of_IsRootSum, size_of_IsRootSum}
use Rattle.irr_canonical.proofs.RootSums.{IsRootSum-add_same, IsRootSum-more, IsRootSum-zero}
use Rattle.irr_mat.specs.Entries.{matrix_of}
use Rattle.irr_mat.specs.Size.{IsWithin}
use Rattle.irr_mat.proofs.Entries.{entry-at, matrix_of-at}

-- an entry of a matrix within s over d
pub within-at : {S : Type 0} (value : (n : ℕ) → S → Number n) (N r c s d : ℕ) (xs : List S) (i j : ℕ) (x : S) → IsWithin N s d (matrix_of value N r c xs) → i < r → j < c
    → slice_get xs (i * c + j) ≡ Some x → IsRootSum N s d (value N x)
within-at {S} value N r c s d xs i j x h p q e = subst (IsRootSum N s d) (entry-at value N r c xs i j x p q e) (h.entry (from_nat r i p) (from_nat c j q))

pub within-get : {S : Type 0} (value : (n : ℕ) → S → Number n) (N r c s d : ℕ) (xs : List S) (i j : ℕ) → IsWithin N s d (matrix_of value N r c xs) → i < r → j < c
    → IsRootSum N s d (get_or (map (value N) xs) (i * c + j) (numbers N).zero)
within-get value N r c s d xs i j h p q = subst (IsRootSum N s d)
    (matrix_of-at (λ _. 0) value N r c xs (from_nat r i p) (from_nat c j q)
    ∙ ap₂ (λ k l. get_or (map (value N) xs) (k * c + l) (numbers N).zero) (to_nat-from_nat r i p) (to_nat-from_nat c j q))
    (h.entry (from_nat r i p) (from_nat c j q))

module _ (N : ℕ) (hN : 0 < N) where
  denominator-le : (s d : ℕ) (x : Number N) → IsRootSum N s d x → denominator N x ≤ d
  denominator-le s d x h = Nat.le_of_dvd h.positive (denominator_of_IsRootSum N hN s d x h)

  size-le : (s d : ℕ) (x : Number N) → IsRootSum N s d x → size N x ≤ s * N
  size-le s d x h = size_of_IsRootSum N hN s d x h

-- two numbers of the order N, read at their order m
module _ {S : Type 0} (value : (n : ℕ) → S → Number n) (m N : ℕ) (hm : 0 < m) (is : m ≡ N) (s d t e : ℕ) (x y : S) (h : IsRootSum N s d (value N x)) (k : IsRootSum N t e (value N y)) where
  left : IsRootSum m s d (value m x)
  left = subst (λ n. IsRootSum n s d (value n x)) (sym is) h

  right : IsRootSum m t e (value m y)
  right = subst (λ n. IsRootSum n t e (value n y)) (sym is) k

  pub sum_denominators : (b : ℕ) → d * e ≤ b → denominator m (value m x) * denominator m (value m y) ≤ b
  sum_denominators b l = Nat.le_trans (Nat.mul-le-mul (denominator-le m hm s d (value m x) left) (denominator-le m hm t e (value m y) right)) l

  pub sum_sizes : (b : ℕ) → s * N * e + t * N * d < b → size m (value m x) * denominator m (value m y) + size m (value m y) * denominator m (value m x) < b
  sum_sizes b l =
      let u : size m (value m x) * denominator m (value m y) ≤ s * m * e = Nat.mul-le-mul (size-le m hm s d (value m x) left) (denominator-le m hm t e (value m y) right) in
      let v : size m (value m y) * denominator m (value m x) ≤ t * m * d = Nat.mul-le-mul (size-le m hm t e (value m y) right) (denominator-le m hm s d (value m x) left) in
      let w : s * m * e + t * m * d < b = subst (λ n. s * n * e + t * n * d < b) (sym is) l in
      omega arith

  pub product_sizes : (b : ℕ) → s * N * (t * N) ≤ b → size m (value m x) * size m (value m y) ≤ b
  product_sizes b l = Nat.le_trans (Nat.mul-le-mul (size-le m hm s d (value m x) left) (size-le m hm t e (value m y) right)) (subst (λ n. s * n * (t * n) ≤ b) (sym is) l)

-- the sum of k numbers over one denominator
pub IsRootSum-sum_below : (N s d k : ℕ) (f : ℕ → Number N) → 0 < d → ((i : ℕ) → i < k → IsRootSum N s d (f i)) → IsRootSum N (k * s) d (sum_below (numbers N) k f)
unfolding sum_below
IsRootSum-sum_below N s d zero f p h = IsRootSum-more N (0 * s) (omega arith) (IsRootSum-zero N d p)
IsRootSum-sum_below N s d (suc k) f p h = IsRootSum-more N (suc k * s) (omega arith) (IsRootSum-add_same N (IsRootSum-sum_below N s d k f p (λ i l. h i (omega arith))) (h k (omega arith)))
