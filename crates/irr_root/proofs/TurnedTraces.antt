-- The terms of a sum over the powers of a place.
--   read_at                  a read of a list of numbers
--   turned-value             a product is such a term
--   turned-small, terms-small    the size of a term
--   own_order, small_at      a small row at the order of its first number
--   few_sums                 the size of a sum of terms
use Rattle.std.proofs.Common.{◌≡◌, sym, ◌∙◌, ap₂, subst, ℕ, ◌+◌, ◌-◌, ◌*◌, ◌/◌, ◌<◌, ◌≤◌, ◌^◌, List, length, get_or, map, slice_index, arith}
use native.Mathlib.Nat as Nat
use Rattle.std.proofs.lemmas.Grind.{get_or_default_zero}
use Rattle.irr_algebra.proofs.Indices.{from_nat, to_nat-from_nat}
use Rattle.irr_number.specs.Number.{Number, numbers, root_power}
use Rattle.irr_canonical.specs.RootSum.{IsRootSum}
use Rattle.irr_canonical.proofs.RootSums.{IsRootSum-mul, IsRootSum-root}
use Rattle.irr_char.specs.Characters.{IsSmallRow}
use Rattle.irr_char.proofs.AverageTerms.{item-order}
use Rattle.irr_root.specs.Powers.{power_trace}

pub read_at : (xs : List ℕ) (j x : ℕ) → x ≡ get_or xs j x → j < length xs → x ≡ slice_index xs j
read_at xs j x e l = e ∙ get_or_default_zero xs j x l

module _ (n N : ℕ) (f : List (Number n)) (places exponents : List ℕ) (e j : ℕ) where
  pub turned-value : (z u x : Number n) → z ≡ root_power n ((slice_index exponents j + (N - e) * j) * (n / N)) → u ≡ get_or f (slice_index places j) (numbers n).zero
      → x ≡ (numbers n).mul z u → x ≡ power_trace n N f places exponents e j
  unfolding power_trace
  turned-value z u x p q r = r ∙ ap₂ (numbers n).mul p q

  pub turned-small : IsRootSum n 48 1 (get_or f (slice_index places j) (numbers n).zero) → IsRootSum n 48 1 (power_trace n N f places exponents e j)
  unfolding power_trace
  turned-small h = IsRootSum-mul n (IsRootSum-root n ((slice_index exponents j + (N - e) * j) * (n / N))) h

-- a number of a small row
pub row-small : {S : Type 0} (order : S → ℕ) (value : (n : ℕ) → S → Number n) (n h : ℕ) (row : List S) → IsSmallRow order value n h row → (k : ℕ) → k < h
    → IsRootSum n 48 1 (get_or (map (value n) row) k (numbers n).zero)
row-small order value n h row small k l =
    subst (λ i. IsRootSum n 48 1 (get_or (map (value n) row) i (numbers n).zero)) (to_nat-from_nat h k l) (small.small (from_nat h k l))

pub few_sums : (n k m : ℕ) → n ≤ 12000 → m ≤ 12000 → k < m → k * 48 * n * 1 + 48 * n * 1 < 2 ^ 110
few_sums n k m p q l =
    let a : k * 48 * n * 1 ≤ 12000 * 48 * 12000 * 1 = Nat.mul-le-mul_right 1 (Nat.mul-le-mul (Nat.mul-le-mul_right 48 (let s : k ≤ 12000 = omega arith in s)) p) in
    omega arith

module _ {S : Type 0} (order : S → ℕ) (value : (n : ℕ) → S → Number n) (n h : ℕ) (row : List S) (small : IsSmallRow order value n h row) where
  -- the order that the first number has
  pub own_order : 0 < h → (x : S) → x ≡ get_or row 0 x → (m r : ℕ) → m ≡ r → r ≡ order x → m ≡ n
  own_order l x is m r e f = e ∙ f ∙ item-order order value n h row small 0 l x is

  pub small_at : (m : ℕ) → m ≡ n → IsSmallRow order value m h row
  small_at m e = subst (λ k. IsSmallRow order value k h row) (sym e) small

  pub terms-small : (N e m : ℕ) (places exponents : List ℕ) → ((k : ℕ) → k < m → slice_index places k < h)
      → (k : ℕ) → k < m → IsRootSum n 48 1 (power_trace n N (map (value n) row) places exponents e k)
  terms-small N e m places exponents inside k l =
      turned-small n N (map (value n) row) places exponents e k (row-small order value n h row small (slice_index places k) (inside k l))
