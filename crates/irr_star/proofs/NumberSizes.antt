-- Sizes of numbers that are sums of few powers of z, for the calls on them.
--   is-true                        a test that is true
--   turn_denominators, turn_sizes  of a power of z and a number
--   few_denominator, few_size      of a number that is a sum of few powers
--   part_denominators, part_sizes  of a sum of parts and one part more
use Rattle.std.proofs.Common.{rules, ◌≡◌, sym, subst, ℕ, ◌*◌, ◌<◌, ◌≤◌, ◌^◌, arith}
use Rattle.std.specs.Prelude.{Bool, true, IsTrue}
use native.Mathlib.Nat as Nat
use Rattle.irr_number.specs.Number.{Number}
use Rattle.irr_canonical.specs.RootSum.{IsRootSum}
use Rattle.irr_canonical.specs.Coefficient.{denominator, size}
use Rattle.irr_canonical.proofs.RootSizes.{denominator_of_IsRootSum, size_of_IsRootSum}

pub is-true : (b : Bool) → b ≡ true → IsTrue b
is-true b e = search rules

pub few_denominator : (N s d : ℕ) (x : Number N) → 0 < N → IsRootSum N s d x → d ≤ 2 ^ 11 → denominator N x ≤ 2 ^ 60
few_denominator N s d x positive h small =
    let l = Nat.le_of_dvd h.positive (denominator_of_IsRootSum N positive s d x h) in
    let a : d ≤ 2 ^ 60 = omega (arith, small) in
    Nat.le_trans l a

pub few_size : (N s d : ℕ) (x : Number N) → 0 < N → N ≤ 12000 → IsRootSum N s d x → s ≤ 2 ^ 30 → size N x ≤ 2 ^ 80
few_size N s d x positive limited h few =
    let l = size_of_IsRootSum N positive s d x h in
    let a : s * N ≤ 2 ^ 30 * 12000 = Nat.mul-le-mul few limited in
    let b : 2 ^ 30 * 12000 ≤ 2 ^ 80 = omega arith in
    Nat.le_trans l (Nat.le_trans a b)

module _ {S : Type 0} (value : (n : ℕ) → S → Number n) where
  pub turn_denominators : (m N : ℕ) → 0 < m → m ≡ N → (x y : S) → IsRootSum N 1 1 (value N x) → denominator N
      (value N y) ≤ 2 ^ 60
      → denominator m (value m x) * denominator m (value m y) ≤ 2 ^ 60
  turn_denominators m N positive same x y h l =
      let k = subst (λ n. IsRootSum n 1 1 (value n x)) (sym same) h in
      let one : denominator m (value m x) ≤ 1 = Nat.le_of_dvd k.positive
      (denominator_of_IsRootSum m positive 1 1 (value m x) k) in
      let other = subst (λ n. denominator n (value n y) ≤ 2 ^ 60) (sym same) l in
      subst (λ n. denominator m (value m x) * denominator m (value m y) ≤ n) (Nat.one-mul (2 ^ 60))
      (Nat.mul-le-mul one other)

  pub turn_sizes : (m N : ℕ) → 0 < m → m ≡ N → m ≤ 12000 → (x y : S) → IsRootSum N 1 1 (value N x) → size N
      (value N y) ≤ 2 ^ 80
      → size m (value m x) * size m (value m y) ≤ 2 ^ 100
  turn_sizes m N positive same limited x y h l =
      let k = subst (λ n. IsRootSum n 1 1 (value n x)) (sym same) h in
      let one : size m (value m x) ≤ 1 * m = size_of_IsRootSum m positive 1 1 (value m x) k in
      let other = subst (λ n. size n (value n y) ≤ 2 ^ 80) (sym same) l in
      let few : size m (value m x) ≤ 12000 = omega (arith, one, limited) in
      let a : size m (value m x) * size m (value m y) ≤ 12000 * 2 ^ 80 = Nat.mul-le-mul few other in
      let b : 12000 * 2 ^ 80 ≤ 2 ^ 100 = omega arith in
      Nat.le_trans a b
