-- Powers of z times numbers.
--   turned_by_one          by z^0
--   power_denominators, power_sizes     a power of z can be multiplied by a small number
--   few_denominator, few_size     so can sums of few powers
use Rattle.std.proofs.Common.{◌≡◌, sym, ◌∙◌, ap, subst, ℕ, ◌*◌, ◌^◌, ◌<◌, ◌≤◌, arith}
use Rattle.std.specs.Int.{◌∣◌}
use native.Mathlib.Nat as Nat
use Rattle.irr_algebra.proofs.Rings.{one-mul}
use Rattle.irr_number.specs.Number.{Number, numbers, root_power}
use Rattle.irr_number.proofs.RootPowers.{root_power-zero}
use Rattle.irr_canonical.specs.Coefficient.{denominator, size}
use Rattle.irr_canonical.specs.RootSum.{IsRootSum}
use Rattle.irr_canonical.proofs.RootSizes.{denominator_of_IsRootSum, size_of_IsRootSum}
use Rattle.irr_canonical.proofs.RootSums.{IsRootSum-root}

pub turned_by_one : (n e : ℕ) (x : Number n) → e ≡ 0 → (numbers n).mul (root_power n e) x ≡ x
turned_by_one n e x z = ap (λ k. (numbers n).mul (root_power n k) x) z ∙ ap (λ r. (numbers n).mul r x)
    (root_power-zero n) ∙ one-mul (numbers n) x

divisor_at_most : (d n : ℕ) → 0 < n → d ∣ n → d ≤ n
divisor_at_most d n h v = Nat.le_of_dvd h v

power_denominator : (n e : ℕ) → 0 < n → denominator n (root_power n e) ≤ 1
power_denominator n e h = divisor_at_most (denominator n (root_power n e)) 1 (omega arith)
    (denominator_of_IsRootSum n h 1 1 (root_power n e) (IsRootSum-root n e))

power_size : (n e : ℕ) → 0 < n → size n (root_power n e) ≤ 1 * n
power_size n e h = size_of_IsRootSum n h 1 1 (root_power n e) (IsRootSum-root n e)

pub power_denominators : (n e : ℕ) (r x : Number n) → 0 < n → r ≡ root_power n e → denominator n x ≤ 2 ^ 60
    → denominator n r * denominator n x ≤ 2 ^ 60
power_denominators n e r x h is l =
    let a : denominator n r ≤ 1 = subst (λ y. denominator n y ≤ 1) (sym is) (power_denominator n e h) in
    let m : denominator n r * denominator n x ≤ 1 * 2 ^ 60 = Nat.mul-le-mul a l in omega (arith, m)

pub power_sizes : (n e : ℕ) (r x : Number n) → 0 < n → n ≤ 12000 → r ≡ root_power n e → size n x ≤ 2 ^ 80
    → size n r * size n x ≤ 2 ^ 100
power_sizes n e r x h small is l =
    let a : size n r ≤ 1 * n = subst (λ y. size n y ≤ 1 * n) (sym is) (power_size n e h) in
    let b : size n r ≤ 2 ^ 20 = omega (arith, a, small) in
    let m : size n r * size n x ≤ 2 ^ 20 * 2 ^ 80 = Nat.mul-le-mul b l in omega (arith, m)

-- a sum of few powers
pub few_denominator : (n s : ℕ) (x : Number n) → 0 < n → IsRootSum n s 1 x → denominator n x ≤ 2 ^ 60
few_denominator n s x h sum = let a : denominator n x ≤ 1 = divisor_at_most (denominator n x) 1 (omega arith) (denominator_of_IsRootSum n h s 1 x sum) in omega (arith, a)

pub few_size : (n : ℕ) (x : Number n) → 0 < n → n ≤ 12000 → IsRootSum n 48 1 x → size n x ≤ 2 ^ 80
few_size n x h l sum = let a : size n x ≤ 48 * n = size_of_IsRootSum n h 48 1 x sum in omega (arith, a, l)
