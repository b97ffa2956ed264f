-- Powers of z times numbers.
--   turned_by_one, turned_zero     by z^0, and of 0
--   power_denominators, power_sizes     a power of z can be multiplied by a small number
--   small_entry            entries of small families are small
use Rattle.std.proofs.Common.{◌≡◌, sym, ◌∙◌, ap, subst, ℕ, ◌*◌, ◌^◌, ◌<◌, ◌≤◌, arith}
use Rattle.std.specs.Int.{◌∣◌}
use native.Mathlib.Nat as Nat
use Rattle.irr_algebra.proofs.Rings.{one-mul, mul-zero}
use Rattle.irr_number.specs.Number.{Number, numbers, root_power}
use Rattle.irr_number.proofs.RootPowers.{root_power-zero}
use Rattle.irr_canonical.specs.Coefficient.{denominator, size}
use Rattle.irr_canonical.specs.RootSum.{IsRootSum}
use Rattle.irr_canonical.proofs.RootSizes.{denominator_of_IsRootSum, size_of_IsRootSum}
use Rattle.irr_canonical.proofs.RootSums.{IsRootSum-root}

pub turned_by_one : (n e : ℕ) (x : Number n) → e ≡ 0 → (numbers n).mul (root_power n e) x ≡ x
turned_by_one n e x z = ap (λ k. (numbers n).mul (root_power n k) x) z ∙ ap (λ r. (numbers n).mul r x)
    (root_power-zero n) ∙ one-mul (numbers n) x

pub turned_zero : (n e : ℕ) (x : Number n) → x ≡ (numbers n).zero → (numbers n).mul (root_power n e) x ≡ x
turned_zero n e x z = ap ((numbers n).mul (root_power n e)) z ∙ mul-zero (numbers n) (root_power n e) ∙ sym z

divisor_at_most : (d n : ℕ) → 0 < n → d ∣ n → d ≤ n
divisor_at_most d n h v = Nat.le_of_dvd h v

power_denominator : (n e : ℕ) → 0 < n → denominator n (root_power n e) ≤ 1
power_denominator n e h = divisor_at_most (denominator n (root_power n e)) 1 (omega arith)
    (denominator_of_IsRootSum n h 1 1 (root_power n e) (IsRootSum-root n e))

power_size : (n e : ℕ) → 0 < n → size n (root_power n e) ≤ 1 * n
power_size n e h = size_of_IsRootSum n h 1 1 (root_power n e) (IsRootSum-root n e)

pub power_denominators : (n e : ℕ) (r x : Number n) → 0 < n → r ≡ root_power n e → denominator n x ≤ 2 ^ 60
    → denominator n r * denominator n x ≤ 2 ^ 60
power_denominators n e r x h is l =
    let a : denominator n r ≤ 1 = subst (λ y. denominator n y ≤ 1) (sym is) (power_denominator n e h) in
    let m : denominator n r * denominator n x ≤ 1 * 2 ^ 60 = Nat.mul-le-mul a l in omega (arith, m)

pub power_sizes : (n e : ℕ) (r x : Number n) → 0 < n → n ≤ 12000 → r ≡ root_power n e → size n x ≤ 2 ^ 80
    → size n r * size n x ≤ 2 ^ 100
power_sizes n e r x h small is l =
    let a : size n r ≤ 1 * n = subst (λ y. size n y ≤ 1 * n) (sym is) (power_size n e h) in
    let b : size n r ≤ 2 ^ 20 = omega (arith, a, small) in
    let m : size n r * size n x ≤ 2 ^ 20 * 2 ^ 80 = Nat.mul-le-mul b l in omega (arith, m)

pub small_denominator : (n d : ℕ) (x : Number n) → 0 < n → d ≤ 2 ^ 11 → IsRootSum n 13824 d x → denominator n x ≤ 2 ^ 60
small_denominator n d x h l s = let a : denominator n x ≤ d = divisor_at_most (denominator n x) d s.positive
    (denominator_of_IsRootSum n h 13824 d x s) in
    omega (arith, a, l)

pub small_size : (n d : ℕ) (x : Number n) → 0 < n → n ≤ 12000 → IsRootSum n 13824 d x → size n x ≤ 2 ^ 80
small_size n d x h l s = let a : size n x ≤ 13824 * n = size_of_IsRootSum n h 13824 d x s in
    omega (arith, a, l)
