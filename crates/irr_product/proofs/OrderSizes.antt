-- The order for two wave vectors.
--   lcm_small       the least common multiple of a number within the limit and one of 32 bits is below 2^50
--   own_small       the factor of a number within the limit is within it
use Rattle.std.proofs.Common.{ℕ, ◌<◌, ◌≤◌, ◌*◌, ◌^◌, arith}
use native.Mathlib.Nat as Nat
use Rattle.irr_rat.specs.Lcm.{IsLcm}

pub lcm_small : (p q m : ℕ) → 0 < p → 0 < q → p ≤ 12000 → q < 2 ^ 32 → IsLcm p q m → m ≤ 2 ^ 50
lcm_small p q m hp hq small below is =
    let positive : 0 < p * q = Nat.mul-pos hp hq in
    let l : m ≤ p * q = Nat.le_of_dvd positive (is.2 (p * q) (Nat.dvd-mul_right p q) (Nat.dvd-mul_left q p)) in
    let u : p * q ≤ 12000 * q = Nat.mul-le-mul_right q small in
    omega (arith, l, u, below)

pub own_small : (e p : ℕ) → 0 < e → e * p ≤ 12000 → p ≤ 12000
own_small e p positive small =
    let l : 1 * p ≤ e * p = Nat.mul-le-mul_right p positive in
    omega (arith, l, small)

pub period_small : (p : ℕ) → p < 2 ^ 32 → p ≤ 2 ^ 50
period_small p l = omega (arith, l)
