-- Exponents of z of the order N, among the numbers of an order that N divides.
--   root_power-rest          an exponent may be replaced by its rest modulo N
--   unit-power               a multiple of N stands for 1
--   rest_of_product-lt       the exponent is below the order
use Rattle.std.proofs.Common.{◌≡◌, sym, ◌∙◌, ap, subst, ℕ, zero, suc, ◌<◌, ◌+◌, ◌*◌, ◌/◌, ◌%◌, arith}
use Rattle.std.specs.Int.{◌∣◌}
use Rattle.std.proofs.Math.Nat as Nat
use Rattle.irr_number.specs.Number.{numbers, root_power}
use Rattle.irr_number.proofs.Primes.{cofactor}
use Rattle.irr_number.proofs.RootPowers.{root_power_same, root_power-zero}

-- the quotient of the orders
pub order_product : (N n : ℕ) → 0 < N → N ∣ n → n ≡ N * (n / N)
order_product N n positive divides =
    let c : (c : ℕ) × (n ≡ N * c) = cofactor N n divides in
    c.1 ∙ ap (λ k. N * k) (sym (Nat.div-eq_of_eq-mul_right positive c.1))

rest_of_multiple : (e N c : ℕ) → e * c ≡ e % N * c + e / N * (N * c)
rest_of_multiple e N c =
    let split : e % N + e / N * N ≡ e = Nat.mod-add-div' e N in
    let parts : (e % N + e / N * N) * c ≡ e % N * c + e / N * N * c = Nat.add-mul (e % N) (e / N * N) c in
    ap (λ k. k * c) (sym split) ∙ parts ∙ ap (λ k. e % N * c + k) (Nat.mul_assoc (e / N) N c)

pub root_power-rest : (N n e : ℕ) → 0 < N → N ∣ n → root_power n (e % N * (n / N)) ≡ root_power n (e * (n / N))
root_power-rest N n e positive divides = root_power_same n (e % N * (n / N)) (e * (n / N))
    (sym (ap (λ k. k % n) (rest_of_multiple e N (n / N) ∙ ap (λ k. e % N * (n / N) + e / N * k) (sym (order_product N n positive divides)))
    ∙ Nat.add-mul-mod_self_right (e % N * (n / N)) (e / N) n))

-- an exponent that N divides stands for 1
pub unit-power : (N n e : ℕ) → 0 < N → N ∣ n → e % N ≡ 0 → root_power n (e * (n / N)) ≡ (numbers n).one
unit-power N n e positive divides none =
    sym (root_power-rest N n e positive divides) ∙ ap (λ k. root_power n (k * (n / N))) none ∙ ap (root_power n) (Nat.zero-mul (n / N))
    ∙ root_power-zero n

pub rest_of_product-lt : (N n e : ℕ) → 0 < N → 0 < n → N ∣ n → e % N * (n / N) < n
rest_of_product-lt N n e positive above divides =
    subst (λ k. e % N * (n / N) < k) (sym (order_product N n positive divides)) (Nat.mul-lt-mul_of_pos_right (Nat.mod-lt e positive) (quotient (n / N) (order_product N n positive divides)))
  where
    quotient : (c : ℕ) → n ≡ N * c → 0 < c
    quotient zero e = absurd (omega (arith, e, above))
    quotient (suc c) e = omega arith
