-- Equally spaced exponents.
--   spaced-lt                they are below the order
--   spaced-power             their multiples by the number of them are the same modulo the order
--   turn-power               the exponent at the first of them
use Rattle.std.proofs.Common.{◌≡◌, sym, ◌∙◌, ap, ℕ, suc, ◌<◌, ◌≤◌, ◌+◌, ◌*◌, ◌/◌, ◌%◌, arith}
use Rattle.std.proofs.Math.Nat as Nat
use Rattle.std.specs.Int.{◌∣◌}
use Rattle.irr_number.proofs.Primes.{cofactor}

pub spaced-lt : (N m q r a : ℕ) → r < q → N ≡ m * q → a < m → r + a * q < N
spaced-lt N m q r a small split l =
    let most : suc a * q ≤ m * q = Nat.mul-le-mul_right q l in
    let more : suc a * q ≡ a * q + q = Nat.suc-mul a q in
    omega (arith, most, more, small, split)

pub spaced-power : (N m q r a : ℕ) → N ≡ m * q → m * (r + a * q) % N ≡ m * r % N
spaced-power N m q r a split =
    let parts : m * (r + a * q) ≡ m * r + m * (a * q) = Nat.mul-add m r (a * q) in
    let swap : m * (a * q) ≡ a * (m * q) = sym (Nat.mul_assoc m a q) ∙ ap (λ k. k * q) (Nat.mul_comm m a) ∙ Nat.mul_assoc a m q in
    ap (λ k. k % N) (parts ∙ ap (λ k. m * r + k) (swap ∙ ap (λ k. a * k) (sym split))) ∙ Nat.add-mul-mod_self_right (m * r) a N

-- the quotient of a multiple
pub quotient-product : (m N : ℕ) → 0 < m → m ∣ N → N ≡ m * (N / m)
quotient-product m N positive divides =
    let c : (c : ℕ) × (N ≡ m * c) = cofactor m N divides in
    c.1 ∙ ap (λ k. m * k) (sym (Nat.div-eq_of_eq-mul_right positive c.1))

pub turn-power : (N m q turn : ℕ) → 0 < m → m ∣ turn → N ≡ m * q → m * (turn / m % q) % N ≡ turn % N
turn-power N m q turn positive divides split =
    let y = turn / m in
    let rest : turn / m % q + turn / m / q * q ≡ turn / m = Nat.mod-add-div' (turn / m) q in
    sym (spaced-power N m q (turn / m % q) (turn / m / q) split) ∙ ap (λ k. m * k % N) rest ∙ ap (λ k. k % N) (sym (quotient-product m turn positive divides))
