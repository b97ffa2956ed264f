-- z is a primitive root of its order among the numbers of this order.
--   power-root_power         powers of powers of z
--   primitive-root_power     no power of z below the order N is 1
--   primitive_over           where N divides M, z^(M/N) of the order M is a primitive root of the order N
use Rattle.std.specs.Prelude.{ℕ, zero, suc, ◌≡◌, ◌<◌, ◌+◌, ◌*◌, ◌/◌, ◌%◌}
use Rattle.std.specs.Int.{◌∣◌}
use Rattle.std.proofs.Common.{sym, ◌∙◌, ap, ap₂, subst, refl, zero-mul, suc-mul, arith}
use native.Mathlib.Nat as Nat
use Rattle.irr_algebra.specs.Ring.{Ring, whole}
use Rattle.irr_algebra.specs.Listed.{sum_below}
use Rattle.irr_number.specs.Number.{numbers, root_power}
use Rattle.irr_number.specs.Prime.{IsPrime}
use Rattle.irr_number.proofs.NumberField.{number_field}
use Rattle.irr_number.proofs.Primes.{strong_induction, prime_divisor, cofactor}
use Rattle.irr_number.proofs.RootPowers.{root_power-mul, root_power-zero, root_power-order, sum-root_power}
use Rattle.irr_eigen.specs.Power.{power, IsPrimitiveRoot}
use Rattle.irr_eigen.proofs.Primitive.{primitive-power}

pub power-root_power : (N j n : ℕ) → power (numbers N) (root_power N j) n ≡ root_power N (n * j)
unfolding power
power-root_power N j zero = sym (root_power-zero N) ∙ ap (root_power N) (sym (zero-mul j))
power-root_power N j (suc n) = ap ((numbers N).mul (root_power N j)) (power-root_power N j n) ∙ root_power-mul N j (n * j)
    ∙ ap (root_power N) (let e : j + n * j ≡ suc n * j = omega (arith, suc-mul n j) in e)

-- n ones, added up
sum_below-one : (R : Ring) (n : ℕ) → sum_below R n (λ a. R.one) ≡ whole R n
unfolding sum_below whole
sum_below-one R zero = refl
sum_below-one R (suc n) = R.add_comm (sum_below R n (λ a. R.one)) R.one ∙ ap (R.add R.one) (sum_below-one R n)

whole-ne-zero : (N n : ℕ) → 0 < N → 0 < n → whole (numbers N) n ≡ (numbers N).zero → ⊥
whole-ne-zero N zero positive above e = absurd (omega arith)
whole-ne-zero N (suc n) positive above e = (number_field N positive).characteristic_zero n e

module _ (N : ℕ) (positive : 0 < N) where
  -- a power of z that is 1, to a power
  multiple-one : (j n : ℕ) → root_power N j ≡ (numbers N).one → root_power N (n * j) ≡ (numbers N).one
  multiple-one j zero e = ap (root_power N) (zero-mul j) ∙ root_power-zero N
  multiple-one j (suc n) e =
      ap (root_power N) (let s : suc n * j ≡ n * j + j = suc-mul n j in s) ∙ sym (root_power-mul N (n * j) j)
      ∙ ap₂ (numbers N).mul (multiple-one j n e) e ∙ (numbers N).mul-one (numbers N).one

  -- where j divides N, some prime p divides N / j, and the p-th roots of 1 would all be 1
  divisor-not-one : (j q : ℕ) → N ≡ j * q → 1 < q → root_power N j ≡ (numbers N).one → ⊥
  divisor-not-one j q split above e =
      let prime : (p : ℕ) × IsPrime p × (p ∣ q) = prime_divisor q above in
      let rest : (c : ℕ) × (q ≡ prime.0 * c) = cofactor prime.0 q prime.2 in
      at_prime prime.0 rest.0 prime.1 rest.1
    where
      at_prime : (p c : ℕ) → IsPrime p → q ≡ p * c → ⊥
      at_prime p c is_prime e' =
          let above_one : 1 < p = is_prime.0 in
          let whole_split : N ≡ p * (c * j) = split ∙ omega (arith, ap (λ a. j * a) e') in
          let part : N / p ≡ c * j = Nat.div-eq_of_eq-mul_right (omega arith) whole_split in
          let divides : p ∣ N = subst (λ a. p ∣ a) (sym whole_split) (Nat.dvd-mul_right p (c * j)) in
          let ones : (a : ℕ) → root_power N (a * (N / p)) ≡ (numbers N).one = λ a.
          ap (λ b. root_power N (a * b)) part ∙ ap (root_power N) (sym (Nat.mul_assoc a c j)) ∙ multiple-one j (a * c) e in
          whole-ne-zero N p positive (omega arith)
          (sym (sum_below-one (numbers N) p) ∙ ap (sum_below (numbers N) p) (λ i a. sym (ones a) i) ∙ sum-root_power N p is_prime divides)

  not-one : (j : ℕ) → 0 < j → j < N → root_power N j ≡ (numbers N).one → ⊥
  not-one = strong_induction (λ j. 0 < j → j < N → root_power N j ≡ (numbers N).one → ⊥) (λ j smaller above below e.
      let split : N ≡ N / j * j + N % j = omega arith in
      let less : N % j < j = omega arith in
      step j smaller above below e (N / j) (N % j) split less)
    where
      step : (j : ℕ) → ((k : ℕ) → k < j → 0 < k → k < N → root_power N k ≡ (numbers N).one → ⊥) → 0 < j → j < N → root_power N j ≡ (numbers N).one
          → (q r : ℕ) → N ≡ q * j + r → r < j → ⊥
      step j smaller above below e q zero split less =
          divisor-not-one j q (omega arith) (large q split) e
        where
          large : (q : ℕ) → N ≡ q * j + 0 → 1 < q
          large zero s = absurd (omega (arith, zero-mul j))
          large (suc zero) s = absurd (omega arith)
          large (suc (suc q)) s = omega arith
      step j smaller above below e q (suc r) split less =
          smaller (suc r) less (omega arith) (omega arith)
          (sym (ap (λ x. (numbers N).mul x (root_power N (suc r))) (multiple-one j q e) ∙ (numbers N).mul_comm (numbers N).one (root_power N (suc r))
          ∙ (numbers N).mul-one (root_power N (suc r)))
          ∙ root_power-mul N (q * j) (suc r) ∙ ap (root_power N) (sym split) ∙ root_power-order N)

  pub primitive-root_power : IsPrimitiveRoot (numbers N) N (root_power N 1)
  primitive-root_power = record {
    power-one = power-root_power N 1 N ∙ ap (root_power N) (Nat.mul-one N) ∙ root_power-order N;
    lower = λ j above below e. not-one j above below (sym (power-root_power N 1 j ∙ ap (root_power N) (Nat.mul-one j)) ∙ e);
  }

pub primitive_over : (N M : ℕ) → 0 < N → 0 < M → N ∣ M → IsPrimitiveRoot (numbers M) N (root_power M (M / N))
primitive_over N M positive positive_over divides =
    let rest : (c : ℕ) × (M ≡ N * c) = cofactor N M divides in
    let part : M / N ≡ rest.0 = Nat.div-eq_of_eq-mul_right positive rest.1 in
    let above : 0 < rest.0 = above_zero rest.0 rest.1 in
    subst (IsPrimitiveRoot (numbers M) N) (power-root_power M 1 rest.0 ∙ ap (root_power M) (Nat.mul-one rest.0 ∙ sym part))
    (primitive-power N rest.0 (root_power M 1) above (subst (λ k. IsPrimitiveRoot (numbers M) k (root_power M 1)) rest.1
    (primitive-root_power M positive_over)))
  where
    above_zero : (c : ℕ) → M ≡ N * c → 0 < c
    above_zero zero e = absurd (omega (arith, e))
    above_zero (suc c) e = omega arith
