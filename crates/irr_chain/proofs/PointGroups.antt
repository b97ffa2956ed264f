-- Tables of point groups, whose phases are all one, from what was tried.
--   order_divides_return     the order of an element divides each exponent at which it comes back
--   factors_of_one           phases that are all one are a factor system
use Rattle.std.specs.Prelude.{ℕ, zero, suc, ◌≡◌, ◌<◌, ◌≤◌, ◌+◌, ◌*◌, ◌%◌, ◌/◌, slice_index, replicate}
use Rattle.std.specs.Int.{◌∣◌}
use Rattle.std.proofs.Common.{sym, ◌∙◌, ap, ap₂, subst, refl, inl, inr, arith}
use native.Mathlib.Nat as Nat
use Rattle.std.proofs.lemmas.Bool.{cases_lt}
use Rattle.std.proofs.lemmas.List.{get_or-replicate, get_or_past, length-replicate}
use Rattle.irr_rep.specs.Table.{IsElementOrder, IsFactorSystem, exponents_along, power_of}

module _ (product : ℕ → ℕ → ℕ) (i m : ℕ) (order : IsElementOrder product i m) where
  power-more : (n : ℕ) → power_of product i (n + m) ≡ power_of product i n
  unfolding power_of
  power-more zero = ap (power_of product i) (let e : 0 + m ≡ m = omega arith in e) ∙ order.power-order
  power-more (suc n) = ap (power_of product i) (let e : suc n + m ≡ suc (n + m) = omega arith in e) ∙ ap (product i) (power-more n)

  power-times : (q r : ℕ) → power_of product i (r + q * m) ≡ power_of product i r
  power-times zero r = ap (power_of product i) (let e : r + 0 * m ≡ r = omega arith in e)
  power-times (suc q) r =
      ap (power_of product i) (let e : r + suc q * m ≡ (r + q * m) + m = omega arith in e) ∙ power-more (r + q * m) ∙ power-times q r

  pub order_divides_return : (n : ℕ) → power_of product i n ≡ 0 → m ∣ n
  order_divides_return n back = Nat.dvd_of_mod-eq-zero _ (rest (n % m) (omega (arith, order.positive)) at_rest)
    where
      at_rest : power_of product i (n % m) ≡ 0
      at_rest = sym (power-times (n / m) (n % m)) ∙ ap (power_of product i) (let p : 0 < m = order.positive in let e : n % m + n / m * m ≡ n = omega arith in e) ∙ back

      rest : (r : ℕ) → r < m → power_of product i r ≡ 0 → r ≡ 0
      rest zero l e = refl
      rest (suc r) l e = absurd (let b : m ≤ suc r = order.least (suc r) (omega arith) e in omega arith)

pub power_of-more : (product : ℕ → ℕ → ℕ) (i n : ℕ) → power_of product i (n + 1) ≡ product i (power_of product i n)
unfolding power_of
power_of-more product i n = ap (power_of product i) (let e : n + 1 ≡ suc n = omega arith in e)

pub power_of-none : (product : ℕ → ℕ → ℕ) (i : ℕ) → power_of product i 0 ≡ 0
unfolding power_of
power_of-none product i = refl

-- a list of zeros
pub zero_at : (n k : ℕ) → slice_index (replicate n 0) k ≡ 0
zero_at n k = elim (cases_lt k n) [
  | inl l ↦ get_or-replicate n k 0 0 l
  | inr l ↦ get_or_past (replicate n 0) k 0 (omega (arith, length-replicate {A = ℕ} n 0))
]

pub factors_of_one : (order h : ℕ) (product exponent : ℕ → ℕ → ℕ) → 0 < order → ((i j : ℕ) → exponent i j ≡ 0)
    → ((i : ℕ) → i < h → power_of product i order ≡ 0) → IsFactorSystem order h product exponent
unfolding exponents_along
factors_of_one order h product exponent positive none back = record {
  exponent_below = λ i j a b. subst (λ v. v < order) (sym (none i j)) positive;
  unit-exponent = λ i a. none 0 i;
  exponent-unit = λ i a. none i 0;
  exponent_assoc = λ i j k a b c. ap₂ (λ x y. (x + y) % order) (none i j ∙ sym (none j k)) (none (product i j) k ∙ sym (none i (product j k)));
  order_divides = λ i m a o. order_divides_return product i m o order (back i a);
  exponents_divided = λ i m a o. subst (λ v. m ∣ v) (sym (no_exponents i m)) (Nat.dvd-zero m);
}
  where
    no_exponents : (i n : ℕ) → exponents_along product exponent i n ≡ 0
    no_exponents i zero = refl
    no_exponents i (suc n) = ap₂ (λ x y. x + y) (no_exponents i n) (none i (power_of product i n))
