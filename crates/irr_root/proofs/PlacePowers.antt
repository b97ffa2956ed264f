-- Second and third powers of a place with their exponents.
--   square-place, square-exponent     x x
--   cube-place, cube-exponent         x (x x)
use Rattle.std.specs.Prelude.{ℕ, ◌≡◌, ◌+◌, ◌%◌}
use Rattle.std.proofs.Common.{sym, ◌∙◌, ap, ap₂, refl, arith}
use Rattle.std.proofs.Math.Nat as Nat
use Rattle.irr_algebra.specs.Fin.{Fin}
use Rattle.irr_space.specs.PhaseTable.{exponents_below, PhaseTable, place_power}

from_zero : (a b k : ℕ) → a ≡ 0 → b ≡ k → 0 + a + b ≡ k
from_zero a b k p q = omega (arith, p, q)

module _ {h : ℕ} (T : PhaseTable h) (q : Fin h) where
  one-place : place_power T.start T.product q 1 ≡ q
  unfolding place_power
  one-place = T.product-start q

  pub square-place : place_power T.start T.product q 2 ≡ T.product q q
  unfolding place_power
  square-place = ap (T.product q) one-place

  pub cube-place : place_power T.start T.product q 3 ≡ T.product q (T.product q q)
  unfolding place_power
  cube-place = ap (T.product q) square-place

  start-sum : T.exponent q (place_power T.start T.product q 0) ≡ 0
  unfolding place_power
  start-sum = T.exponent-start q

  square-sum : exponents_below T.start T.product T.exponent q 2 ≡ T.exponent q q
  unfolding exponents_below
  square-sum = from_zero (T.exponent q (place_power T.start T.product q 0)) (T.exponent q (place_power T.start T.product q 1))
      (T.exponent q q) start-sum
      (ap (T.exponent q) one-place)

  cube-sum : exponents_below T.start T.product T.exponent q 3 ≡ T.exponent q q + T.exponent q (T.product q q)
  unfolding exponents_below
  cube-sum = ap₂ (λ a b. a + b) square-sum (ap (T.exponent q) square-place)

  pub square-exponent : (e : ℕ) → e ≡ (0 + 0 + T.exponent q q) % T.order → e ≡ exponents_below T.start T.product T.exponent q 2 % T.order
  square-exponent e is = is ∙ ap (λ k. k % T.order) (from_zero 0 (T.exponent q q) (T.exponent q q) refl refl ∙ sym square-sum)

  pub cube-exponent : (e f : ℕ) → f ≡ (0 + 0 + T.exponent q q) % T.order → e ≡ (0 + f + T.exponent q (T.product q q)) % T.order
      → e ≡ exponents_below T.start T.product T.exponent q 3 % T.order
  cube-exponent e f square is =
      is ∙ ap (λ k. (k + T.exponent q (T.product q q)) % T.order)
      (zero_more f ∙ square ∙ ap (λ k. k % T.order) (from_zero 0 (T.exponent q q) (T.exponent q q) refl refl)
      ∙ Nat.mod-eq_of_lt (T.exponent_below q q))
      ∙ ap (λ k. k % T.order) (sym cube-sum)
    where
      zero_more : (k : ℕ) → 0 + k ≡ k
      zero_more k = omega arith
