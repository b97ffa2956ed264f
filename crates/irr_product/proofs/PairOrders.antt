-- The order for a pair of wave vectors.
--   pair_order-first, pair_order-second    the orders of both divide it
--   pair_order_unique                      there is one
--   pair_order-positive                    it is positive
use Rattle.std.proofs.Common.{◌≡◌, sym, ◌∙◌, ap₂, subst, subst₂, ℕ, ◌<◌, ◌*◌}
use Rattle.std.specs.Int.{◌∣◌}
use native.Mathlib.Nat as Nat
use Rattle.irr_space.specs.Operation.{Operation, WaveVector}
use Rattle.irr_space.specs.SpaceGroup.{IsExponent}
use Rattle.irr_space.specs.Reciprocal.{IsPeriod, IsOrder}
use Rattle.irr_product.specs.Products.{IsPairOrder}
use Rattle.irr_product.proofs.Periods.{exponent_unique, period_unique}

module _ (G : Operation → Type 0) where
  order_divides : (k : WaveVector) (e p c n N : ℕ) → IsExponent G e → IsPeriod G k p → p ∣ c → N ≡ e * c
      → IsOrder G k n → n ∣ N
  order_divides k e p c n N exponent period v is order = subst₂ (λ x y. x ∣ y)
      (ap₂ (λ x y. x * y) (exponent_unique G e order.exponent exponent order.is_exponent)
      (period_unique G k p order.period period order.is_period)
      ∙ sym order.is_product) (sym is) (Nat.mul-dvd-mul_left p e v)

  pub pair_order-first : (k l : WaveVector) (n m : ℕ) → IsPairOrder G k l n → IsOrder G k m → m ∣ n
  pair_order-first k l n m o order = order_divides k o.exponent o.first o.common m n o.is_exponent o.is_first o.first_divides o.is_product order

  pub pair_order-second : (k l : WaveVector) (n m : ℕ) → IsPairOrder G k l n → IsOrder G l m → m ∣ n
  pair_order-second k l n m o order = order_divides l o.exponent o.second o.common m n o.is_exponent o.is_second o.second_divides o.is_product order

  pub pair_order_unique : (k l : WaveVector) (n m : ℕ) → IsPairOrder G k l n → IsPairOrder G k l m → n ≡ m
  pair_order_unique k l n m a b = a.is_product
      ∙ ap₂ (λ x y. x * y) (exponent_unique G a.exponent b.exponent a.is_exponent b.is_exponent)
      (Nat.dvd_antisymm (below a b) (below b a)) ∙ sym b.is_product
    where
      below : {x y : ℕ} (a : IsPairOrder G k l x) (b : IsPairOrder G k l y) → a.common ∣ b.common
      below a b = a.least b.common
          (subst (λ x. x ∣ b.common) (period_unique G k b.first a.first b.is_first a.is_first) b.first_divides)
          (subst (λ x. x ∣ b.common) (period_unique G l b.second a.second b.is_second a.is_second) b.second_divides)

  pub pair_order-positive : (k l : WaveVector) (n : ℕ) → IsPairOrder G k l n → 0 < n
  pair_order-positive k l n o = subst (λ x. 0 < x) (sym o.is_product) (Nat.mul-pos o.is_exponent.positive
      (Nat.pos_of_dvd_of_pos (o.least (o.first * o.second) (Nat.dvd-mul_right o.first o.second)
      (Nat.dvd-mul_left o.second o.first))
      (Nat.mul-pos o.is_first.positive o.is_second.positive)))
