-- The order of numbers is a strict total order.
--   eq_of_coefficients     numbers with the same coefficients are one
--   before_irrefl, before_asymm
--   before_or_after        of two numbers, one stands first, or they are one
use Rattle.std.proofs.Common.{◌≡◌, sym, ◌∙◌, subst, ℕ, zero, suc, pos, ◌<◌, ◌≤◌, ◌⊎◌, inl, inr, arith}
use Rattle.std.proofs.lemmas.Bool.{cases_lt}
use lib.IntN.{*ℤ_comm}
use Rattle.irr_number.specs.Number.{Number}
use Rattle.irr_rational.specs.Rational.{Rational}
use Rattle.irr_rational.specs.Order.{◌<ℚ◌}
use Rattle.irr_rational.proofs.Ratios.{cross_of_ratio}
use Rattle.irr_rational.proofs.Orders.{le_or_lt, le_antisymm, lt_irrefl, lt_trans}
use Rattle.irr_canonical.specs.Coefficient.{canonical, coefficient, denominator}
use Rattle.irr_canonical.proofs.Forms.{number-canonical}
use Rattle.irr_canonical.proofs.Operations.{over-same, number-over}
use Rattle.irr_space.specs.CompleteList.{IsNumberBefore}

-- of two natural numbers one is less, or they are one
pub three_ways : (a b : ℕ) → (a < b) ⊎ ((a ≡ b) ⊎ (b < a))
three_ways a b = elim (cases_lt a b) [ inl l ↦ inl l | inr g ↦ (elim (cases_lt b a) [ inl m ↦ inr (inr m) | inr k ↦ (let e : a ≡ b = omega arith in inr (inl e)) ]) ]

below_or_last : (j k : ℕ) → j < suc k → (j < k) ⊎ (j ≡ k)
below_or_last j k l = elim (cases_lt j k) [ inl m ↦ inl m | inr g ↦ (let e : j ≡ k = omega arith in inr e) ]

-- of two rationals one is less, or they are one
pub less_or_same : (x y : Rational) → (x ≡ y) ⊎ ((x <ℚ y) ⊎ (y <ℚ x))
less_or_same x y = elim (le_or_lt x y) [ inr h ↦ inr (inr h) | inl h ↦ (elim (le_or_lt y x) [ inr k ↦ inr (inl k) | inl k ↦ inl (le_antisymm x y h k) ]) ]

module _ (n : ℕ) (positive : 0 < n) where
  pub eq_of_coefficients : (x y : Number n) → ((j : ℕ) → j < n → coefficient n x j ≡ coefficient n y j) → x ≡ y
  unfolding coefficient denominator
  eq_of_coefficients x y h = sym (number-canonical n positive x) ∙ number-over n (canonical n x)
      ∙ over-same n (canonical n x).num.at (canonical n y).num.at (canonical n x).den (canonical n y).den (canonical n x).den_pos (canonical n y).den_pos (λ j l.
      *ℤ_comm (pos (canonical n y).den) ((canonical n x).num.at j)
      ∙ cross_of_ratio ((canonical n x).num.at j) ((canonical n y).num.at j) (canonical n x).den (canonical n y).den (canonical n x).den_pos (canonical n y).den_pos (h j l)
      ∙ *ℤ_comm ((canonical n y).num.at j) (pos (canonical n x).den))
      ∙ sym (number-over n (canonical n y)) ∙ number-canonical n positive y

  pub before_irrefl : (x : Number n) → IsNumberBefore n x x → ⊥
  before_irrefl x h = lt_irrefl (coefficient n x h.exponent) h.greater

  pub before_asymm : (x y : Number n) → IsNumberBefore n x y → IsNumberBefore n y x → ⊥
  before_asymm x y h k = from_places (three_ways h.exponent k.exponent)
    where
      from_places : (h.exponent < k.exponent) ⊎ ((h.exponent ≡ k.exponent) ⊎ (k.exponent < h.exponent)) → ⊥
      from_places (inl l) = lt_irrefl (coefficient n x h.exponent) (subst (λ c. c <ℚ coefficient n x h.exponent) (k.before h.exponent l) h.greater)
      from_places (inr (inl e)) = lt_irrefl (coefficient n y h.exponent) (lt_trans (coefficient n y h.exponent) (coefficient n x h.exponent) (coefficient n y h.exponent) h.greater
          (subst (λ j. coefficient n x j <ℚ coefficient n y j) (sym e) k.greater))
      from_places (inr (inr l)) = lt_irrefl (coefficient n y k.exponent) (subst (λ c. c <ℚ coefficient n y k.exponent) (h.before k.exponent l) k.greater)

  -- the first exponent below k at which the coefficients differ, where there is one
  first_difference : (x y : Number n) (k : ℕ) → k ≤ n → ((j : ℕ) → j < k → coefficient n x j ≡ coefficient n y j) ⊎ (IsNumberBefore n x y ⊎ IsNumberBefore n y x)
  first_difference x y zero l = inl (λ j h. absurd (omega arith))
  first_difference x y (suc k) l = from_rest (first_difference x y k (omega arith))
    where
      from_rest : ((j : ℕ) → j < k → coefficient n x j ≡ coefficient n y j) ⊎ (IsNumberBefore n x y ⊎ IsNumberBefore n y x)
          → ((j : ℕ) → j < suc k → coefficient n x j ≡ coefficient n y j) ⊎ (IsNumberBefore n x y ⊎ IsNumberBefore n y x)
      from_rest (inr d) = inr d
      from_rest (inl same) = from_last (less_or_same (coefficient n x k) (coefficient n y k))
        where
          from_last : (coefficient n x k ≡ coefficient n y k) ⊎ ((coefficient n x k <ℚ coefficient n y k) ⊎ (coefficient n y k <ℚ coefficient n x k))
              → ((j : ℕ) → j < suc k → coefficient n x j ≡ coefficient n y j) ⊎ (IsNumberBefore n x y ⊎ IsNumberBefore n y x)
          from_last (inl e) = inl (λ j h. elim (below_or_last j k h) [ inl m ↦ same j m | inr m ↦ subst (λ i. coefficient n x i ≡ coefficient n y i) (sym m) e ])
          from_last (inr (inl h)) = inr (inr (record { exponent = k; below = omega arith; before = λ j m. sym (same j m); greater = h }))
          from_last (inr (inr h)) = inr (inl (record { exponent = k; below = omega arith; before = same; greater = h }))

  pub before_or_after : (x y : Number n) → (x ≡ y) ⊎ (IsNumberBefore n x y ⊎ IsNumberBefore n y x)
  before_or_after x y = elim (first_difference x y n (omega arith)) [ inl same ↦ inl (eq_of_coefficients x y same) | inr d ↦ inr d ]
