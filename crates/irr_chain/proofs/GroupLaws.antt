-- The laws of the group of a table's places.
--   group_laws               a ruleset that brings products and opposites to one form: simp (group_laws, T)
--   power_commutes           g g^n = g^n g
--   closed_powers            powers of its places
--   closed_from_products     a set with the unit that has its products has its opposites
use Rattle.std.specs.Prelude.{ℕ, zero, suc, ◌≡◌, ◌<◌}
use Rattle.std.proofs.Common.{sym, ◌∙◌, ap, subst, arith}
use Rattle.irr_algebra.specs.Fin.{Fin}
use Rattle.irr_space.specs.PhaseTable.{PhaseTable, place_power}
use Rattle.irr_rep.proofs.ElementOrders.{place_order}
use Rattle.irr_chain.specs.Quotient.{IsClosed, power}

module _ {h : ℕ} (T : PhaseTable h) where
  pub unit_left : (i : Fin h) → T.product T.start i ≡ i
  unit_left = T.start-product

  pub unit_right : (i : Fin h) → T.product i T.start ≡ i
  unit_right = T.product-start

  pub regroup : (i j k : Fin h) → T.product (T.product i j) k ≡ T.product i (T.product j k)
  regroup = T.product_assoc

  pub inverse_left : (i : Fin h) → T.product (T.opposite i) i ≡ T.start
  inverse_left = T.opposite-product

  pub inverse_right : (i : Fin h) → T.product i (T.opposite i) ≡ T.start
  inverse_right = T.product-opposite

  pub cancel_left : (i j : Fin h) → T.product (T.opposite i) (T.product i j) ≡ j
  cancel_left i j = sym (T.product_assoc (T.opposite i) i j) ∙ ap (λ k. T.product k j) (T.opposite-product i) ∙ T.start-product j

  pub cancel_right : (i j : Fin h) → T.product i (T.product (T.opposite i) j) ≡ j
  cancel_right i j = sym (T.product_assoc i (T.opposite i) j) ∙ ap (λ k. T.product k j) (T.product-opposite i) ∙ T.start-product j

  -- the opposite is the only place with this product
  only_opposite : (i j : Fin h) → T.product i j ≡ T.start → j ≡ T.opposite i
  only_opposite i j e = sym (cancel_left i j) ∙ ap (T.product (T.opposite i)) e ∙ T.product-start (T.opposite i)

  pub opposite_opposite : (i : Fin h) → T.opposite (T.opposite i) ≡ i
  opposite_opposite i = sym (only_opposite (T.opposite i) i (T.opposite-product i))

  pub opposite_start : T.opposite T.start ≡ T.start
  opposite_start = sym (only_opposite T.start T.start (T.start-product T.start))

  pub opposite_of_product : (i j : Fin h) → T.opposite (T.product i j) ≡ T.product (T.opposite j) (T.opposite i)
  opposite_of_product i j = sym (only_opposite (T.product i j) (T.product (T.opposite j) (T.opposite i))
      (T.product_assoc i j (T.product (T.opposite j) (T.opposite i)) ∙ ap (T.product i) (cancel_right j (T.opposite i)) ∙ T.product-opposite i))

pub ruleset group_laws = (unit_left, unit_right, inverse_left, inverse_right, cancel_left, cancel_right, opposite_opposite, opposite_start, opposite_of_product, regroup)

module _ {h : ℕ} (T : PhaseTable h) where
  pub power_commutes : (g : Fin h) (n : ℕ) → T.product g (power T g n) ≡ T.product (power T g n) g
  unfolding place_power
  power_commutes g zero = simp (group_laws, T)
  power_commutes g (suc n) = ap (T.product g) (power_commutes g n) ∙ sym (T.product_assoc g (power T g n) g)

  pub closed_powers : (P : Fin h → Type 0) → IsClosed T P → (g : Fin h) (n : ℕ) → P g → P (power T g n)
  unfolding place_power
  closed_powers P closed g zero p = closed.unit
  closed_powers P closed g (suc n) p = closed.products g (power T g n) p (closed_powers P closed g n p)

  powers_of : (P : Fin h → Type 0) → P T.start → ((i j : Fin h) → P i → P j → P (T.product i j)) → (i : Fin h) (n : ℕ) → P i → P (power T i n)
  unfolding place_power
  powers_of P start products i zero p = start
  powers_of P start products i (suc n) p = products i (power T i n) p (powers_of P start products i n p)

  opposite_from_power : (i : Fin h) (m : ℕ) → power T i (suc m) ≡ T.start → power T i m ≡ T.opposite i
  unfolding place_power
  opposite_from_power i m e = sym (cancel_left T i (power T i m)) ∙ ap (T.product (T.opposite i)) e ∙ T.product-start (T.opposite i)

  pub closed_from_products : (P : Fin h → Type 0) → P T.start → ((i j : Fin h) → P i → P j → P (T.product i j)) → IsClosed T P
  closed_from_products P start products = record {
    unit = start;
    products = products;
    opposites = λ i p. let order = place_order T i in from_power i order.0 order.1.positive order.1.power p;
  }
    where
      powers : (i : Fin h) (n : ℕ) → P i → P (power T i n)
      powers i n p = powers_of P start products i n p

      from_power : (i : Fin h) (m : ℕ) → 0 < m → power T i m ≡ T.start → P i → P (T.opposite i)
      from_power i zero positive e p = absurd (omega arith)
      from_power i (suc m) positive e p = subst P (opposite_from_power i m e) (powers i m p)
