-- The laws of a table of phases, from those of its lists: what the reading of lists as a table needs.
--   place_product            the product of two places
--   to_nat-place_power       the number of a power is the power of the number
--   element_order            the order of a place is that of its number
use Rattle.std.specs.Prelude.{ℕ, zero, suc, ◌≡◌, ◌+◌, ◌%◌}
use Rattle.std.proofs.Common.{sym, ◌∙◌, ap, ap₂}
use Rattle.irr_algebra.specs.Fin.{Fin, to_nat}
use Rattle.irr_algebra.proofs.Indices.{from_nat, to_nat-from_nat, to_nat-lt, to_nat_inj}
use Rattle.irr_space.specs.PhaseTable.{IsPlaceOrder, place_power, exponents_below}
use Rattle.irr_rep.specs.Table.{IsGroup, AreInverses, IsElementOrder, IsFactorSystem, power_of, exponents_along}

module _ (h : ℕ) (product : ℕ → ℕ → ℕ) (group : IsGroup h product) where
  unfoldable pub place_product : Fin h → Fin h → Fin h
  place_product i j = from_nat h (product (to_nat i) (to_nat j)) (group.product_below (to_nat i) (to_nat j) (to_nat-lt i) (to_nat-lt j))

  pub to_nat-place_product : (i j : Fin h) → to_nat (place_product i j) ≡ product (to_nat i) (to_nat j)
  unfolding place_product
  to_nat-place_product i j = to_nat-from_nat h (product (to_nat i) (to_nat j)) (group.product_below (to_nat i) (to_nat j) (to_nat-lt i) (to_nat-lt j))

  pub place_product_assoc : (i j k : Fin h) → place_product (place_product i j) k ≡ place_product i (place_product j k)
  place_product_assoc i j k = to_nat_inj (place_product (place_product i j) k) (place_product i (place_product j k))
      (to_nat-place_product (place_product i j) k ∙ ap (λ a. product a (to_nat k)) (to_nat-place_product i j)
      ∙ group.product_assoc (to_nat i) (to_nat j) (to_nat k) (to_nat-lt i) (to_nat-lt j) (to_nat-lt k)
      ∙ sym (to_nat-place_product i (place_product j k) ∙ ap (product (to_nat i)) (to_nat-place_product j k)))

  module _ (start : Fin h) (first : to_nat start ≡ 0) where
    pub start-place_product : (i : Fin h) → place_product start i ≡ i
    start-place_product i = to_nat_inj (place_product start i) i
        (to_nat-place_product start i ∙ ap (λ a. product a (to_nat i)) first ∙ group.unit-product (to_nat i) (to_nat-lt i))

    pub place_product-start : (i : Fin h) → place_product i start ≡ i
    place_product-start i = to_nat_inj (place_product i start) i
        (to_nat-place_product i start ∙ ap (product (to_nat i)) first ∙ group.product-unit (to_nat i) (to_nat-lt i))

    pub to_nat-place_power : (i : Fin h) (n : ℕ) → to_nat (place_power start place_product i n) ≡ power_of product (to_nat i) n
    unfolding place_power power_of
    to_nat-place_power i zero = first
    to_nat-place_power i (suc n) = to_nat-place_product i (place_power start place_product i n) ∙ ap (product (to_nat i)) (to_nat-place_power i n)

    pub exponents_below-along : (exponent : ℕ → ℕ → ℕ) (i : Fin h) (n : ℕ)
        → exponents_below start place_product (λ a b. exponent (to_nat a) (to_nat b)) i n ≡ exponents_along product exponent (to_nat i) n
    unfolding exponents_below exponents_along
    exponents_below-along exponent i zero = λ a. 0
    exponents_below-along exponent i (suc n) = ap₂ (λ a b. a + b) (exponents_below-along exponent i n) (ap (exponent (to_nat i)) (to_nat-place_power i n))

    pub element_order : (i : Fin h) (m : ℕ) → IsPlaceOrder start place_product i m → IsElementOrder product (to_nat i) m
    element_order i m order = record {
      positive = order.positive;
      power-order = sym (to_nat-place_power i m) ∙ ap to_nat order.power ∙ first;
      least = λ n positive back. order.least n positive (to_nat_inj (place_power start place_product i n) start (to_nat-place_power i n ∙ back ∙ sym first));
    }

  -- the inverse of a place
  module _ (inverse : ℕ → ℕ) (inverses : AreInverses h product inverse) where
    unfoldable pub opposite_place : Fin h → Fin h
    opposite_place i = from_nat h (inverse (to_nat i)) (inverses.inverse_below (to_nat i) (to_nat-lt i))

    pub to_nat-opposite_place : (i : Fin h) → to_nat (opposite_place i) ≡ inverse (to_nat i)
    unfolding opposite_place
    to_nat-opposite_place i = to_nat-from_nat h (inverse (to_nat i)) (inverses.inverse_below (to_nat i) (to_nat-lt i))

    module _ (start : Fin h) (first : to_nat start ≡ 0) where
      pub opposite_place-product : (i : Fin h) → place_product (opposite_place i) i ≡ start
      opposite_place-product i = to_nat_inj (place_product (opposite_place i) i) start
          (to_nat-place_product (opposite_place i) i ∙ ap (λ a. product a (to_nat i)) (to_nat-opposite_place i)
          ∙ inverses.inverse-product (to_nat i) (to_nat-lt i) ∙ sym first)

      pub product-opposite_place : (i : Fin h) → place_product i (opposite_place i) ≡ start
      product-opposite_place i = to_nat_inj (place_product i (opposite_place i)) start
          (to_nat-place_product i (opposite_place i) ∙ ap (product (to_nat i)) (to_nat-opposite_place i)
          ∙ inverses.product-inverse (to_nat i) (to_nat-lt i) ∙ sym first)

  -- the cocycle law at places
  pub place_exponent_assoc : (order : ℕ) (exponent : ℕ → ℕ → ℕ) → IsFactorSystem order h product exponent → (i j k : Fin h)
      → (exponent (to_nat i) (to_nat j) + exponent (to_nat (place_product i j)) (to_nat k)) % order
      ≡ (exponent (to_nat j) (to_nat k) + exponent (to_nat i) (to_nat (place_product j k))) % order
  place_exponent_assoc order exponent factors i j k =
      ap (λ a. (exponent (to_nat i) (to_nat j) + exponent a (to_nat k)) % order) (to_nat-place_product i j)
      ∙ factors.exponent_assoc (to_nat i) (to_nat j) (to_nat k) (to_nat-lt i) (to_nat-lt j) (to_nat-lt k)
      ∙ ap (λ a. (exponent (to_nat j) (to_nat k) + exponent (to_nat i) a) % order) (sym (to_nat-place_product j k))
