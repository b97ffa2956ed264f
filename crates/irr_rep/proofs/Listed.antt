-- The lists of a table of phases.
--   listed-group, listed-inverses, listed-factors    they are valid
--   listed-same              two tables with the same lists are tables of the same operations
use Rattle.std.specs.Prelude.{ℕ, zero, suc, ◌≡◌, ◌<◌, ◌+◌, ◌%◌, List}
use Rattle.std.specs.Int.{◌∣◌}
use Rattle.std.proofs.Common.{sym, ◌∙◌, ap, ap₂, subst, refl}
use Rattle.irr_algebra.specs.Fin.{Fin, to_nat}
use Rattle.irr_algebra.proofs.Indices.{from_nat, to_nat-from_nat, to_nat-lt, to_nat_inj}
use Rattle.irr_space.specs.Operation.{Operation, WaveVector, ◌⊙◌, translation}
use Rattle.irr_space.specs.Reciprocal.{Sign, IsOrder, IsPhase}
use Rattle.irr_space.specs.PhaseTable.{PhaseTable, IsPlaceOrder, IsTableOf, exponents_below, place_power}
use Rattle.irr_rep.specs.Table.{IsElementOrder, IsFactorSystem, IsGroup, IsListed, HasInverses, entry, exponents_along, power_of}

module _ {h : ℕ} (T : PhaseTable h) (order : ℕ) (xs ys : List ℕ) (listed : IsListed T order xs ys) where
  -- what holds at the number of each place holds at each number below h
  everywhere : (P : ℕ → Type 0) → ((a : Fin h) → P (to_nat a)) → (i : ℕ) → i < h → P i
  everywhere P at i lt = subst P (to_nat-from_nat h i lt) (at (from_nat h i lt))

  everywhere₂ : (P : ℕ → ℕ → Type 0) → ((a b : Fin h) → P (to_nat a) (to_nat b)) → (i j : ℕ) → i < h → j < h → P i j
  everywhere₂ P at i j p q = everywhere (λ k. P k j) (λ a. everywhere (P (to_nat a)) (at a) j q) i p

  everywhere₃ : (P : ℕ → ℕ → ℕ → Type 0) → ((a b c : Fin h) → P (to_nat a) (to_nat b) (to_nat c)) → (i j k : ℕ) → i < h → j < h → k < h → P i j k
  everywhere₃ P at i j k p q r = everywhere (λ m. P m j k) (λ a. everywhere₂ (P (to_nat a)) (at a) j k q r) i p

  product-at : (a b : Fin h) → entry h xs (to_nat a) (to_nat b) ≡ to_nat (T.product a b)
  product-at a b = sym (listed.product-entry a b)

  exponent-at : (a b : Fin h) → entry h ys (to_nat a) (to_nat b) ≡ T.exponent a b
  exponent-at a b = sym (listed.exponent-entry a b)

  unit-at : (a : Fin h) → entry h xs 0 (to_nat a) ≡ to_nat a
  unit-at a = ap (λ k. entry h xs k (to_nat a)) (sym T.start_first) ∙ product-at T.start a ∙ ap to_nat (T.start-product a)

  pub listed-group : IsGroup h (entry h xs)
  listed-group = record {
    product_below = everywhere₂ (λ i j. entry h xs i j < h) (λ a b. subst (λ k. k < h) (sym (product-at a b)) (to_nat-lt (T.product a b)));
    unit-product = everywhere (λ i. entry h xs 0 i ≡ i) unit-at;
    product-unit = everywhere (λ i. entry h xs i 0 ≡ i)
        (λ a. ap (entry h xs (to_nat a)) (sym T.start_first) ∙ product-at a T.start ∙ ap to_nat (T.product-start a));
    product_assoc = everywhere₃ (λ i j k. entry h xs (entry h xs i j) k ≡ entry h xs i (entry h xs j k))
        (λ a b c. ap (λ i. entry h xs i (to_nat c)) (product-at a b) ∙ product-at (T.product a b) c ∙ ap to_nat (T.product_assoc a b c)
        ∙ sym (ap (entry h xs (to_nat a)) (product-at b c) ∙ product-at a (T.product b c)));
  }

  pub listed-inverses : HasInverses h (entry h xs)
  listed-inverses = everywhere (λ i. (j : ℕ) × (j < h) × (entry h xs i j ≡ 0))
      (λ a. (to_nat (T.opposite a), to_nat-lt (T.opposite a), product-at a (T.opposite a) ∙ ap to_nat (T.product-opposite a) ∙ T.start_first))

  power-at : (a : Fin h) (n : ℕ) → power_of (entry h xs) (to_nat a) n ≡ to_nat (place_power T.start T.product a n)
  unfolding power_of place_power
  power-at a zero = sym T.start_first
  power-at a (suc n) = ap (entry h xs (to_nat a)) (power-at a n) ∙ product-at a (place_power T.start T.product a n)

  exponents-at : (a : Fin h) (n : ℕ) → exponents_below T.start T.product T.exponent a n ≡ exponents_along (entry h xs) (entry h ys) (to_nat a) n
  unfolding exponents_along exponents_below
  exponents-at a zero = refl
  exponents-at a (suc n) = ap₂ (λ u v. u + v) (exponents-at a n)
      (sym (ap (entry h ys (to_nat a)) (power-at a n) ∙ exponent-at a (place_power T.start T.product a n)))

  order-at : (a : Fin h) (m : ℕ) → IsElementOrder (entry h xs) (to_nat a) m → IsPlaceOrder T.start T.product a m
  order-at a m o = record {
    positive = o.positive;
    power = to_nat_inj (place_power T.start T.product a m) T.start (sym (power-at a m) ∙ o.power-order ∙ sym T.start_first);
    least = λ n above e. o.least n above (power-at a n ∙ ap to_nat e ∙ T.start_first);
  }

  pub listed-factors : IsFactorSystem order h (entry h xs) (entry h ys)
  listed-factors = record {
    exponent_below = everywhere₂ (λ i j. entry h ys i j < order)
        (λ a b. subst (λ k. k < order) (sym (exponent-at a b)) (subst (λ k. T.exponent a b < k) listed.same_order (T.exponent_below a b)));
    unit-exponent = everywhere (λ i. entry h ys 0 i ≡ 0)
        (λ a. ap (λ k. entry h ys k (to_nat a)) (sym T.start_first) ∙ exponent-at T.start a ∙ T.start-exponent a);
    exponent-unit = everywhere (λ i. entry h ys i 0 ≡ 0)
        (λ a. ap (entry h ys (to_nat a)) (sym T.start_first) ∙ exponent-at a T.start ∙ T.exponent-start a);
    exponent_assoc = everywhere₃ (λ i j k. (entry h ys i j + entry h ys (entry h xs i j) k) % order ≡ (entry h ys j k + entry h ys i
        (entry h xs j k)) % order)
        (λ a b c. ap₂ (λ u v. (u + v) % order) (exponent-at a b) (ap (λ i. entry h ys i (to_nat c)) (product-at a b) ∙ exponent-at (T.product a b) c)
        ∙ subst (λ k. (T.exponent a b + T.exponent (T.product a b) c) % k ≡ (T.exponent b c + T.exponent a (T.product b c)) % k) listed.same_order
        (T.exponent_assoc a b c)
        ∙ sym (ap₂ (λ u v. (u + v) % order) (exponent-at b c) (ap (entry h ys (to_nat a)) (product-at b c) ∙ exponent-at a (T.product b c))));
    order_divides = λ i m lt. everywhere (λ k. IsElementOrder (entry h xs) k m → m ∣ order)
        (λ a o. subst (λ k. m ∣ k) listed.same_order (T.order_divides a m (order-at a m o))) i lt;
    exponents_divided = λ i m lt. everywhere (λ k. IsElementOrder (entry h xs) k m → m ∣ exponents_along (entry h xs) (entry h ys) k m)
        (λ a o. subst (λ k. m ∣ k) (exponents-at a m) (T.exponents_divided a m (order-at a m o))) i lt;
  }

  -- another table with the same lists
  pub listed-same : (U : PhaseTable h) → IsListed U order xs ys → (s : Sign) (G : Operation → Type 0) (k : WaveVector) (ops : Fin h → Operation)
      → IsTableOf s G k ops T → IsTableOf s G k ops U
  listed-same U others s G k ops table = record {
    is_order = subst (IsOrder G k) same_order table.is_order;
    quotient = table.quotient;
    is_translation = table.is_translation;
    products = λ i j. table.products i j ∙ ap (λ p. translation (table.quotient i j) ⊙ ops p) (same_product i j);
    phases = λ i j. subst (λ x. IsPhase s U.order k (table.quotient i j) x) (listed.exponent-entry i j ∙ sym (others.exponent-entry i j))
        (subst (λ N. IsPhase s N k (table.quotient i j) (T.exponent i j)) same_order (table.phases i j));
  }
    where
      same_order : T.order ≡ U.order
      same_order = listed.same_order ∙ sym others.same_order

      same_product : (i j : Fin h) → T.product i j ≡ U.product i j
      same_product i j = to_nat_inj (T.product i j) (U.product i j) (listed.product-entry i j ∙ sym (others.product-entry i j))
