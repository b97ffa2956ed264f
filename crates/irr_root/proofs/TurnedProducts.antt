-- Products of places with powers of z beside them, among the numbers of an order M.
--   product-turned           the product of two
--   opposite-turned          the inverse of a place
--   unit-turned              a place alone
--   sandwich-turned          a product x n y n^-1
use Rattle.std.proofs.Common.{◌≡◌, sym, ◌∙◌, ap, ap₂, ℕ, ◌+◌, ◌-◌, ◌*◌, ◌/◌, ◌%◌}
use native.Mathlib.Nat as Nat
use Rattle.std.specs.Int.{◌∣◌}
use Rattle.irr_algebra.specs.Fin.{Fin, to_nat}
use Rattle.irr_number.specs.Number.{numbers, root_power}
use Rattle.irr_number.proofs.Lifts.{lift-root_power}
use Rattle.irr_number.proofs.RootPowers.{root_power-mul, root_power-zero}
use Rattle.irr_theory.specs.Lifted.{Lifted, lifted_product}
use Rattle.irr_eigen.specs.Step.{at_place}
use Rattle.irr_space.specs.PhaseTable.{PhaseTable, phases_over}
use Rattle.irr_extension.specs.Product.{opposite_of, sandwich}
use Rattle.irr_root.specs.Sandwiches.{IsTurned}
use Rattle.irr_root.proofs.Phases.{root_power-rest}

module _ {h : ℕ} (T : PhaseTable h) (M : ℕ) (v : T.order ∣ M) where
  -- a power of z of the table's order
  lifted-power : (e : ℕ) → root_power M (M / T.order * e) ≡ root_power M (e * (M / T.order))
  lifted-power e = ap (root_power M) (Nat.mul_comm (M / T.order) e)

  -- p and r are the place and the exponent of a product in the program
  abbrev pub IsMade : (i e j f p r : ℕ) → Type 0
  IsMade i e j f p r = ((q s : Fin h) → to_nat q ≡ i → to_nat s ≡ j → p ≡ to_nat (T.product q s))
      × ((q s : Fin h) → to_nat q ≡ i → to_nat s ≡ j → r ≡ (e + f + T.exponent q s) % T.order)

  of_product : (i e j f p r : ℕ) (x y : Lifted (phases_over T M v)) → IsTurned T M v i e x → IsTurned T M v j f y
      → p ≡ to_nat (T.product x.place y.place) → r ≡ (e + f + T.exponent x.place y.place) % T.order → IsTurned T M v p r (lifted_product x y)
  unfolding lifted_product
  of_product i e j f p r x y a b place exponent = record {
    at_place = place;
    power =
        ap₂ (numbers M).mul (ap₂ (numbers M).mul a.power b.power ∙ root_power-mul M (e * (M / T.order)) (f * (M / T.order)))
        (lift-root_power T.order M T.order_positive v (T.exponent x.place y.place) ∙ lifted-power (T.exponent x.place y.place))
        ∙ root_power-mul M (e * (M / T.order) + f * (M / T.order)) (T.exponent x.place y.place * (M / T.order))
        ∙ ap (root_power M) (sym (Nat.add-mul (e + f) (T.exponent x.place y.place) (M / T.order)
        ∙ ap (λ k. k + T.exponent x.place y.place * (M / T.order)) (Nat.add-mul e f (M / T.order))))
        ∙ sym (root_power-rest T.order M (e + f + T.exponent x.place y.place) T.order_positive v)
        ∙ ap (λ k. root_power M (k * (M / T.order))) (sym exponent);
  }

  pub product-turned : (i e j f p r : ℕ) (x y : Lifted (phases_over T M v)) → IsTurned T M v i e x → IsTurned T M v j f y → IsMade i e j f p r
      → IsTurned T M v p r (lifted_product x y)
  product-turned i e j f p r x y a b made = of_product i e j f p r x y a b
      (made.0 x.place y.place (sym a.at_place) (sym b.at_place)) (made.1 x.place y.place (sym a.at_place) (sym b.at_place))

  pub opposite-turned : (k : Fin h) (p r : ℕ) → p ≡ to_nat (T.opposite k) → r ≡ (T.order - 1) * T.exponent k (T.opposite k) % T.order
      → IsTurned T M v p r (opposite_of (phases_over T M v) k)
  unfolding opposite_of
  opposite-turned k p r place exponent = record {
    at_place = place;
    power =
        lift-root_power T.order M T.order_positive v ((T.order - 1) * T.exponent k (T.opposite k))
        ∙ lifted-power ((T.order - 1) * T.exponent k (T.opposite k))
        ∙ sym (root_power-rest T.order M ((T.order - 1) * T.exponent k (T.opposite k)) T.order_positive v)
        ∙ ap (λ k. root_power M (k * (M / T.order))) (sym exponent);
  }

  pub unit-turned : (k : Fin h) (p : ℕ) → to_nat k ≡ p → IsTurned T M v p 0 (at_place (phases_over T M v) k)
  unit-turned k p place = record {
    at_place = sym place;
    power = sym (root_power-zero M) ∙ ap (root_power M) (sym (Nat.zero-mul (M / T.order)));
  }

  pub sandwich-turned : (p r : ℕ) (x y : Lifted (phases_over T M v)) (k : Fin h)
      → IsTurned T M v p r (lifted_product (lifted_product (lifted_product x (at_place (phases_over T M v) k)) y) (opposite_of (phases_over T M v) k))
      → IsTurned T M v p r (sandwich (phases_over T M v) x k y)
  unfolding sandwich
  sandwich-turned p r x y k is = is
