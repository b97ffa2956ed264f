-- The order of an element outside a normal subgroup of index p is a multiple of p.
use Rattle.std.proofs.Common.{◌≡◌, sym, ◌∙◌, ap, refl, ℕ, zero, suc, ◌+◌, ◌*◌, ◌<◌, ◌/◌, ◌%◌, zero-mul as zero-mul_ℕ, arith}
use Rattle.irr_algebra.specs.Ring.{Ring}
use Rattle.irr_algebra.specs.Fin.{Fin}
use Rattle.irr_theory.specs.FactorSystem.{FactorSystem}
use Rattle.irr_theory.specs.Lifted.{Lifted, lifted_product}
use Rattle.irr_eigen.specs.Step.{at_place, lifted_power, Subtable, IsOutside}
use Rattle.irr_eigen.proofs.LiftedPowers.{lifted_power-add, lifted_power-mul, in_table, in_table-power, lifted-ext}

module _ {R : Ring} {S T : FactorSystem R} (part : Subtable S T) (g : Fin T.places) (p : ℕ) (outside : IsOutside part g p) where
  -- the place of the n-th power of g
  abbrev at : ℕ → Fin T.places
  at n = (lifted_power (at_place T g) n).place

  at-add : (m n : ℕ) → at (m + n) ≡ T.product (at m) (at n)
  unfolding lifted_product
  at-add m n = ap (λ (x : Lifted T). x.place) (lifted_power-add (at_place T g) m n)

  -- what is left of a power of g that comes back, beside the powers of the p-th, stands in S
  left_over : (n r : ℕ) (s : Fin S.places) → part.place s ≡ at n → at (n + r) ≡ T.start → part.place (S.opposite s) ≡ at r
  left_over n r s in-s back =
      sym (T.product-start (part.place (S.opposite s))) ∙ ap (T.product (part.place (S.opposite s))) (sym back ∙ at-add n r ∙ ap (λ i. T.product i (at r)) (sym in-s))
      ∙ sym (T.product_assoc (part.place (S.opposite s)) (part.place s) (at r)) ∙ ap (λ i. T.product i (at r)) (sym (part.place-product (S.opposite s) s) ∙ ap part.place (S.opposite-product s) ∙ part.place-start)
      ∙ T.start-product (at r)

  -- the powers of the p-th power
  multiple : (top : Fin S.places) → part.place top ≡ at p → (q : ℕ) → (s : Fin S.places) × (part.place s ≡ at (q * p))
  multiple top e q =
      let x : Lifted S = record { number = (lifted_power (at_place T g) p).number; place = top } in
      let same : in_table part x ≡ lifted_power (at_place T g) p = lifted-ext refl e in (
        (lifted_power x q).place,
        ap (λ (y : Lifted T). y.place)
            (in_table-power part x q ∙ ap (λ (y : Lifted T). lifted_power y q) same ∙ sym (lifted_power-mul (at_place T g) q p)),
      )

  pub order-multiple : (top : Fin S.places) → part.place top ≡ at p → 0 < p → (order : ℕ) → 0 < order → at order ≡ T.start → (m : ℕ) × (order ≡ suc m * p)
  order-multiple top e pos order order-pos back =
      let split : order ≡ order / p * p + order % p = omega arith in
      let small : order % p < p = omega arith in
      cases (order / p) (order % p) split small
    where
      cases : (q r : ℕ) → order ≡ q * p + r → r < p → (m : ℕ) × (order ≡ suc m * p)
      cases zero zero split small = absurd (let z : 0 * p ≡ 0 = zero-mul_ℕ p in omega arith)
      cases (suc m) zero split small = (m, omega arith)
      cases q (suc r) split small =
          let s : (s : Fin S.places) × (part.place s ≡ at (q * p)) = multiple top e q in
          absurd (outside.not-inside (suc r) (omega arith) small (S.opposite s.0) (left_over (q * p) (suc r) s.0 s.1 (ap at (sym split) ∙ back)))
