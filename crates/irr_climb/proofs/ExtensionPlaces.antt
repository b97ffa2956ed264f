-- The places of a step by their exponents.
--   at_member, at_coset, at_square       a place with the exponent 0, 1 or 2
--   coset_exponent, coset_part           the exponent and the part of g n
--   coset_product            a product of g n with a member
--   generator_exponent       the exponent of g itself
--   small_exponent           an exponent that is neither 0 nor 1 is 2
use Rattle.std.proofs.Common.{◌≡◌, sym, ◌∙◌, ap, ℕ, zero, suc, ◌<◌, ◌⊎◌, inl, inr, arith}
use Rattle.irr_algebra.specs.Ring.{Ring}
use Rattle.irr_algebra.specs.Fin.{Fin, to_nat}
use Rattle.irr_algebra.proofs.Indices.{from_nat, to_nat-from_nat, to_nat-lt}
use Rattle.irr_theory.specs.FactorSystem.{FactorSystem}
use Rattle.irr_clifford.specs.Subgroup.{Subgroup}
use Rattle.irr_clifford.specs.Cyclic.{CyclicQuotient, place_power}
use Rattle.irr_climb.proofs.ConjugateRows.{part_of_product}

module _ {R : Ring} {T : FactorSystem R} {H : Subgroup T} (Q : CyclicQuotient H) where
  -- g n
  abbrev coset : Fin H.table.places → Fin T.places
  coset n = T.product Q.generator (H.member n)

  split_at : (x : Fin T.places) (e : ℕ) → to_nat (Q.exponent x) ≡ e → T.product (place_power T Q.generator e) (H.member (Q.part x)) ≡ x
  split_at x e is = ap (λ k. T.product (place_power T Q.generator k) (H.member (Q.part x))) (sym is) ∙ Q.splits x

  pub at_member : (x : Fin T.places) → to_nat (Q.exponent x) ≡ 0 → H.member (Q.part x) ≡ x
  unfolding place_power
  at_member x e = sym (T.start-product (H.member (Q.part x))) ∙ split_at x 0 e

  pub at_coset : (x : Fin T.places) → to_nat (Q.exponent x) ≡ 1 → coset (Q.part x) ≡ x
  unfolding place_power
  at_coset x e = sym (ap (λ a. T.product a (H.member (Q.part x))) (T.product-start Q.generator)) ∙ split_at x 1 e

  pub at_square : (x : Fin T.places) → to_nat (Q.exponent x) ≡ 2 → T.product Q.generator (coset (Q.part x)) ≡ x
  unfolding place_power
  at_square x e = sym (T.product_assoc Q.generator Q.generator (H.member (Q.part x)))
      ∙ sym (ap (λ a. T.product (T.product Q.generator a) (H.member (Q.part x))) (T.product-start Q.generator)) ∙ split_at x 2 e

  module _ (small : (Q.index ≡ 2) ⊎ (Q.index ≡ 3)) where
    above : 1 < Q.index
    above = by small
      where
        by : (Q.index ≡ 2) ⊎ (Q.index ≡ 3) → 1 < Q.index
        by (inl e) = omega (arith, e)
        by (inr e) = omega (arith, e)

    one : Fin Q.index
    one = from_nat Q.index 1 above

    one-number : to_nat one ≡ 1
    unfolding one
    one-number = to_nat-from_nat Q.index 1 above

    first_coset : (n : Fin H.table.places) → T.product (place_power T Q.generator (to_nat one)) (H.member n) ≡ coset n
    unfolding place_power
    first_coset n = ap (λ k. T.product (place_power T Q.generator k) (H.member n)) one-number
        ∙ ap (λ a. T.product a (H.member n)) (T.product-start Q.generator)

    pub coset_exponent : (n : Fin H.table.places) → to_nat (Q.exponent (coset n)) ≡ 1
    coset_exponent n = ap to_nat (Q.one_exponent (Q.exponent (coset n)) one (Q.part (coset n)) n (Q.splits (coset n) ∙ sym (first_coset n)))
        ∙ one-number

    pub coset_part : (n : Fin H.table.places) → Q.part (coset n) ≡ n
    coset_part n = ap Q.part (sym (first_coset n)) ∙ part_of_product Q one n

    pub coset_product : (x : Fin T.places) → to_nat (Q.exponent x) ≡ 1 → (m : Fin H.table.places)
        → coset (Q.part (T.product x (H.member m))) ≡ T.product x (H.member m)
    coset_product x e m =
        let n = H.table.product (Q.part x) m in
        let made : T.product x (H.member m) ≡ coset n = ap (λ a. T.product a (H.member m)) (sym (at_coset x e))
        ∙ T.product_assoc Q.generator (H.member (Q.part x)) (H.member m) ∙ ap (T.product Q.generator) (sym (H.member-product (Q.part x) m)) in
        ap (λ y. coset (Q.part y)) made ∙ ap coset (coset_part n) ∙ sym made

    pub generator_exponent : to_nat (Q.exponent Q.generator) ≡ 1
    generator_exponent = ap (λ y. to_nat (Q.exponent y)) (sym (ap (T.product Q.generator) H.member-start ∙ T.product-start Q.generator))
        ∙ coset_exponent H.table.start

    pub small_exponent : (x : Fin T.places) → (to_nat (Q.exponent x) ≡ 0 → ⊥) → (to_nat (Q.exponent x) ≡ 1 → ⊥) → to_nat (Q.exponent x) ≡ 2
    small_exponent x n m = by (to_nat (Q.exponent x)) (to_nat-lt (Q.exponent x)) n m small
      where
        by : (k : ℕ) → k < Q.index → (k ≡ 0 → ⊥) → (k ≡ 1 → ⊥) → (Q.index ≡ 2) ⊎ (Q.index ≡ 3) → k ≡ 2
        by zero l n m s = absurd (n (omega arith))
        by (suc zero) l n m s = absurd (m (omega arith))
        by (suc (suc zero)) l n m s = omega arith
        by (suc (suc (suc k))) l n m (inl e) = absurd (omega (arith, l, e))
        by (suc (suc (suc k))) l n m (inr e) = absurd (omega (arith, l, e))
