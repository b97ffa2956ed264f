-- Cosets of a subgroup with a cyclic quotient: the powers of the generator times the members.
--   coset-product: the exponents of two cosets add up in a product
--   coset-sandwich: those of x and y in x n y n^-1
--   coset-whole: the coset of the index is the subgroup
--   coset-outside: no power of a place in the coset of the generator below the index is a member
use Rattle.std.proofs.Common.{◌≡◌, sym, ◌∙◌, ap, ap₂, subst, ℕ, zero, suc, ◌<◌, ◌+◌, arith}
use Rattle.irr_algebra.specs.Ring.{Ring}
use Rattle.irr_algebra.specs.Fin.{Fin, to_nat}
use Rattle.irr_algebra.proofs.Indices.{from_nat, to_nat-from_nat}
use Rattle.irr_theory.specs.Extension.{iterate}
use Rattle.irr_theory.specs.FactorSystem.{FactorSystem}
use Rattle.irr_theory.specs.Lifted.{Lifted, lifted_product}
use Rattle.irr_eigen.specs.Step as Step
use Rattle.irr_eigen.specs.Step.{IsOutside, at_place}
use Rattle.irr_clifford.specs.Subgroup.{Subgroup}
use Rattle.irr_clifford.specs.Cyclic.{CyclicQuotient, place_power}
use Rattle.irr_clifford.proofs.Split.{
  ◌⋆◌,
  bare,
  inside,
  inside-mul,
  inside-steps,
  lifted_assoc,
  lifted_power,
  lifted_power-add,
  lifted_power-place,
  moved,
  no_steps,
  place_cancel,
  step,
  steps,
  to_nat-no_steps,
}
use Rattle.irr_extension.specs.Coset.{subtable_of}
use Rattle.irr_extension.specs.Product.{opposite_of, sandwich}

module _ {R : Ring} {T : FactorSystem R} {H : Subgroup T} (Q : CyclicQuotient H) where
  -- a product of powers of the generator with members
  steps-product : (e f : ℕ) (w v : Lifted H.table) → ◌⋆◌ T (◌⋆◌ T (steps Q e) (inside Q w)) (◌⋆◌ T (steps Q f) (inside Q v))
      ≡ ◌⋆◌ T (steps Q (e + f)) (inside Q (◌⋆◌ H.table (iterate (moved Q) f w) v))
  steps-product e f w v =
      lifted_assoc T (steps Q e) (inside Q w) (◌⋆◌ T (steps Q f) (inside Q v))
      ∙ ap (◌⋆◌ T (steps Q e)) (sym (lifted_assoc T (inside Q w) (steps Q f) (inside Q v)) ∙ ap (λ k. ◌⋆◌ T k (inside Q v)) (inside-steps Q f w)
      ∙ lifted_assoc T (steps Q f) (inside Q (iterate (moved Q) f w)) (inside Q v) ∙ ap (◌⋆◌ T (steps Q f)) (sym (inside-mul Q (iterate (moved Q) f w) v)))
      ∙ sym (lifted_assoc T (steps Q e) (steps Q f) (inside Q (◌⋆◌ H.table (iterate (moved Q) f w) v)))
      ∙ ap (λ k. ◌⋆◌ T k (inside Q (◌⋆◌ H.table (iterate (moved Q) f w) v))) (sym (lifted_power-add T (step Q) e f))

  -- the place is the power e of the generator times a member
  abbrev pub IsInCoset : ℕ → Fin T.places → Type 0
  IsInCoset e z = (w : Fin H.table.places) × (z ≡ T.product (steps Q e).place (H.member w))

  pub coset-product : (e f : ℕ) (a b : Fin T.places) → IsInCoset e a → IsInCoset f b → IsInCoset (e + f) (T.product a b)
  unfolding lifted_product
  coset-product e f a b (w, p) (v, q) = (
    (◌⋆◌ H.table (iterate (moved Q) f (bare H.table w)) (bare H.table v)).place,
    ap₂ T.product p q ∙ ap (λ (z : Lifted T). z.place) (steps-product e f (bare H.table w) (bare H.table v)),
  )

  pub coset-member : (n : Fin H.table.places) → IsInCoset 0 (H.member n)
  unfolding lifted_power
  coset-member n = (n, sym (T.start-product (H.member n)))

  pub coset-generator : (n : Fin H.table.places) → IsInCoset 1 (T.product Q.generator (H.member n))
  unfolding lifted_power lifted_product
  coset-generator n = (n, ap (λ g. T.product g (H.member n)) (sym (T.product-start Q.generator)))

  member-opposite : (n : Fin H.table.places) → T.opposite (H.member n) ≡ H.member (H.table.opposite n)
  member-opposite n = place_cancel T (H.member n) (T.opposite (H.member n)) (H.member (H.table.opposite n))
      (T.product-opposite (H.member n) ∙ sym (sym (H.member-product n (H.table.opposite n)) ∙ ap H.member (H.table.product-opposite n) ∙ H.member-start))

  pub coset-sandwich : (e f : ℕ) (x y : Lifted T) (n : Fin H.table.places) → IsInCoset e x.place → IsInCoset f y.place
      → IsInCoset (e + f) (sandwich T x (H.member n) y).place
  unfolding sandwich lifted_product opposite_of
  coset-sandwich e f x y n p q =
      subst (λ k. IsInCoset k (T.product (T.product (T.product x.place (H.member n)) y.place) (T.opposite (H.member n)))) sizes
      (subst (λ z. IsInCoset (e + 0 + f + 0) (T.product (T.product (T.product x.place (H.member n)) y.place) z)) (sym (member-opposite n))
      (coset-product (e + 0 + f) 0 (T.product (T.product x.place (H.member n)) y.place) (H.member (H.table.opposite n))
      (coset-product (e + 0) f (T.product x.place (H.member n)) y.place (coset-product e 0 x.place (H.member n) p (coset-member n)) q)
      (coset-member (H.table.opposite n))))
    where
      sizes : e + 0 + f + 0 ≡ e + f
      sizes = omega arith

  -- the index-th power is a member
  pub coset-whole : (z : Fin T.places) → IsInCoset Q.index z → (v : Fin H.table.places) × (z ≡ H.member v)
  coset-whole z (w, p) = (
    H.table.product Q.top w,
    p ∙ ap (λ g. T.product g (H.member w)) (lifted_power-place T Q.generator Q.index ∙ Q.power-index) ∙ sym (H.member-product Q.top w),
  )

  -- the powers of a place
  pub coset-power : (x : Fin T.places) → IsInCoset 1 x → (k : ℕ) → IsInCoset k (Step.lifted_power (at_place T x) k).place
  unfolding Step.lifted_power lifted_product
  coset-power x p zero = subst (IsInCoset 0) H.member-start (coset-member H.table.start)
  coset-power x p (suc k) =
      let next : 1 + k ≡ suc k = omega arith in
      subst (λ e. IsInCoset e (T.product x (Step.lifted_power (at_place T x) k).place)) next
      (coset-product 1 k x (Step.lifted_power (at_place T x) k).place p (coset-power x p k))

  -- a member is in no coset of another exponent
  coset-apart : (k : ℕ) → 0 < k → k < Q.index → (i : Fin H.table.places) → IsInCoset k (H.member i) → ⊥
  unfolding place_power
  coset-apart k positive small i (w, e) =
      let same = Q.one_exponent (no_steps Q) (from_nat Q.index k small) i w
      (ap (λ j. T.product (place_power T Q.generator j) (H.member i)) (to_nat-no_steps Q) ∙ T.start-product (H.member i) ∙ e
      ∙ ap (λ g. T.product g (H.member w)) (lifted_power-place T Q.generator k ∙ ap (place_power T Q.generator) (sym (to_nat-from_nat Q.index k small)))) in
      let zero_steps : 0 ≡ k = sym (to_nat-no_steps Q) ∙ ap to_nat same ∙ to_nat-from_nat Q.index k small in
      absurd (omega (arith, positive, zero_steps))

  pub coset-outside : (x : Fin T.places) → IsInCoset 1 x → IsOutside (subtable_of H) x Q.index
  coset-outside x p = record {
    not-inside = λ k positive small i e. coset-apart k positive small i (subst (IsInCoset k) (sym e) (coset-power x p k));
  }
