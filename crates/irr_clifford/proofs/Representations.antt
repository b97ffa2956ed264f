-- Representations from representations of places with numbers, and the conjugate family.
use Rattle.std.proofs.Common.{◌≡◌, sym, ◌∙◌, ap, ap₂, refl, ℕ, zero, suc}
use Rattle.irr_algebra.specs.Ring.{Ring}
use Rattle.irr_algebra.specs.Fin.{Fin}
use Rattle.irr_algebra.specs.Matrix.{Matrix, ◌·◌, unit, scale}
use Rattle.irr_algebra.proofs.Rings.{one-mul}
use Rattle.irr_algebra.proofs.Matrices.{scale-scale, scale-one}
use Rattle.irr_theory.specs.FactorSystem.{FactorSystem, Representation}
use Rattle.irr_theory.specs.Lifted.{Lifted, lifted, lifted_product}
use Rattle.irr_theory.proofs.Lifted.{lifted-multiplies}
use Rattle.irr_clifford.specs.Subgroup.{Subgroup, restrict}
use Rattle.irr_clifford.specs.Cyclic.{power_phase, CyclicQuotient, conjugate}
use Rattle.irr_clifford.proofs.Split.{◌⋆◌, bare, inside, inside-mul, inside-inj, inside-start, bare-start-mul, mul-bare-start, step, steps, moved, inside-step, peak, lifted_assoc, lifted_cancel, lifted_power, lifted_power-place}

module _ {R : Ring} {T : FactorSystem R} {d : ℕ} where
  pub lifted-bare : (A : Representation T d) (i : Fin T.places) → lifted A (bare T i) ≡ A.at i
  unfolding lifted
  lifted-bare A i = scale-one (A.at i)

  pub lifted-number : (A : Representation T d) (x : Lifted T) → lifted A x ≡ scale R x.number (lifted A (bare T x.place))
  unfolding lifted
  lifted-number A x = ap (scale R x.number) (sym (scale-one (A.at x.place)))

  pub product-numbers : (s : Lifted T → Matrix R d d) (i j : Fin T.places)
      → scale R (◌⋆◌ T (bare T i) (bare T j)).number (s (bare T (◌⋆◌ T (bare T i) (bare T j)).place)) ≡ scale R (T.phase i j) (s (bare T (T.product i j)))
  unfolding lifted_product
  product-numbers s i j = ap (λ c. scale R c (s (bare T (T.product i j)))) (ap (λ c. R.mul c (T.phase i j)) (R.mul-one R.one) ∙ one-mul R (T.phase i j))

  -- matrices that multiply as places with numbers do are a family
  unfoldable pub family_of_lifted : (s : Lifted T → Matrix R d d) → s (bare T T.start) ≡ unit R d → ((x y : Lifted T) → s x · s y ≡ s (◌⋆◌ T x y))
      → ((x : Lifted T) → s x ≡ scale R x.number (s (bare T x.place))) → Representation T d
  family_of_lifted s at_start at_product at_number = record {
    at = λ i. s (bare T i);
    at-start = at_start;
    at-product = λ i j. at_product (bare T i) (bare T j) ∙ at_number (◌⋆◌ T (bare T i) (bare T j)) ∙ product-numbers s i j;
  }

-- a family seen at the members is a family
unfoldable pub restrict_family : {R : Ring} {T : FactorSystem R} (H : Subgroup T) {d : ℕ} → Representation T d → Representation H.table d
restrict_family {R} {T} H A = record {
  at = restrict H A;
  at-start = ap A.at H.member-start ∙ A.at-start;
  at-product = λ i j. A.at-product (H.member i) (H.member j) ∙ ap₂ (λ (c : R.Carrier) (x : Fin T.places). scale R c (A.at x)) (sym (H.member-phase i j)) (sym (H.member-product i j));
}

module _ {R : Ring} {T : FactorSystem R} {H : Subgroup T} (Q : CyclicQuotient H) where
  pub steps-phase : (e : ℕ) → (steps Q e).number ≡ power_phase T Q.generator e
  unfolding lifted_power lifted_product power_phase
  steps-phase zero = refl
  steps-phase (suc e) = ap₂ R.mul (one-mul R (steps Q e).number ∙ steps-phase e) (ap (T.phase Q.generator) (lifted_power-place T Q.generator e))

  pub lifted-peak : {d : ℕ} (D : Representation H.table d) → lifted D (peak Q) ≡ scale R (power_phase T Q.generator Q.index) (D.at Q.top)
  unfolding lifted
  lifted-peak D = ap (λ c. scale R c (D.at Q.top)) (steps-phase Q.index)

  -- moving along the generator respects products
  pub moved-mul : (x y : Lifted H.table) → moved Q (◌⋆◌ H.table x y) ≡ ◌⋆◌ H.table (moved Q x) (moved Q y)
  moved-mul x y = inside-inj Q (moved Q (◌⋆◌ H.table x y)) (◌⋆◌ H.table (moved Q x) (moved Q y))
      (lifted_cancel T (step Q) (inside Q (moved Q (◌⋆◌ H.table x y))) (inside Q (◌⋆◌ H.table (moved Q x) (moved Q y))) (record { inverse = R.one; mul-inverse = R.mul-one R.one }) (
      sym (inside-step Q (◌⋆◌ H.table x y)) ∙ ap (λ w. ◌⋆◌ T w (step Q)) (inside-mul Q x y)
      ∙ lifted_assoc T (inside Q x) (inside Q y) (step Q) ∙ ap (◌⋆◌ T (inside Q x)) (inside-step Q y)
      ∙ sym (lifted_assoc T (inside Q x) (step Q) (inside Q (moved Q y))) ∙ ap (λ w. ◌⋆◌ T w (inside Q (moved Q y))) (inside-step Q x)
      ∙ lifted_assoc T (step Q) (inside Q (moved Q x)) (inside Q (moved Q y)) ∙ ap (◌⋆◌ T (step Q)) (sym (inside-mul Q (moved Q x) (moved Q y)))))

  pub moved-start : moved Q (bare H.table H.table.start) ≡ bare H.table H.table.start
  moved-start = inside-inj Q (moved Q (bare H.table H.table.start)) (bare H.table H.table.start)
      (lifted_cancel T (step Q) (inside Q (moved Q (bare H.table H.table.start))) (inside Q (bare H.table H.table.start)) (record { inverse = R.one; mul-inverse = R.mul-one R.one }) (
      sym (inside-step Q (bare H.table H.table.start)) ∙ ap (λ w. ◌⋆◌ T w (step Q)) (inside-start Q) ∙ bare-start-mul T (step Q) ∙ sym (mul-bare-start T (step Q)) ∙ ap (◌⋆◌ T (step Q)) (sym (inside-start Q))))

  pub lifted-moved : {d : ℕ} (D : Representation H.table d) (y : Lifted H.table) → lifted D (moved Q y) ≡ scale R y.number (conjugate Q D y.place)
  unfolding lifted conjugate
  lifted-moved D y = sym (scale-scale R y.number (R.mul (T.phase (H.member y.place) Q.generator) (T.phase-invertible Q.generator (H.member (Q.conj y.place))).inverse) (D.at (Q.conj y.place)))

  pub lifted-moved_bare : {d : ℕ} (D : Representation H.table d) (n : Fin H.table.places) → lifted D (moved Q (bare H.table n)) ≡ conjugate Q D n
  lifted-moved_bare D n = lifted-moved D (bare H.table n) ∙ scale-one (conjugate Q D n)

  pub conjugate-numbers : {d : ℕ} (D : Representation H.table d) (i j : Fin H.table.places)
      → scale R (◌⋆◌ H.table (bare H.table i) (bare H.table j)).number (conjugate Q D (◌⋆◌ H.table (bare H.table i) (bare H.table j)).place)
      ≡ scale R (H.table.phase i j) (conjugate Q D (H.table.product i j))
  unfolding lifted_product
  conjugate-numbers D i j = ap (λ c. scale R c (conjugate Q D (H.table.product i j))) (ap (λ c. R.mul c (H.table.phase i j)) (R.mul-one R.one) ∙ one-mul R (H.table.phase i j))

  -- the conjugate family is a family
  unfoldable pub conjugate_family : {d : ℕ} → Representation H.table d → Representation H.table d
  conjugate_family {d} D = record {
    at = conjugate Q D;
    at-start = sym (lifted-moved_bare D H.table.start) ∙ ap (lifted D) moved-start ∙ lifted-bare D H.table.start ∙ D.at-start;
    at-product = λ i j.
        ap₂ (λ (a b : Matrix R d d). a · b) (sym (lifted-moved_bare D i)) (sym (lifted-moved_bare D j))
        ∙ lifted-multiplies D (moved Q (bare H.table i)) (moved Q (bare H.table j))
        ∙ ap (lifted D) (sym (moved-mul (bare H.table i) (bare H.table j)))
        ∙ lifted-moved D (◌⋆◌ H.table (bare H.table i) (bare H.table j)) ∙ conjugate-numbers D i j;
  }
