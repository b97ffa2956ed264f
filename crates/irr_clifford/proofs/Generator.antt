-- What the matrix at the generator is, in each extension.
use Rattle.std.proofs.Common.{◌≡◌, sym, ◌∙◌, ap, ap₂, ℕ, zero, suc, ◌<◌, arith}
use Rattle.irr_algebra.specs.Ring.{Ring, IsInvertible}
use Rattle.irr_algebra.specs.Field.{Field}
use Rattle.irr_algebra.specs.Fin.{Fin}
use Rattle.irr_algebra.specs.Fin.Fin.{first}
use Rattle.irr_algebra.specs.Matrix.{Matrix, ◌·◌, unit, scale}
use Rattle.irr_algebra.specs.Action.{IsIntertwiner, Equivalent, IsSimple}
use Rattle.irr_algebra.proofs.Rings.{one-mul}
use Rattle.irr_algebra.proofs.Matrices.{mul_assoc, unit-mul, mul-unit, scale-mul, mul-scale, scale-scale, scale-one, scale-at, unit-at}
use Rattle.irr_algebra.proofs.Sums.{delta-refl}
use Rattle.irr_algebra.proofs.Rank.{square_inverse}
use Rattle.irr_algebra.proofs.Actions.{mul-intertwines}
use Rattle.irr_algebra.proofs.Irreducible.{simple-scalar}
use Rattle.irr_theory.specs.Extension.{matrix_power}
use Rattle.irr_theory.specs.FactorSystem.{FactorSystem, Representation}
use Rattle.irr_theory.specs.Lifted.{lifted}
use Rattle.irr_clifford.specs.Subgroup.{Subgroup}
use Rattle.irr_clifford.specs.Cyclic.{CyclicQuotient, conjugate, power_phase, StandsForGenerator, HasScalar, IsExtension}
use Rattle.irr_clifford.specs.Roots.{number_power}
use Rattle.irr_clifford.proofs.Split.{index-positive, peak, inside-peak}
use Rattle.irr_clifford.proofs.Representations.{restrict_family, lifted-peak}
use Rattle.irr_clifford.proofs.Pieces.{backward-intertwines}
use Rattle.irr_clifford.proofs.Translates.{member-generator}
use Rattle.irr_clifford.proofs.FromTraces.{lifted-steps}
use Rattle.irr_clifford.proofs.Roots.{top-inverse, matrix_power-scale}

right_cancel : {R : Ring} (T : FactorSystem R) (x y z : Fin T.places) → T.product y x ≡ T.product z x → y ≡ z
right_cancel T x y z e = sym (undo y) ∙ ap (λ w. T.product w (T.opposite x)) e ∙ undo z
  where
    undo : (y : Fin T.places) → T.product (T.product y x) (T.opposite x) ≡ y
    undo y = T.product_assoc y x (T.opposite x) ∙ ap (T.product y) (T.product-opposite x) ∙ T.product-start y

-- a multiple of the unit matrix that is it
pub unit-scale : (F : Field) (d : ℕ) → 0 < d → (z : F.Carrier) → scale F.ring z (unit F.ring d) ≡ unit F.ring d → z ≡ F.one
unit-scale F zero l z e = absurd (omega arith)
unit-scale F (suc d) l z e =
    sym (F.mul-one z) ∙ ap (F.mul z) (sym (delta-refl F.ring {n = suc d} first) ∙ sym (unit-at F.ring {n = suc d} first first)) ∙ sym (scale-at F.ring z (unit F.ring (suc d)) first first)
    ∙ ap (λ (m : Matrix F.ring (suc d) (suc d)). m.at first first) e ∙ unit-at F.ring {n = suc d} first first ∙ delta-refl F.ring {n = suc d} first

module _ {R : Ring} {T : FactorSystem R} {H : Subgroup T} (Q : CyclicQuotient H) {d : ℕ} (D : Representation H.table d) where
  -- the matrix of an extension at the generator stands for it
  pub extension-stands : (u : Matrix R d d) (E : Representation T d) → IsExtension Q D u E → StandsForGenerator Q D u
  unfolding conjugate restrict_family lifted
  extension-stands u E h = record {
    intertwines = record {
      intertwines = λ n.
          ap₂ (λ (a b : Matrix R d d). a · b) (sym (h.at-member n)) (sym h.at-generator) ∙ member-generator Q E n
          ∙ ap₂ (λ (a b : Matrix R d d). a · b) h.at-generator (ap (scale R _) (h.at-member (Q.conj n)));
    };
    power = sym (lifted-steps Q D u E h Q.index) ∙ ap (lifted E) (sym (inside-peak Q)) ∙ ap (scale R (peak Q).number) (h.at-member Q.top) ∙ lifted-peak Q D;
  }

  conj_back-conj : (n : Fin H.table.places) → Q.conj_back (Q.conj n) ≡ n
  conj_back-conj n = H.injective (Q.conj_back (Q.conj n)) n (right_cancel T Q.generator (H.member (Q.conj_back (Q.conj n))) (H.member n)
      (sym (Q.generator-member (Q.conj n)) ∙ sym (Q.member-generator n)))

  -- the condition with the phases on both sides
  pub intertwines_of_phases : (u : Matrix R d d)
      → ((n : Fin H.table.places) → scale R (T.phase (H.member (Q.conj_back n)) Q.generator) (u · D.at n) ≡ scale R (T.phase Q.generator (H.member n)) (D.at (Q.conj_back n) · u))
      → IsIntertwiner (conjugate Q D) D.at u
  unfolding conjugate
  intertwines_of_phases u h = record { intertwines = λ n. sym (mul-scale R _ u (D.at (Q.conj n)) ∙ moved n (T.phase-invertible Q.generator (H.member (Q.conj n)))) }
    where
      moved : (n : Fin H.table.places) (k : IsInvertible R (T.phase Q.generator (H.member (Q.conj n))))
          → scale R (R.mul (T.phase (H.member n) Q.generator) k.inverse) (u · D.at (Q.conj n)) ≡ D.at n · u
      moved n k =
          ap (λ c. scale R c (u · D.at (Q.conj n))) (R.mul_comm (T.phase (H.member n) Q.generator) k.inverse) ∙ sym (scale-scale R k.inverse (T.phase (H.member n) Q.generator) (u · D.at (Q.conj n)))
          ∙ ap (scale R k.inverse) (ap (λ i. scale R (T.phase (H.member i) Q.generator) (u · D.at (Q.conj n))) (sym (conj_back-conj n)) ∙ h (Q.conj n)
          ∙ ap (λ i. scale R (T.phase Q.generator (H.member (Q.conj n))) (D.at i · u)) (conj_back-conj n))
          ∙ scale-scale R k.inverse (T.phase Q.generator (H.member (Q.conj n))) (D.at n · u)
          ∙ ap (λ c. scale R c (D.at n · u)) (R.mul_comm k.inverse (T.phase Q.generator (H.member (Q.conj n))) ∙ k.mul-inverse) ∙ scale-one (D.at n · u)

module _ (F : Field) {T : FactorSystem F.ring} {H : Subgroup T} (Q : CyclicQuotient H) {d : ℕ} (D : Representation H.table d) (l : 0 < d) (simple : IsSimple D.at) where
  open F use {ring as R}

  -- a matrix that stands for the generator has an inverse
  stands-inverse : (u : Matrix R d d) → StandsForGenerator Q D u → (v : Matrix R d d) × (u · v ≡ unit R d) × (v · u ≡ unit R d)
  unfolding matrix_power
  stands-inverse u h = go Q.index (index-positive Q) (top-inverse Q D u h)
    where
      go : (n : ℕ) → 0 < n → (w : Matrix R d d) × (matrix_power u n · w ≡ unit R d) → (v : Matrix R d d) × (u · v ≡ unit R d) × (v · u ≡ unit R d)
      go zero p w = absurd (omega arith)
      go (suc n) p w =
          let e : u · (matrix_power u n · w.0) ≡ unit R d = sym (mul_assoc u (matrix_power u n) w.0) ∙ w.1 in
          (matrix_power u n · w.0, e, square_inverse F (matrix_power u n · w.0) u e)

  -- what stands for the generator is a multiple of each intertwiner with an inverse, by a number whose power is the inverse
  -- of the scalar
  pub multiple_of_scaled : (u w : Matrix R d d) (c : R.Carrier) → HasScalar Q D u c → (v : Matrix R d d) → u · v ≡ unit R d → v · u ≡ unit R d → StandsForGenerator Q D w
      → (z : R.Carrier) × (w ≡ scale R z u) × (R.mul (number_power R z Q.index) c ≡ R.one)
  multiple_of_scaled u w c hu v uv vu hw = (z.0, multiple, root)
    where
      e : Equivalent (conjugate Q D) D.at
      e = record { forward = u; backward = v; is_intertwiner = hu.intertwines; forward-backward = uv; backward-forward = vu }

      z : (z : R.Carrier) × (w · v ≡ scale R z (unit R d))
      z = simple-scalar F D.at simple (w · v) (mul-intertwines D.at (conjugate Q D) D.at v w (backward-intertwines (conjugate Q D) D.at e) hw.intertwines)

      multiple : w ≡ scale R z.0 u
      multiple = sym (mul-unit w) ∙ ap (λ (m : Matrix R d d). w · m) (sym vu) ∙ sym (mul_assoc w v u) ∙ ap (λ (m : Matrix R d d). m · u) z.1
          ∙ scale-mul R z.0 (unit R d) u ∙ ap (scale R z.0) (unit-mul u)

      root : R.mul (number_power R z.0 Q.index) c ≡ R.one
      root = one_of (R.mul (number_power R z.0 Q.index) c) (matrix_power w Q.index) (top-inverse Q D w hw)
          (ap (scale R (R.mul (number_power R z.0 Q.index) c)) hw.power
          ∙ scale-scale R (R.mul (number_power R z.0 Q.index) c) (power_phase T Q.generator Q.index) (D.at Q.top)
          ∙ ap (λ k. scale R k (D.at Q.top)) (R.mul_assoc (number_power R z.0 Q.index) c (power_phase T Q.generator Q.index))
          ∙ sym (scale-scale R (number_power R z.0 Q.index) (R.mul c (power_phase T Q.generator Q.index)) (D.at Q.top))
          ∙ ap (scale R (number_power R z.0 Q.index)) (sym hu.power) ∙ sym (matrix_power-scale R z.0 u Q.index) ∙ ap (λ m. matrix_power m Q.index) (sym multiple))
        where
          one_of : (z : R.Carrier) (m : Matrix R d d) → (k : Matrix R d d) × (m · k ≡ unit R d) → scale R z m ≡ m → z ≡ R.one
          one_of z m k e = unit-scale F d l z (sym (ap (scale R z) k.1) ∙ sym (scale-mul R z m k.0) ∙ ap (λ (x : Matrix R d d). x · k.0) e ∙ k.1)

  -- two that stand for the generator are multiples of one another by a root of 1
  pub multiple_of : (u w : Matrix R d d) → StandsForGenerator Q D u → StandsForGenerator Q D w → (z : R.Carrier) × (w ≡ scale R z u) × (number_power R z Q.index ≡ R.one)
  multiple_of u w hu hw =
      let v = stands-inverse u hu in
      let m = multiple_of_scaled u w R.one (record { intertwines = hu.intertwines; power = hu.power ∙ ap (λ k. scale R k (D.at Q.top)) (sym (one-mul R (power_phase T Q.generator Q.index))) }) v.0 v.1 v.2 hw in
      (m.0, m.1, sym (R.mul-one (number_power R m.0 Q.index)) ∙ m.2)
