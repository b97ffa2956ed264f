-- Conjugates: they respect equivalence, they are simple with the family, and after `index` of them the family comes back.
use Rattle.std.proofs.Common.{◌≡◌, sym, ◌∙◌, ap, refl, subst, ℕ, zero, suc, ◌<◌}
use Rattle.irr_algebra.specs.Ring.{Ring, IsInvertible}
use Rattle.irr_algebra.specs.Field.{Field}
use Rattle.irr_algebra.specs.Fin.{Fin}
use Rattle.irr_algebra.specs.Matrix.{Matrix, ◌·◌, unit, scale}
use Rattle.irr_algebra.specs.Action.{IsIntertwiner, Equivalent, IsSimple}
use Rattle.irr_algebra.proofs.Matrices.{scale-mul, mul-scale, scale-scale, scale-one}
use Rattle.irr_algebra.proofs.Irreducible.{simple-scalar}
use Rattle.irr_theory.specs.Extension.{iterate}
use Rattle.irr_theory.specs.Traces.{back}
use Rattle.irr_theory.specs.FactorSystem.{FactorSystem, Representation}
use Rattle.irr_theory.specs.Representations.{Representations, IsFull}
use Rattle.irr_theory.specs.Lifted.{Lifted, lifted}
use Rattle.irr_theory.proofs.Inverses.{mul-back, back-mul}
use Rattle.irr_theory.proofs.Lifted.{lifted-multiplies}
use Rattle.irr_theory.proofs.Schur.{simple-irreducible}
use Rattle.irr_theory.proofs.Completeness.{full-member}
use Rattle.irr_clifford.specs.Subgroup.{Subgroup}
use Rattle.irr_clifford.specs.Cyclic.{CyclicQuotient, conjugate}
use Rattle.irr_clifford.proofs.Split.{◌⋆◌, bare, inside, inside-mul, inside-inj, moved, inside-steps, iterate-inner, peak, inside-peak, invertible-mul, lifted_power-invertible, place_cancel}
use Rattle.irr_clifford.proofs.Representations.{lifted-bare, conjugate_family, lifted-moved}
use Rattle.irr_clifford.proofs.Pieces.{simple_of_scalar}

module _ {R : Ring} {T : FactorSystem R} {H : Subgroup T} (Q : CyclicQuotient H) where
  pub conjugate_equivalent : {a b : ℕ} (A : Representation H.table a) (B : Representation H.table b) → Equivalent A.at B.at → Equivalent (conjugate Q A) (conjugate Q B)
  unfolding conjugate
  conjugate_equivalent A B e = record {
    forward = e.forward;
    backward = e.backward;
    is_intertwiner = record { intertwines = λ n. scale-mul R _ (B.at (Q.conj n)) e.forward ∙ ap (scale R _) (e.is_intertwiner.intertwines (Q.conj n)) ∙ sym (mul-scale R _ e.forward (A.at (Q.conj n))) };
    forward-backward = e.forward-backward;
    backward-forward = e.backward-forward;
  }

  -- every member is a conjugate
  conj-conj_back : (n : Fin H.table.places) → Q.conj (Q.conj_back n) ≡ n
  conj-conj_back n = H.injective (Q.conj (Q.conj_back n)) n (place_cancel T Q.generator (H.member (Q.conj (Q.conj_back n))) (H.member n)
      (sym (Q.member-generator (Q.conj_back n)) ∙ sym (Q.generator-member n)))

  -- the conjugates of D, one after the other
  unfoldable pub conjugates : {d : ℕ} → Representation H.table d → ℕ → Representation H.table d
  conjugates D a = iterate (conjugate_family Q) a D

  lifted-conjugate_family : {d : ℕ} (D : Representation H.table d) (y : Lifted H.table) → lifted (conjugate_family Q D) y ≡ lifted D (moved Q y)
  unfolding lifted conjugate_family
  lifted-conjugate_family D y = sym (lifted-moved Q D y)

  pub lifted-conjugates : {d : ℕ} (D : Representation H.table d) (a : ℕ) (y : Lifted H.table) → lifted (conjugates D a) y ≡ lifted D (iterate (moved Q) a y)
  unfolding conjugates iterate
  lifted-conjugates D zero y = refl
  lifted-conjugates D (suc a) y = lifted-conjugate_family (conjugates D a) y ∙ lifted-conjugates D a (moved Q y) ∙ ap (lifted D) (iterate-inner (moved Q) a y)

  pub peak-moved : (y : Lifted H.table) → ◌⋆◌ H.table y (peak Q) ≡ ◌⋆◌ H.table (peak Q) (iterate (moved Q) Q.index y)
  peak-moved y = inside-inj Q (◌⋆◌ H.table y (peak Q)) (◌⋆◌ H.table (peak Q) (iterate (moved Q) Q.index y))
      (inside-mul Q y (peak Q) ∙ ap (◌⋆◌ T (inside Q y)) (inside-peak Q) ∙ inside-steps Q Q.index y
      ∙ sym (inside-mul Q (peak Q) (iterate (moved Q) Q.index y) ∙ ap (λ w. ◌⋆◌ T w (inside Q (iterate (moved Q) Q.index y))) (inside-peak Q)))

  -- the power of the generator takes the last conjugate to the family
  unfoldable pub conjugates_period : {d : ℕ} (D : Representation H.table d) → Equivalent (conjugates D Q.index).at D.at
  unfolding lifted
  conjugates_period {d} D = record {
    forward = lifted D (peak Q);
    backward = scale R h.inverse (back D Q.top);
    is_intertwiner = record {
      intertwines = λ n.
          ap (λ (m : Matrix R d d). m · lifted D (peak Q)) (sym (lifted-bare D n)) ∙ lifted-multiplies D (bare H.table n) (peak Q)
          ∙ ap (lifted D) (peak-moved (bare H.table n)) ∙ sym (lifted-multiplies D (peak Q) (iterate (moved Q) Q.index (bare H.table n)))
          ∙ ap (λ (m : Matrix R d d). lifted D (peak Q) · m) (sym (lifted-conjugates D Q.index (bare H.table n)) ∙ lifted-bare (conjugates D Q.index) n);
    };
    forward-backward = both (peak Q).number h.inverse (D.at Q.top) (back D Q.top) h.mul-inverse (mul-back D Q.top);
    backward-forward = both h.inverse (peak Q).number (back D Q.top) (D.at Q.top) (R.mul_comm h.inverse (peak Q).number ∙ h.mul-inverse) (back-mul D Q.top);
  }
    where
      h : IsInvertible R (peak Q).number
      h = lifted_power-invertible T Q.generator Q.index

      both : (c k : R.Carrier) (x y : Matrix R d d) → R.mul c k ≡ R.one → x · y ≡ unit R d → scale R c x · scale R k y ≡ unit R d
      both c k x y e f = scale-mul R c x (scale R k y) ∙ ap (scale R c) (mul-scale R k x y ∙ ap (scale R k) f) ∙ scale-scale R c k (unit R d) ∙ ap (λ z. scale R z (unit R d)) e ∙ scale-one (unit R d)

  -- what intertwines the conjugate intertwines the family
  conjugate-intertwiner : {a b : ℕ} (A : Representation H.table a) (B : Representation H.table b) (x : Matrix R b a) → IsIntertwiner (conjugate Q A) (conjugate Q B) x → IsIntertwiner A.at B.at x
  unfolding conjugate
  conjugate-intertwiner {a} {b} A B x i = record {
    intertwines = λ n. subst (λ k. B.at k · x ≡ x · A.at k) (conj-conj_back n) (bare_of (Q.conj_back n));
  }
    where
      phases : (n : Fin H.table.places) → IsInvertible R (R.mul (T.phase (H.member n) Q.generator) (T.phase-invertible Q.generator (H.member (Q.conj n))).inverse)
      phases n = invertible-mul (T.phase-invertible (H.member n) Q.generator) (inverse_of (T.phase-invertible Q.generator (H.member (Q.conj n))))
        where
          inverse_of : {c : R.Carrier} (h : IsInvertible R c) → IsInvertible R h.inverse
          inverse_of {c} h = record { inverse = c; mul-inverse = R.mul_comm h.inverse c ∙ h.mul-inverse }

      scale_cancel : (c : R.Carrier) (h : IsInvertible R c) (y z : Matrix R b a) → scale R c y ≡ scale R c z → y ≡ z
      scale_cancel c h y z e = sym (undo y) ∙ ap (scale R h.inverse) e ∙ undo z
        where
          undo : (y : Matrix R b a) → scale R h.inverse (scale R c y) ≡ y
          undo y = scale-scale R h.inverse c y ∙ ap (λ k. scale R k y) (R.mul_comm h.inverse c ∙ h.mul-inverse) ∙ scale-one y

      bare_of : (n : Fin H.table.places) → B.at (Q.conj n) · x ≡ x · A.at (Q.conj n)
      bare_of n = scale_cancel _ (phases n) (B.at (Q.conj n) · x) (x · A.at (Q.conj n))
          (sym (scale-mul R _ (B.at (Q.conj n)) x) ∙ i.intertwines n ∙ mul-scale R _ x (A.at (Q.conj n)))

module _ (F : Field) {T : FactorSystem F.ring} {H : Subgroup T} (Q : CyclicQuotient H) where
  -- the conjugate of a simple family is simple
  pub conjugate_simple : {d : ℕ} (D : Representation H.table d) → 0 < d → IsSimple D.at → IsSimple (conjugate Q D)
  conjugate_simple D l s = simple_of_scalar F (conjugate Q D) l (λ x i. simple-scalar F D.at s x (conjugate-intertwiner Q D D x i))

  -- so it is equivalent to a member of a full list
  pub conjugate_member : (L : Representations H.table) → IsFull L → {d : ℕ} (D : Representation H.table d) → 0 < d → IsSimple D.at → (m : Fin L.count) × Equivalent (conjugate Q D) (L.member m).at
  unfolding conjugate_family
  conjugate_member L full D l s = full-member F L full (conjugate_family Q D) l (simple-irreducible F (conjugate_family Q D) (conjugate_simple D l s))
