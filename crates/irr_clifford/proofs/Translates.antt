-- An induced family over the subgroup: the translates of its block are the conjugates.
use Rattle.std.proofs.Common.{◌≡◌, sym, ◌∙◌, ap, ap₂, ℕ, zero, suc}
use Rattle.irr_algebra.specs.Ring.{Ring, whole}
use Rattle.irr_algebra.specs.Fin.{Fin, to_nat}
use Rattle.irr_algebra.specs.Matrix.{Matrix, ◌·◌, unit, scale, trace}
use Rattle.irr_algebra.proofs.Rings.{one-mul}
use Rattle.irr_algebra.proofs.Matrices.{mul_assoc, unit-mul, mul-unit, scale-mul, mul-scale, trace_comm, trace-unit}
use Rattle.irr_algebra.proofs.Totals.{total-ext, trace-total}
use Rattle.irr_algebra.proofs.Sums.{sum-ext, sum_same}
use Rattle.irr_theory.specs.Extension.{iterate, matrix_power}
use Rattle.irr_theory.specs.Traces.{back}
use Rattle.irr_theory.specs.FactorSystem.{FactorSystem, Representation}
use Rattle.irr_theory.specs.Lifted.{lifted}
use Rattle.irr_theory.proofs.Inverses.{mul-back, back-mul}
use Rattle.irr_theory.proofs.Lifted.{lifted-multiplies}
use Rattle.irr_clifford.specs.Subgroup.{Subgroup}
use Rattle.irr_clifford.specs.Cyclic.{CyclicQuotient, conjugate, IsInduced}
use Rattle.irr_clifford.proofs.Split.{bare, inside, step, moved, inside-step}
use Rattle.irr_clifford.proofs.Representations.{lifted-bare, restrict_family, conjugate_family}
use Rattle.irr_clifford.proofs.Conjugates.{conjugates}
use Rattle.irr_clifford.proofs.Pieces.{Restriction}

pub power-last : {R : Ring} {d : ℕ} (u : Matrix R d d) (n : ℕ) → matrix_power u (suc n) ≡ matrix_power u n · u
unfolding matrix_power
power-last u zero = mul-unit u ∙ sym (unit-mul u)
power-last u (suc n) = ap (λ (m : Matrix _ _ _). u · m) (power-last u n) ∙ sym (mul_assoc u (matrix_power u n) u)

pub power-inverse : {R : Ring} {d : ℕ} (v u : Matrix R d d) → v · u ≡ unit R d → (n : ℕ) → matrix_power v n · matrix_power u n ≡ unit R d
unfolding matrix_power
power-inverse {R} {d} v u e zero = unit-mul (unit R d)
power-inverse {R} {d} v u e (suc n) =
    ap (λ (m : Matrix R d d). m · (u · matrix_power u n)) (power-last v n) ∙ mul_assoc (matrix_power v n) v (u · matrix_power u n)
    ∙ ap (λ (m : Matrix R d d). matrix_power v n · m) (sym (mul_assoc v u (matrix_power u n)) ∙ ap (λ (m : Matrix R d d). m · matrix_power u n) e ∙ unit-mul (matrix_power u n)) ∙ power-inverse v u e n

module _ {R : Ring} {T : FactorSystem R} {H : Subgroup T} (Q : CyclicQuotient H) {e : ℕ} (E : Representation T e) where
  -- n g = g (conj n), with the phases
  pub member-generator : (n : Fin H.table.places) → E.at (H.member n) · E.at Q.generator ≡ E.at Q.generator · conjugate Q (restrict_family H E) n
  unfolding restrict_family lifted conjugate
  member-generator n =
      ap₂ (λ (a b : Matrix R e e). a · b) (sym (lifted-bare E (H.member n))) (sym (lifted-bare E Q.generator))
      ∙ lifted-multiplies E (inside Q (bare H.table n)) (step Q) ∙ ap (lifted E) (inside-step Q (bare H.table n)) ∙ sym (lifted-multiplies E (step Q) (inside Q (moved Q (bare H.table n))))
      ∙ ap₂ (λ (a b : Matrix R e e). a · b) (lifted-bare E Q.generator) (ap (λ c. scale R c (E.at (H.member (Q.conj n)))) (one-mul R _))

  -- and back
  back-member : (n : Fin H.table.places) → back E Q.generator · E.at (H.member n) ≡ conjugate Q (restrict_family H E) n · back E Q.generator
  back-member n =
      sym (mul-unit (back E Q.generator · E.at (H.member n))) ∙ ap (λ (m : Matrix R e e). back E Q.generator · E.at (H.member n) · m) (sym (mul-back E Q.generator))
      ∙ mul_assoc (back E Q.generator) (E.at (H.member n)) (E.at Q.generator · back E Q.generator)
      ∙ ap (λ (m : Matrix R e e). back E Q.generator · m) (sym (mul_assoc (E.at (H.member n)) (E.at Q.generator) (back E Q.generator))
      ∙ ap (λ (m : Matrix R e e). m · back E Q.generator) (member-generator n) ∙ mul_assoc (E.at Q.generator) (conjugate Q (restrict_family H E) n) (back E Q.generator))
      ∙ sym (mul_assoc (back E Q.generator) (E.at Q.generator) (conjugate Q (restrict_family H E) n · back E Q.generator))
      ∙ ap (λ (m : Matrix R e e). m · (conjugate Q (restrict_family H E) n · back E Q.generator)) (back-mul E Q.generator) ∙ unit-mul (conjugate Q (restrict_family H E) n · back E Q.generator)

  -- a block that the members keep is translated to one on which they act as the conjugate family
  pub translate-into : {d : ℕ} (D : Representation H.table d) (x : Matrix R e d) → ((n : Fin H.table.places) → E.at (H.member n) · x ≡ x · D.at n)
      → (n : Fin H.table.places) → E.at (H.member n) · (E.at Q.generator · x) ≡ E.at Q.generator · x · conjugate Q D n
  unfolding conjugate restrict_family
  translate-into {d} D x h n =
      sym (mul_assoc (E.at (H.member n)) (E.at Q.generator) x) ∙ ap (λ (m : Matrix R e e). m · x) (member-generator n) ∙ mul_assoc (E.at Q.generator) (conjugate Q (restrict_family H E) n) x
      ∙ ap (λ (m : Matrix R e d). E.at Q.generator · m) (scale-mul R _ (E.at (H.member (Q.conj n))) x ∙ ap (scale R _) (h (Q.conj n)) ∙ sym (mul-scale R _ x (D.at (Q.conj n))))
      ∙ sym (mul_assoc (E.at Q.generator) x (conjugate Q D n))

  pub translate-out : {d : ℕ} (D : Representation H.table d) (y : Matrix R d e) → ((n : Fin H.table.places) → y · E.at (H.member n) ≡ D.at n · y)
      → (n : Fin H.table.places) → y · back E Q.generator · E.at (H.member n) ≡ conjugate Q D n · (y · back E Q.generator)
  unfolding conjugate restrict_family
  translate-out {d} D y h n =
      mul_assoc y (back E Q.generator) (E.at (H.member n)) ∙ ap (λ (m : Matrix R e e). y · m) (back-member n) ∙ sym (mul_assoc y (conjugate Q (restrict_family H E) n) (back E Q.generator))
      ∙ ap (λ (m : Matrix R d e). m · back E Q.generator) (mul-scale R _ y (E.at (H.member (Q.conj n))) ∙ ap (scale R _) (h (Q.conj n)) ∙ sym (scale-mul R _ (D.at (Q.conj n)) y))
      ∙ mul_assoc (conjugate Q D n) y (back E Q.generator)

  module _ {d : ℕ} (D : Representation H.table d) (h : IsInduced Q D E) where
    unfoldable pub block_into : ℕ → Matrix R e d
    block_into a = matrix_power (E.at Q.generator) a · h.into

    unfoldable pub block_out : ℕ → Matrix R d e
    block_out a = h.out · matrix_power (back E Q.generator) a

    pub block-member : (a : ℕ) (n : Fin H.table.places) → E.at (H.member n) · block_into a ≡ block_into a · (conjugates Q D a).at n
    unfolding block_into conjugates iterate matrix_power conjugate_family
    block-member zero n = ap (λ (m : Matrix R e d). E.at (H.member n) · m) (unit-mul h.into) ∙ h.member-into n ∙ ap (λ (m : Matrix R e d). m · D.at n) (sym (unit-mul h.into))
    block-member (suc a) n =
        ap (λ (m : Matrix R e d). E.at (H.member n) · m) (mul_assoc (E.at Q.generator) (matrix_power (E.at Q.generator) a) h.into)
        ∙ translate-into (conjugates Q D a) (block_into a) (block-member a) n
        ∙ ap (λ (m : Matrix R e d). m · conjugate Q (conjugates Q D a) n) (sym (mul_assoc (E.at Q.generator) (matrix_power (E.at Q.generator) a) h.into))

    pub member-block : (a : ℕ) (n : Fin H.table.places) → block_out a · E.at (H.member n) ≡ (conjugates Q D a).at n · block_out a
    unfolding block_out conjugates iterate matrix_power conjugate_family
    member-block zero n = ap (λ (m : Matrix R d e). m · E.at (H.member n)) (mul-unit h.out) ∙ h.out-member n ∙ ap (λ (m : Matrix R d e). D.at n · m) (sym (mul-unit h.out))
    member-block (suc a) n =
        ap (λ (m : Matrix R d e). m · E.at (H.member n)) (last a)
        ∙ translate-out (conjugates Q D a) (block_out a) (member-block a) n
        ∙ ap (λ (m : Matrix R d e). conjugate Q (conjugates Q D a) n · m) (sym (last a))
      where
        last : (a : ℕ) → h.out · (back E Q.generator · matrix_power (back E Q.generator) a) ≡ h.out · matrix_power (back E Q.generator) a · back E Q.generator
        last a = ap (λ (m : Matrix R e e). h.out · m) (power-last (back E Q.generator) a) ∙ sym (mul_assoc h.out (matrix_power (back E Q.generator) a) (back E Q.generator))

    unfoldable pub induced-restriction : Restriction H E
    unfolding block_into block_out
    induced-restriction = record {
      count = Q.index;
      size = d;
      piece = λ a. conjugates Q D (to_nat a);
      into = λ a. block_into (to_nat a);
      out = λ a. block_out (to_nat a);
      member-into = λ a n. block-member (to_nat a) n;
      out-member = λ a n. member-block (to_nat a) n;
      all_pieces = total-ext Q.index (λ a. simp mul_assoc) ∙ h.all_blocks;
    }

    -- the size of the whole
    pub induced-size : whole R e ≡ R.mul (whole R Q.index) (whole R d)
    induced-size =
        sym (trace-unit R e) ∙ ap trace (sym h.all_blocks) ∙ trace-total Q.index (λ a. matrix_power (E.at Q.generator) (to_nat a) · (h.into · h.out) · matrix_power (back E Q.generator) (to_nat a))
        ∙ sum-ext R Q.index (λ a. trace (matrix_power (E.at Q.generator) (to_nat a) · (h.into · h.out) · matrix_power (back E Q.generator) (to_nat a))) (λ a. whole R d) (λ a. one (to_nat a))
        ∙ sum_same R Q.index (whole R d)
      where
        one : (a : ℕ) → trace (matrix_power (E.at Q.generator) a · (h.into · h.out) · matrix_power (back E Q.generator) a) ≡ whole R d
        one a =
            trace_comm (matrix_power (E.at Q.generator) a · (h.into · h.out)) (matrix_power (back E Q.generator) a)
            ∙ ap trace (sym (mul_assoc (matrix_power (back E Q.generator) a) (matrix_power (E.at Q.generator) a) (h.into · h.out))
            ∙ ap (λ (m : Matrix R e e). m · (h.into · h.out)) (power-inverse (back E Q.generator) (E.at Q.generator) (back-mul E Q.generator) a) ∙ unit-mul (h.into · h.out))
            ∙ trace_comm h.into h.out ∙ ap trace h.out-into ∙ trace-unit R d
