-- An induced family is simple where no conjugate of the family is equivalent to it.
use Rattle.std.proofs.Common.{◌≡◌, sym, ◌∙◌, ap, refl, subst, ℕ, zero, suc, ◌<◌, ◌⊎◌, inl, inr, arith}
use Rattle.irr_algebra.specs.Field.{Field}
use Rattle.irr_algebra.specs.Fin.{Fin, to_nat}
use Rattle.irr_algebra.specs.Matrix.{Matrix, ◌·◌, null}
use Rattle.irr_algebra.specs.Action.{IsIntertwiner, IsSimple}
use Rattle.irr_algebra.proofs.Indices.{to_nat_inj}
use Rattle.irr_algebra.proofs.Matrices.{mul_assoc, unit-mul, mul-unit}
use Rattle.irr_algebra.proofs.Irreducible.{simple-scalar}
use Rattle.irr_theory.specs.Extension.{iterate, matrix_power}
use Rattle.irr_theory.specs.Induced.{Pieces}
use Rattle.irr_theory.specs.FactorSystem.{FactorSystem, Representation}
use Rattle.irr_theory.proofs.Induced.{pieces-scalar}
use Rattle.irr_clifford.specs.Subgroup.{Subgroup}
use Rattle.irr_clifford.specs.Cyclic.{CyclicQuotient, IsInduced}
use Rattle.irr_clifford.proofs.Split.{no_steps, to_nat-no_steps}
use Rattle.irr_clifford.proofs.Conjugates.{conjugates}
use Rattle.irr_clifford.proofs.Pieces.{simple_of_scalar}
use Rattle.irr_clifford.proofs.Translates.{block_into, induced-restriction}

module _ (F : Field) {T : FactorSystem F.ring} {H : Subgroup T} (Q : CyclicQuotient H) {d e : ℕ} (D : Representation H.table d) (E : Representation T e) (h : IsInduced Q D E) where
  open F use {ring as R}

  -- the powers of the generator's matrix, and the members' matrices
  acts : Fin Q.index ⊎ Fin H.table.places → Matrix R e e
  acts (inl a) = matrix_power (E.at Q.generator) (to_nat a)
  acts (inr n) = E.at (H.member n)

  power-intertwines : (x : Matrix R e e) → IsIntertwiner E.at E.at x → (a : ℕ) → matrix_power (E.at Q.generator) a · x ≡ x · matrix_power (E.at Q.generator) a
  unfolding matrix_power
  power-intertwines x i zero = unit-mul x ∙ sym (mul-unit x)
  power-intertwines x i (suc a) =
      mul_assoc (E.at Q.generator) (matrix_power (E.at Q.generator) a) x ∙ ap (λ (m : Matrix R e e). E.at Q.generator · m) (power-intertwines x i a)
      ∙ sym (mul_assoc (E.at Q.generator) x (matrix_power (E.at Q.generator) a)) ∙ ap (λ (m : Matrix R e e). m · matrix_power (E.at Q.generator) a) (i.intertwines Q.generator)
      ∙ mul_assoc x (E.at Q.generator) (matrix_power (E.at Q.generator) a)

  acts-intertwines : (x : Matrix R e e) → IsIntertwiner E.at E.at x → IsIntertwiner acts acts x
  unfolding acts
  acts-intertwines x i = record { intertwines = elim [ inl a ↦ power-intertwines x i (to_nat a) | inr n ↦ i.intertwines (H.member n) ] }

  conjugates-first : conjugates Q D (to_nat (no_steps Q)) ≡ D
  unfolding conjugates iterate
  conjugates-first = ap (λ k. conjugates Q D k) (to_nat-no_steps Q)

  pieces : IsSimple D.at → ((a : Fin Q.index) → 0 < to_nat a → (x : Matrix R d d) → IsIntertwiner D.at (conjugates Q D (to_nat a)).at x → x ≡ null) → Pieces (Fin H.table.places) d acts
  unfolding acts block_into induced-restriction matrix_power
  pieces simple apart = record {
    count = Q.index;
    start = no_steps Q;
    into = (induced-restriction Q E D h).into;
    out = (induced-restriction Q E D h).out;
    sub = λ n. inr n;
    piece = λ a n. (conjugates Q D (to_nat a)).at n;
    sub-into = λ n a. (induced-restriction Q E D h).member-into a n;
    out-sub = λ n a. (induced-restriction Q E D h).out-member a n;
    all_pieces = (induced-restriction Q E D h).all_pieces;
    carry = λ a. inl a;
    carry-into = λ a. ap (λ (m : Matrix R e d). matrix_power (E.at Q.generator) (to_nat a) · m) (ap (λ k. matrix_power (E.at Q.generator) k · h.into) (to_nat-no_steps Q) ∙ unit-mul h.into);
    scalar = λ x i. simple-scalar F D.at simple x (subst (λ (A : Representation H.table d). IsIntertwiner A.at A.at x) conjugates-first i);
    none = λ a n x i. apart a (positive a n) x (subst (λ (A : Representation H.table d). IsIntertwiner A.at (conjugates Q D (to_nat a)).at x) conjugates-first i);
  }
    where
      positive : (a : Fin Q.index) → (no_steps Q ≡ a → ⊥) → 0 < to_nat a
      positive a n = go (to_nat a) refl
        where
          go : (k : ℕ) → to_nat a ≡ k → 0 < k
          go zero q = absurd (n (to_nat_inj (no_steps Q) a ((to_nat-no_steps Q) ∙ sym q)))
          go (suc k) q = omega arith

  pub induced_simple : 0 < e → IsSimple D.at → ((a : Fin Q.index) → 0 < to_nat a → (x : Matrix R d d) → IsIntertwiner D.at (conjugates Q D (to_nat a)).at x → x ≡ null) → IsSimple E.at
  induced_simple l simple apart = simple_of_scalar F E.at l (λ x i. pieces-scalar acts (pieces simple apart) x (acts-intertwines x i))
