-- A simple family that is not equivalent to its conjugate is equivalent to none of its conjugates: its inertia is the subgroup.
use Rattle.std.proofs.Common.{◌≡◌, sym, ◌∙◌, ap, subst, ℕ, zero, suc, ◌+◌, ◌-◌, ◌<◌, ◌≤◌, ◌⊎◌, inl, inr, arith}
use native.Mathlib.Decide.{dec_le}
use Rattle.irr_algebra.specs.Field.{Field}
use Rattle.irr_algebra.specs.Fin.{Fin, to_nat}
use Rattle.irr_algebra.specs.Action.{Equivalent, IsSimple}
use Rattle.irr_algebra.proofs.Indices.{to_nat-lt, to_nat_inj}
use Rattle.irr_algebra.proofs.Rank.{left_inverse-le}
use Rattle.irr_algebra.proofs.Actions.{equivalent_sym, equivalent_trans}
use Rattle.irr_theory.specs.Extension.{iterate}
use Rattle.irr_theory.specs.FactorSystem.{FactorSystem, Representation}
use Rattle.irr_clifford.specs.Subgroup.{Subgroup}
use Rattle.irr_clifford.specs.Cyclic.{CyclicQuotient, conjugate, IsInduced}
use Rattle.irr_clifford.proofs.Representations.{conjugate_family}
use Rattle.irr_clifford.proofs.Conjugates.{conjugates, conjugate_equivalent, conjugates_period, conjugate_simple}
use Rattle.irr_clifford.proofs.InducedSimple.{induced_simple}
use Rattle.irr_clifford.proofs.Orbits.{iterate-add}
use Rattle.irr_clifford.proofs.Pieces.{inequivalent-null}

module _ (F : Field) {T : FactorSystem F.ring} {H : Subgroup T} (Q : CyclicQuotient H) {d : ℕ} (D : Representation H.table d) where
  -- further conjugates of equivalent families are equivalent
  pub conjugates_equivalent : (n : ℕ) {a b : ℕ} (A : Representation H.table a) (B : Representation H.table b) → Equivalent A.at B.at → Equivalent (conjugates Q A n).at (conjugates Q B n).at
  unfolding conjugates iterate conjugate_family
  conjugates_equivalent zero A B e = e
  conjugates_equivalent (suc n) A B e = conjugate_equivalent Q (conjugates Q A n) (conjugates Q B n) (conjugates_equivalent n A B e)

  pub conjugates-add : (m n : ℕ) → conjugates Q D (m + n) ≡ conjugates Q (conjugates Q D n) m
  unfolding conjugates
  conjugates-add m n = iterate-add (conjugate_family Q) m n D

  pub conjugates_simple : 0 < d → IsSimple D.at → (n : ℕ) → IsSimple (conjugates Q D n).at
  unfolding conjugates iterate conjugate_family
  conjugates_simple l s zero = s
  conjugates_simple l s (suc n) = conjugate_simple F Q (conjugates Q D n) l (conjugates_simple l s n)

  module _ (small : (Q.index ≡ 2) ⊎ (Q.index ≡ 3)) (free : Equivalent (conjugate Q D) D.at → ⊥) where
    -- no conjugate before the last is equivalent to the family
    pub conjugate_free : (n : ℕ) → 0 < n → n < Q.index → Equivalent (conjugates Q D n).at D.at → ⊥
    unfolding conjugates iterate conjugate_family
    conjugate_free n l k e = cases n l k e small
      where
        third : Q.index ≡ 3 → Equivalent (conjugate Q (conjugates Q D 1)) D.at → Equivalent (conjugate Q D) D.at
        third q e = equivalent_trans (conjugate Q D) (conjugates Q D 3).at D.at
            (equivalent_sym (conjugates Q D 3).at (conjugate Q D) (conjugate_equivalent Q (conjugates Q D 2) D e))
            (subst (λ n. Equivalent (conjugates Q D n).at D.at) q (conjugates_period Q D))

        cases : (n : ℕ) → 0 < n → n < Q.index → Equivalent (conjugates Q D n).at D.at → (Q.index ≡ 2) ⊎ (Q.index ≡ 3) → ⊥
        cases zero l k e s = absurd (omega arith)
        cases (suc zero) l k e s = free e
        cases (suc (suc zero)) l k e (inl q) = absurd (omega arith)
        cases (suc (suc zero)) l k e (inr q) = free (third q e)
        cases (suc (suc (suc n))) l k e (inl q) = absurd (omega arith)
        cases (suc (suc (suc n))) l k e (inr q) = absurd (omega arith)

    -- the conjugates are pairwise inequivalent
    conjugates_below : (m n : ℕ) → m < n → n < Q.index → Equivalent (conjugates Q D m).at (conjugates Q D n).at → ⊥
    conjugates_below m n l k e = conjugate_free ((Q.index - n) + m) (omega arith) (omega arith)
        (equivalent_trans (conjugates Q D ((Q.index - n) + m)).at (conjugates Q D Q.index).at D.at
        (subst (λ (A : Representation H.table d). Equivalent A.at (conjugates Q D Q.index).at) (sym (conjugates-add (Q.index - n) m))
        (subst (λ (A : Representation H.table d). Equivalent (conjugates Q (conjugates Q D m) (Q.index - n)).at A.at) (sym (conjugates-add (Q.index - n) n) ∙ ap (conjugates Q D) (omega arith))
        (conjugates_equivalent (Q.index - n) (conjugates Q D m) (conjugates Q D n) e)))
        (conjugates_period Q D))

    pub conjugates_apart : (a b : Fin Q.index) → (a ≡ b → ⊥) → Equivalent (conjugates Q D (to_nat a)).at (conjugates Q D (to_nat b)).at → ⊥
    conjugates_apart a b n e = cases (dec_le (suc (to_nat a)) (to_nat b)) (dec_le (suc (to_nat b)) (to_nat a))
      where
        cases : Dec (suc (to_nat a) ≤ to_nat b) → Dec (suc (to_nat b) ≤ to_nat a) → ⊥
        cases (yes l) r = conjugates_below (to_nat a) (to_nat b) (omega arith) (to_nat-lt b) e
        cases (no l) (yes r) = conjugates_below (to_nat b) (to_nat a) (omega arith) (to_nat-lt a) (equivalent_sym (conjugates Q D (to_nat a)).at (conjugates Q D (to_nat b)).at e)
        cases (no l) (no r) = n (to_nat_inj a b (omega arith))

    -- and the induced family is simple
    pub induced_of_free : {e : ℕ} (E : Representation T e) → IsInduced Q D E → 0 < d → IsSimple D.at → IsSimple E.at
    induced_of_free {e} E h l s = induced_simple F Q D E h (let i = left_inverse-le F h.into h.out h.out-into in omega arith) s (λ a k.
        inequivalent-null F D (conjugates Q D (to_nat a)) s l (conjugates_simple l s (to_nat a))
        (λ q. conjugate_free (to_nat a) k (to_nat-lt a) (equivalent_sym D.at (conjugates Q D (to_nat a)).at q)))
