-- Where each scalar has a root there is a choice for the step.
use Rattle.std.proofs.Common.{◌≡◌, sym, ◌∙◌, ap, refl, subst, ℕ, zero, suc, ◌<◌, ◌⊎◌, inl, inr, arith}
use Rattle.irr_algebra.specs.Ring.{Ring}
use Rattle.irr_algebra.specs.Field.{Field}
use Rattle.irr_algebra.specs.Fin.{Fin}
use Rattle.irr_algebra.specs.Fin.Fin.{first}
use Rattle.irr_algebra.specs.Matrix.{Matrix, null, scale, trace}
use Rattle.irr_algebra.specs.Action.{Equivalent, IsIntertwiner, IsSimple}
use Rattle.irr_algebra.proofs.Rings.{zero-mul}
use Rattle.irr_algebra.proofs.Fields.{one-ne-zero}
use Rattle.irr_algebra.proofs.Matrices.{scale-null}
use Rattle.irr_algebra.proofs.Totals.{combination-single}
use Rattle.irr_theory.specs.FactorSystem.{FactorSystem, Representation}
use Rattle.irr_theory.specs.Representations.{Representations, IsFull}
use Rattle.irr_algebra.proofs.Entries.{null_or_entry}
use Rattle.irr_theory.proofs.Schur.{simple-equivalent}
use Rattle.irr_theory.proofs.Traces.{dimension-same}
use Rattle.irr_clifford.specs.Subgroup.{Subgroup}
use Rattle.irr_clifford.specs.Cyclic.{CyclicQuotient, conjugate, HasScalar}
use Rattle.irr_clifford.specs.Roots.{number_power, RootsOfOne}
use Rattle.irr_clifford.specs.Climb.{ClimbChoice}
use Rattle.irr_clifford.proofs.Split.{index-positive}
use Rattle.irr_clifford.proofs.Conjugates.{conjugate_member}
use Rattle.irr_clifford.proofs.ScalarOf.{scalar_of, scalar-ne-zero, stands_over_root}

pub number_power-zero : (R : Ring) (n : ℕ) → 0 < n → number_power R R.zero n ≡ R.zero
unfolding number_power
number_power-zero R zero l = absurd (omega arith)
number_power-zero R (suc n) l = zero-mul R (number_power R R.zero n)

module _ (F : Field) where
  open F use {ring as R}

  -- simple families with the same traces are equivalent
  pub same_traces : {T : FactorSystem R} {a b : ℕ} (A : Representation T a) (B : Representation T b) → IsSimple A.at → 0 < b → IsSimple B.at
      → ((i : Fin T.places) → trace (A.at i) ≡ trace (B.at i)) → Equivalent A.at B.at
  same_traces {T} {a} {b} A B s l t e =
      let h = dimension-same F A A A B (λ i. refl) e s in
      cases (h.members first) (h.are_intertwiners first) (λ z. one-ne-zero F (h.independent (λ k. R.one)
      (combination-single R (λ k. R.one) h.members ∙ ap (scale R R.one) z ∙ scale-null R R.one) first)) (null_or_entry F (h.members first))
    where
      cases : (x : Matrix R b a) → IsIntertwiner A.at B.at x → (x ≡ null → ⊥) → (x ≡ null) ⊎ ((i : Fin b) × (j : Fin a) × (x.at i j ≡ R.zero → ⊥)) → Equivalent A.at B.at
      cases x i n (inl z) = absurd (n z)
      cases x i n (inr (j, k, d)) = simple-equivalent F A B s l t x i j k d

  module _ {T : FactorSystem R} {H : Subgroup T} (Q : CyclicQuotient H) (L : Representations H.table) (full : IsFull L) where
    turned : (l : Fin L.count) → (m : Fin L.count) × Equivalent (conjugate Q (L.member l)) (L.member m).at
    turned l = conjugate_member F Q L full (L.member l) (full.positive l) (full.simple l)

    fixed : (l : Fin L.count) → (turned l).0 ≡ l → Equivalent (conjugate Q (L.member l)) (L.member l).at
    fixed l e = subst (λ m. Equivalent (conjugate Q (L.member l)) (L.member m).at) e (turned l).1

    pub choice_of_roots : RootsOfOne R Q.index
        → ((l : Fin L.count) (u : Matrix R (L.size l) (L.size l)) (c : R.Carrier) → HasScalar Q (L.member l) u c → (c ≡ R.zero → ⊥) → (r : R.Carrier) × (number_power R r Q.index ≡ c))
        → ClimbChoice Q L
    choice_of_roots roots root = record {
      turn = λ l. (turned l).0;
      turns = λ l. (turned l).1;
      roots = roots;
      matrix = λ l e. scale R (F.inverse (rooted l e).0) (fixed l e).forward;
      stands = λ l e. stands_over_root F Q (L.member l) (fixed l e).forward (number l e).0 (rooted l e).0 (number l e).1 (root-ne-zero l e) (rooted l e).1;
    }
      where
        number : (l : Fin L.count) (e : (turned l).0 ≡ l) → (c : R.Carrier) × HasScalar Q (L.member l) (fixed l e).forward c
        number l e = scalar_of F Q (L.member l) (full.simple l) (fixed l e).forward (fixed l e).is_intertwiner

        number-ne-zero : (l : Fin L.count) (e : (turned l).0 ≡ l) → (number l e).0 ≡ R.zero → ⊥
        number-ne-zero l e = scalar-ne-zero F Q (L.member l) (full.positive l) (fixed l e).forward (fixed l e).backward (number l e).0 (number l e).1 (fixed l e).forward-backward

        rooted : (l : Fin L.count) (e : (turned l).0 ≡ l) → (r : R.Carrier) × (number_power R r Q.index ≡ (number l e).0)
        rooted l e = root l (fixed l e).forward (number l e).0 (number l e).1 (number-ne-zero l e)

        root-ne-zero : (l : Fin L.count) (e : (turned l).0 ≡ l) → (rooted l e).0 ≡ R.zero → ⊥
        root-ne-zero l e z = number-ne-zero l e (sym (rooted l e).1 ∙ ap (λ x. number_power R x Q.index) z ∙ number_power-zero R Q.index (index-positive Q))
