-- Representations of one orbit induce equivalent families.
use Rattle.std.proofs.Common.{◌≡◌, sym, ◌∙◌, ap, refl, subst, ℕ, zero, suc, ◌-◌, ◌<◌, ◌⊎◌, inl, inr, arith}
use Rattle.irr_algebra.specs.Ring.{Ring}
use Rattle.irr_algebra.specs.Field.{Field}
use Rattle.irr_algebra.specs.Fin.{Fin, to_nat}
use Rattle.irr_algebra.specs.Sum.{delta}
use Rattle.irr_algebra.specs.Matrix.{Matrix, ◌·◌, unit, null, scale}
use Rattle.irr_algebra.specs.Action.{IsIntertwiner, Equivalent, IsSimple}
use Rattle.irr_algebra.proofs.Indices.{from_nat, to_nat-from_nat, same_or_not, to_nat-lt, to_nat_inj}
use Rattle.irr_algebra.proofs.Sums.{delta-eq, delta-ne}
use Rattle.irr_algebra.proofs.Rank.{left_inverse-le}
use Rattle.irr_algebra.proofs.Irreducible.{equivalent-size}
use Rattle.irr_algebra.proofs.Actions.{equivalent_refl, equivalent_sym, equivalent_trans}
use Rattle.irr_algebra.proofs.Entries.{null_or_entry, unit-ne-null}
use Rattle.irr_algebra.proofs.Matrices.{mul_assoc, unit-mul, mul-unit, mul-null, null-mul, scale-one, zero-scale}
use Rattle.irr_algebra.proofs.Totals.{total-mul, total-ext, combination-delta}
use Rattle.irr_theory.specs.Extension.{iterate, matrix_power}
use Rattle.irr_theory.specs.FactorSystem.{FactorSystem, Representation}
use Rattle.irr_theory.proofs.Traces.{simple-equivalent_family}
use Rattle.irr_theory.proofs.Schur.{simple-equivalent}
use Rattle.irr_clifford.specs.Subgroup.{Subgroup}
use Rattle.irr_clifford.specs.Cyclic.{CyclicQuotient, conjugate, IsInduced}
use Rattle.irr_clifford.proofs.Representations.{conjugate_family}
use Rattle.irr_clifford.proofs.Conjugates.{conjugates, conjugate_equivalent, conjugates_period}
use Rattle.irr_clifford.proofs.Inertia.{conjugates-add, conjugates_simple, conjugate_free, induced_of_free}
use Rattle.irr_clifford.proofs.Pieces.{inequivalent-null}
use Rattle.irr_clifford.proofs.Split.{index-positive, no_steps, to_nat-no_steps}
use Rattle.irr_clifford.proofs.Spread.{term, spread, spread-intertwines, translated_by}
use Rattle.irr_clifford.proofs.Translates.{block_into, block_out, member-block}

conjugates_stay : {R : Ring} {T : FactorSystem R} {H : Subgroup T} (Q : CyclicQuotient H) {d : ℕ} (A : Representation H.table d) → Equivalent (conjugate Q A) A.at → (m : ℕ) → Equivalent (conjugate Q (conjugates Q A m)) (conjugates Q A m).at
unfolding conjugates iterate conjugate_family
conjugates_stay Q A e zero = e
conjugates_stay Q A e (suc m) = conjugate_equivalent Q (conjugate_family Q (conjugates Q A m)) (conjugates Q A m) (conjugates_stay Q A e m)

module _ (F : Field) {T : FactorSystem F.ring} {H : Subgroup T} (Q : CyclicQuotient H) (small : (Q.index ≡ 2) ⊎ (Q.index ≡ 3)) {d : ℕ} (D : Representation H.table d)
    (l : 0 < d) (simple : IsSimple D.at) (free : Equivalent (conjugate Q D) D.at → ⊥) where
  open F use {ring as R}

  -- a family equivalent to a conjugate is not equivalent to its own conjugate
  free_of_equivalent : {c : ℕ} (C : Representation H.table c) (a : ℕ) → a < Q.index → Equivalent (conjugates Q D a).at C.at → Equivalent (conjugate Q C) C.at → ⊥
  unfolding conjugates iterate conjugate_family
  free_of_equivalent C a k e f = free (equivalent_trans (conjugate Q D) (conjugate Q (conjugates Q D Q.index)) D.at
      (equivalent_sym (conjugate Q (conjugates Q D Q.index)) (conjugate Q D) (conjugate_equivalent Q (conjugates Q D Q.index) D (conjugates_period Q D)))
      (equivalent_trans (conjugate Q (conjugates Q D Q.index)) (conjugates Q D Q.index).at D.at turned (conjugates_period Q D)))
    where
      one : Equivalent (conjugate Q (conjugates Q D a)) (conjugates Q D a).at
      one = equivalent_trans (conjugate Q (conjugates Q D a)) (conjugate Q C) (conjugates Q D a).at (conjugate_equivalent Q (conjugates Q D a) C e)
          (equivalent_trans (conjugate Q C) C.at (conjugates Q D a).at f (equivalent_sym (conjugates Q D a).at C.at e))

      turned : Equivalent (conjugate Q (conjugates Q D Q.index)) (conjugates Q D Q.index).at
      turned = subst (λ (A : Representation H.table d). Equivalent (conjugate Q A) A.at) (sym (conjugates-add F Q D (Q.index - a) a) ∙ ap (conjugates Q D) (omega arith))
          (conjugates_stay Q (conjugates Q D a) one (Q.index - a))

  first_conjugate : {c : ℕ} (C : Representation H.table c) → Equivalent D.at C.at → Equivalent (conjugates Q D 0).at C.at
  unfolding conjugates iterate
  first_conjugate C w = w

  module _ {c e k : ℕ} (C : Representation H.table c) (w : Equivalent D.at C.at) (A : Representation T e) (p : IsInduced Q D A) (B : Representation T k) (q : IsInduced Q C B) where
    x : Matrix R k e
    x = spread Q D A p C B q w.forward w.is_intertwiner

    out-into : (a : ℕ) → IsIntertwiner D.at (conjugates Q D a).at (block_out Q A D p a · p.into)
    out-into a = record {
      intertwines = λ n.
          sym (mul_assoc ((conjugates Q D a).at n) (block_out Q A D p a) p.into) ∙ ap (λ (m : Matrix R d e). m · p.into) (sym (member-block Q A D p a n)) ∙ mul_assoc (block_out Q A D p a) (A.at (H.member n)) p.into
          ∙ ap (λ (m : Matrix R e d). block_out Q A D p a · m) (p.member-into n) ∙ sym (mul_assoc (block_out Q A D p a) p.into (D.at n));
    }

    first-out : (a : ℕ) → a ≡ 0 → block_out Q A D p a · p.into ≡ unit R d
    unfolding block_out matrix_power
    first-out zero z = ap (λ (m : Matrix R d e). m · p.into) (mul-unit p.out) ∙ p.out-into
    first-out (suc a) z = absurd (omega arith)

    one : (a : Fin Q.index) → (no_steps Q ≡ a) ⊎ (no_steps Q ≡ a → ⊥) → block_into Q B C q (to_nat a) · w.forward · (block_out Q A D p (to_nat a) · p.into) ≡ scale R (delta R (no_steps Q) a) (block_into Q B C q (to_nat a) · w.forward)
    one a (inl z) =
        ap (λ (m : Matrix R d d). block_into Q B C q (to_nat a) · w.forward · m) (first-out (to_nat a) (ap to_nat (sym z) ∙ to_nat-no_steps Q)) ∙ mul-unit (block_into Q B C q (to_nat a) · w.forward)
        ∙ sym (scale-one (block_into Q B C q (to_nat a) · w.forward)) ∙ ap (λ s. scale R s (block_into Q B C q (to_nat a) · w.forward)) (sym (delta-eq R (no_steps Q) a z))
    one a (inr n) =
        ap (λ (m : Matrix R d d). block_into Q B C q (to_nat a) · w.forward · m) (inequivalent-null F D (conjugates Q D (to_nat a)) simple l (conjugates_simple F Q D l simple (to_nat a))
        (λ s. conjugate_free F Q D small free (to_nat a) (above (to_nat a) refl) (to_nat-lt a) (equivalent_sym D.at (conjugates Q D (to_nat a)).at s)) (block_out Q A D p (to_nat a) · p.into) (out-into (to_nat a)))
        ∙ mul-null (block_into Q B C q (to_nat a) · w.forward) ∙ sym (zero-scale (block_into Q B C q (to_nat a) · w.forward))
        ∙ ap (λ s. scale R s (block_into Q B C q (to_nat a) · w.forward)) (sym (delta-ne R (no_steps Q) a n))
      where
        above : (j : ℕ) → to_nat a ≡ j → 0 < j
        above zero z = absurd (n (to_nat_inj (no_steps Q) a (to_nat-no_steps Q ∙ sym z)))
        above (suc j) z = omega arith

    first_block : x · p.into ≡ q.into · w.forward
    unfolding x spread term block_into matrix_power
    first_block =
        total-mul Q.index (λ a. block_into Q B C q (to_nat a) · w.forward · block_out Q A D p (to_nat a)) p.into
        ∙ total-ext Q.index (λ a. mul_assoc (block_into Q B C q (to_nat a) · w.forward) (block_out Q A D p (to_nat a)) p.into ∙ one a (same_or_not (no_steps Q) a))
        ∙ combination-delta Q.index (no_steps Q) (λ a. block_into Q B C q (to_nat a) · w.forward)
        ∙ ap (λ j. block_into Q B C q j · w.forward) (to_nat-no_steps Q) ∙ ap (λ (m : Matrix R k c). m · w.forward) (unit-mul q.into)

    positive_c : 0 < c
    positive_c = let s = equivalent-size F D.at C.at w in omega (arith, l)

    x-ne-null : x ≡ null → ⊥
    x-ne-null z = unit-ne-null F c positive_c (
        sym w.forward-backward ∙ ap (λ (m : Matrix R c d). m · w.backward) (
        sym (unit-mul w.forward) ∙ ap (λ (m : Matrix R c c). m · w.forward) (sym q.out-into) ∙ mul_assoc q.out q.into w.forward
        ∙ ap (λ (m : Matrix R k d). q.out · m) (sym first_block ∙ ap (λ (m : Matrix R k e). m · p.into) z ∙ null-mul p.into) ∙ mul-null q.out) ∙ null-mul w.backward)

    -- equivalent families induce equivalent ones
    pub induced_from_equivalent : Equivalent A.at B.at
    unfolding x
    induced_from_equivalent = cases (null_or_entry F x)
      where
        c_simple : IsSimple C.at
        c_simple = simple-equivalent_family F C D (equivalent_sym D.at C.at w) simple

        conjugates_zero : Equivalent (conjugates Q D 0).at C.at
        conjugates_zero = first_conjugate C w

        cases : (x ≡ null) ⊎ ((i : Fin k) × (j : Fin e) × (x.at i j ≡ R.zero → ⊥)) → Equivalent A.at B.at
        cases (inl z) = absurd (x-ne-null z)
        cases (inr (i, j, n)) = simple-equivalent F A B (induced_of_free F Q D small free A p l simple)
            (let s = left_inverse-le F q.into q.out q.out-into in let t = positive_c in omega arith)
            (induced_of_free F Q C small (free_of_equivalent C 0 (index-positive Q) conjugates_zero) B q positive_c c_simple)
            x (spread-intertwines Q D A p C B q w.forward w.is_intertwiner) i j n

-- families of one orbit induce equivalent ones
pub induced_from_orbit : (F : Field) {T : FactorSystem F.ring} {H : Subgroup T} (Q : CyclicQuotient H) → (Q.index ≡ 2) ⊎ (Q.index ≡ 3) → {d c e k : ℕ} (D : Representation H.table d) → 0 < d → IsSimple D.at
    → (Equivalent (conjugate Q D) D.at → ⊥) → (a : Fin Q.index) (C : Representation H.table c) → Equivalent (conjugates Q D (to_nat a)).at C.at
    → (A : Representation T e) → IsInduced Q D A → (B : Representation T k) → IsInduced Q C B → Equivalent A.at B.at
induced_from_orbit F Q small D l s free a C w A p B q =
    induced_from_equivalent F Q small (conjugates Q D (to_nat a)) l (conjugates_simple F Q D l s (to_nat a))
    (free_of_equivalent F Q small D l s free (conjugates Q D (to_nat a)) (to_nat a) (to_nat-lt a) (equivalent_refl (conjugates Q D (to_nat a)).at))
    C w A (translated_by Q D A p (to_nat a)) B q

-- so a family and its conjugate do
pub induced_from_conjugate : (F : Field) {T : FactorSystem F.ring} {H : Subgroup T} (Q : CyclicQuotient H) → (Q.index ≡ 2) ⊎ (Q.index ≡ 3) → {d c e k : ℕ} (D : Representation H.table d) → 0 < d → IsSimple D.at
    → (Equivalent (conjugate Q D) D.at → ⊥) → (C : Representation H.table c) → Equivalent (conjugate Q D) C.at
    → (A : Representation T e) → IsInduced Q D A → (B : Representation T k) → IsInduced Q C B → Equivalent A.at B.at
unfolding conjugates iterate conjugate_family to_nat
induced_from_conjugate F {T} {H} Q small {c = c} D l s free C w A p B q =
    induced_from_orbit F Q small D l s free (one_step Q.index small) C (subst (λ a. Equivalent (conjugates Q D a).at C.at) (sym (to_nat-one_step Q.index small)) w) A p B q
  where
    one_step : (n : ℕ) → (n ≡ 2) ⊎ (n ≡ 3) → Fin n
    one_step n (inl e) = from_nat n 1 (omega arith)
    one_step n (inr e) = from_nat n 1 (omega arith)

    to_nat-one_step : (n : ℕ) (s : (n ≡ 2) ⊎ (n ≡ 3)) → to_nat (one_step n s) ≡ 1
    to_nat-one_step n (inl e) = to_nat-from_nat n 1 (omega arith)
    to_nat-one_step n (inr e) = to_nat-from_nat n 1 (omega arith)
