-- Complete lists of one table in canonical order have the same rows, and members at the same place are equivalent.
--   same_lists
use Rattle.std.proofs.Common.{◌≡◌, sym, ◌∙◌, ap, subst, ℕ, ◌<◌, ◌⊎◌, inl, inr, arith}
use Rattle.std.specs.Int.{◌∣◌}
use native.Mathlib.Nat as Nat
use Rattle.irr_algebra.specs.Fin.{Fin, to_nat}
use Rattle.irr_algebra.specs.Homomorphism.{map_matrix}
use Rattle.irr_algebra.specs.Action.{Equivalent}
use Rattle.irr_algebra.proofs.Indices.{to_nat_inj, same_or_not}
use Rattle.irr_algebra.proofs.Matrices.{matrix-ext}
use Rattle.irr_algebra.proofs.Actions.{equivalent_sym, equivalent_trans, equivalent-trace}
use Rattle.irr_number.specs.Lift.{lift}
use Rattle.irr_number.proofs.Lifts.{lift_self}
use Rattle.irr_theory.specs.FactorSystem.{Representation}
use Rattle.irr_theory.specs.Representations.{Representations}
use Rattle.irr_theory.specs.Scalars.{map_family}
use Rattle.irr_space.specs.PhaseTable.{PhaseTable, phases_at}
use Rattle.irr_space.specs.CompleteList.{IsCompleteList, IsInOrder, IsRowBefore, over, row}
use Rattle.irr_rows.proofs.NumberOrder.{three_ways}
use Rattle.irr_rows.proofs.RowOrder.{row_asymm}
use Rattle.irr_rows.proofs.Increasing.{IsIncreasing, increasing-same}

module _ {h : ℕ} (T : PhaseTable h) where
  own : T.order ∣ T.order
  own = Nat.dvd_refl T.order

  -- over its own order a representation is itself
  over-own : {d : ℕ} (A : Representation (phases_at T) d) → (over T T.order own A).at ≡ A.at
  unfolding map_family map_matrix
  over-own {d} A = λ j i. matrix-ext {a = map_matrix (lift T.order T.order T.order_positive own) (A.at i)} {b = A.at i} (λ a b. lift_self T.order T.order_positive own ((A.at i).at a b)) j

  module _ (L M : Representations (phases_at T)) (l : IsCompleteList T L) (m : IsCompleteList T M) where
    -- a member of one list and the one of the other that is equivalent
    pub partner : (i : Fin L.count) → (k : Fin M.count) × Equivalent (L.member i).at (M.member k).at
    partner i = from_over (m.all T.order own T.order_positive (L.size i) (over T T.order own (L.member i)) (l.positive i) (l.irreducible T.order own T.order_positive i))
      where
        from_over : (k : Fin M.count) × Equivalent (over T T.order own (L.member i)).at (over T T.order own (M.member k)).at → (k : Fin M.count) × Equivalent (L.member i).at (M.member k).at
        from_over t = (t.0, subst (λ s. Equivalent s (M.member t.0).at) (over-own (L.member i)) (subst (λ s. Equivalent (over T T.order own (L.member i)).at s) (over-own (M.member t.0)) t.1))

  module _ (L : Representations (phases_at T)) (l : IsCompleteList T L) where
    -- equivalent members are one
    one_member : (i j : Fin L.count) → Equivalent (L.member i).at (L.member j).at → i ≡ j
    one_member i j e = elim (same_or_not i j) [ inl s ↦ s | inr n ↦ absurd (l.inequivalent i j n e) ]

  module _ (L M : Representations (phases_at T)) (l : IsCompleteList T L) (m : IsCompleteList T M) (lo : IsInOrder T L) (mo : IsInOrder T M) where
    s : Fin L.count → Fin M.count
    s i = (partner L M l m i).0

    equivalent : (i : Fin L.count) → Equivalent (L.member i).at (M.member (s i)).at
    unfolding s
    equivalent i = (partner L M l m i).1

    same_row : (i : Fin L.count) → row T (L.member i) ≡ row T (M.member (s i))
    unfolding row
    same_row i = λ j k. equivalent-trace (L.member i).at (M.member (s i)).at (equivalent i) k j

    -- the partners stand in the order of the members
    partner_increasing : IsIncreasing s
    partner_increasing i j lt = from_places (three_ways (to_nat (s i)) (to_nat (s j)))
      where
        before : IsRowBefore T.order T.start (row T (M.member (s i))) (row T (M.member (s j)))
        before = subst (λ r. IsRowBefore T.order T.start r (row T (M.member (s j)))) (same_row i) (subst (λ r. IsRowBefore T.order T.start (row T (L.member i)) r) (same_row j) (lo.ordered i j lt))

        from_places : (to_nat (s i) < to_nat (s j)) ⊎ ((to_nat (s i) ≡ to_nat (s j)) ⊎ (to_nat (s j) < to_nat (s i))) → to_nat (s i) < to_nat (s j)
        from_places (inl h) = h
        from_places (inr (inl e)) = absurd (let k : i ≡ j = one_member L l i j (equivalent_trans (L.member i).at (M.member (s j)).at (L.member j).at
            (subst (λ p. Equivalent (L.member i).at (M.member p).at) (to_nat_inj (s i) (s j) e) (equivalent i)) (equivalent_sym (L.member j).at (M.member (s j)).at (equivalent j))) in
            let q : to_nat i ≡ to_nat j = ap to_nat k in omega arith)
        from_places (inr (inr h)) = absurd (row_asymm T.order T.order_positive T.start (row T (M.member (s i))) (row T (M.member (s j))) before (mo.ordered (s j) (s i) h))

  pub same_lists : (L M : Representations (phases_at T)) → IsCompleteList T L → IsInOrder T L → IsCompleteList T M → IsInOrder T M
      → (L.count ≡ M.count) × ((i : Fin L.count) (k : Fin M.count) → to_nat i ≡ to_nat k → Equivalent (L.member i).at (M.member k).at × (row T (L.member i) ≡ row T (M.member k)))
  unfolding s
  same_lists L M l lo m mo = (fixed.0, λ i k e. at_place i k (to_nat_inj (s L M l m lo mo i) k (fixed.1 i ∙ e)))
    where
      back : (i : Fin L.count) → s M L m l mo lo (s L M l m lo mo i) ≡ i
      back i = sym (one_member L l i (s M L m l mo lo (s L M l m lo mo i)) (equivalent_trans (L.member i).at (M.member (s L M l m lo mo i)).at (L.member (s M L m l mo lo (s L M l m lo mo i))).at
          (equivalent L M l m lo mo i) (equivalent M L m l mo lo (s L M l m lo mo i))))

      fixed : (L.count ≡ M.count) × ((i : Fin L.count) → to_nat (s L M l m lo mo i) ≡ to_nat i)
      fixed = increasing-same (s L M l m lo mo) (s M L m l mo lo) (partner_increasing L M l m lo mo) (partner_increasing M L m l mo lo) back

      at_place : (i : Fin L.count) (k : Fin M.count) → s L M l m lo mo i ≡ k → Equivalent (L.member i).at (M.member k).at × (row T (L.member i) ≡ row T (M.member k))
      at_place i k e = subst (λ p. Equivalent (L.member i).at (M.member p).at × (row T (L.member i) ≡ row T (M.member p))) e (equivalent L M l m lo mo i, same_row L M l m lo mo i)
