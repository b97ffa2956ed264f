-- Which families lie over which members: those over different orbits are apart, and each extension is in the list.
use Rattle.std.proofs.Common.{◌≡◌, sym, ◌∙◌, ℕ, ◌<◌, ◌⊎◌, inl, inr, arith}
use Rattle.irr_algebra.specs.Field.{Field}
use Rattle.irr_algebra.specs.Fin.{Fin, to_nat}
use Rattle.irr_algebra.specs.Action.{Equivalent}
use Rattle.irr_algebra.proofs.Indices.{same_or_not}
use Rattle.irr_algebra.proofs.Rank.{left_inverse-le}
use Rattle.irr_algebra.proofs.Actions.{equivalent_refl}
use Rattle.irr_algebra.proofs.Irreducible.{equivalent-size}
use Rattle.irr_theory.specs.Extension.{iterate}
use Rattle.irr_theory.specs.FactorSystem.{FactorSystem, Representation}
use Rattle.irr_theory.specs.Representations.{Representations, IsFull}
use Rattle.irr_theory.proofs.Schur.{simple-irreducible}
use Rattle.irr_theory.proofs.Completeness.{full-member}
use Rattle.irr_clifford.specs.Subgroup.{Subgroup, restrict}
use Rattle.irr_clifford.specs.Cyclic.{CyclicQuotient, IsInduced}
use Rattle.irr_clifford.specs.Climb.{IsClimb}
use Rattle.irr_clifford.proofs.Conjugates.{conjugates}
use Rattle.irr_clifford.proofs.Pieces.{pieces-apart, null-inequivalent}
use Rattle.irr_clifford.proofs.Translates.{induced-restriction}
use Rattle.irr_clifford.proofs.Orbits.{iterate-fixed}
use Rattle.irr_clifford.proofs.Climbed.{extension-restriction, extension_simple, over, positive, piece-null, conjugates_turn, fixed-apart}
use Rattle.irr_clifford.proofs.Squares.{climb_full}

module _ (F : Field) {T : FactorSystem F.ring} {H : Subgroup T} (Q : CyclicQuotient H) (small : (Q.index ≡ 2) ⊎ (Q.index ≡ 3)) (L : Representations H.table) (full : IsFull L)
    (M : Representations T) (h : IsClimb Q L M) where
  pub induced_positive : {e : ℕ} (k : Fin L.count) (E : Representation T e) → IsInduced Q (L.member k) E → 0 < e
  induced_positive k E i = let s = left_inverse-le F i.into i.out i.out-into in let l = full.positive k in omega arith

  -- what is induced from different orbits is not equivalent
  pub induced_apart : {d e : ℕ} (k l : Fin L.count) (D : Representation T d) (E : Representation T e) → IsInduced Q (L.member k) D → IsInduced Q (L.member l) E
      → ((i j : Fin Q.index) → iterate h.turn (to_nat i) k ≡ iterate h.turn (to_nat j) l → ⊥) → Equivalent D.at E.at → ⊥
  unfolding induced-restriction
  induced_apart k l D E p q n = null-inequivalent F D.at E.at (pieces-apart D E (induced-restriction Q D (L.member k) p) (induced-restriction Q E (L.member l) q) (λ i j.
      piece-null F Q small L full M h (conjugates Q (L.member k) (to_nat i)) (conjugates Q (L.member l) (to_nat j)) (iterate h.turn (to_nat i) k) (iterate h.turn (to_nat j) l)
      (conjugates_turn F Q small L full M h k (to_nat i)) (conjugates_turn F Q small L full M h l (to_nat j)) (n i j))) (induced_positive l E q)

  -- each extension of a member that is equivalent to its conjugate is equivalent to one of the list
  pub extension_member : {e : ℕ} (l : Fin L.count) → h.turn l ≡ l → (E : Representation T e) → Equivalent (restrict H E) (L.member l).at
      → (m : Fin M.count) × (h.below m ≡ l) × Equivalent E.at (M.member m).at
  unfolding extension-restriction
  extension_member {e} l f E q = go (full-member F M (climb_full F Q small L full M h) E positive_size (simple-irreducible F E (extension_simple F H (L.member l) E positive_size q (full.simple l))))
    where
      positive_size : 0 < e
      positive_size = let s = equivalent-size F (restrict H E) (L.member l).at q in let i = full.positive l in omega arith

      apart : (m : Fin M.count) → (l ≡ h.below m → ⊥) → Equivalent E.at (M.member m).at → ⊥
      apart m n =
          let o = over F Q small L full M h m in
          null-inequivalent F E.at (M.member m).at (pieces-apart E (M.member m) (extension-restriction (L.member l) E q) o.0 (λ i j.
          piece-null F Q small L full M h (L.member l) (o.0.piece j) l (iterate h.turn (to_nat (o.1 j).0) (h.below m)) (equivalent_refl (L.member l).at) (o.1 j).1
          (λ t. fixed-apart F Q small L full M h l (h.below m) f n (o.1 j).0 (o.1 j).0 (iterate-fixed h.turn (to_nat (o.1 j).0) l f ∙ t)))) (positive F Q small L full M h m)

      go : (m : Fin M.count) × Equivalent E.at (M.member m).at → (m : Fin M.count) × (h.below m ≡ l) × Equivalent E.at (M.member m).at
      go (m, r) = cases (same_or_not l (h.below m))
        where
          cases : (l ≡ h.below m) ⊎ (l ≡ h.below m → ⊥) → (m : Fin M.count) × (h.below m ≡ l) × Equivalent E.at (M.member m).at
          cases (inl s) = (m, sym s, r)
          cases (inr n) = absurd (apart m n r)
