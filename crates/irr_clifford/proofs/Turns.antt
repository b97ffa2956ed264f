-- The conjugates of the members of a full list, as members.
use Rattle.std.proofs.Common.{◌≡◌, ℕ, zero, suc}
use Rattle.irr_algebra.specs.Field.{Field}
use Rattle.irr_algebra.specs.Fin.{Fin}
use Rattle.irr_algebra.specs.Action.{Equivalent}
use Rattle.irr_algebra.proofs.Actions.{equivalent_refl, equivalent_trans}
use Rattle.irr_theory.specs.Extension.{iterate}
use Rattle.irr_theory.specs.FactorSystem.{FactorSystem}
use Rattle.irr_theory.specs.Representations.{Representations, IsFull}
use Rattle.irr_theory.proofs.Completeness.{full-complete}
use Rattle.irr_theory.proofs.CompleteLists.{same_member}
use Rattle.irr_clifford.specs.Subgroup.{Subgroup}
use Rattle.irr_clifford.specs.Cyclic.{CyclicQuotient, conjugate}
use Rattle.irr_clifford.proofs.Representations.{conjugate_family}
use Rattle.irr_clifford.proofs.Conjugates.{conjugates, conjugate_equivalent, conjugates_period}

module _ (F : Field) {T : FactorSystem F.ring} {H : Subgroup T} (Q : CyclicQuotient H) (L : Representations H.table)
    (turn : Fin L.count → Fin L.count) (turns : (l : Fin L.count) → Equivalent (conjugate Q (L.member l)) (L.member (turn l)).at) where
  pub turned_conjugates : (l : Fin L.count) (a : ℕ) → Equivalent (conjugates Q (L.member l) a).at (L.member (iterate turn a l)).at
  unfolding conjugates iterate conjugate_family
  turned_conjugates l zero = equivalent_refl (L.member l).at
  turned_conjugates l (suc a) = equivalent_trans (conjugate Q (conjugates Q (L.member l) a)) (conjugate Q (L.member (iterate turn a l))) (L.member (turn (iterate turn a l))).at
      (conjugate_equivalent Q (conjugates Q (L.member l) a) (L.member (iterate turn a l)) (turned_conjugates l a)) (turns (iterate turn a l))

  -- after `index` turns a member comes back
  pub turned_period : IsFull L → (l : Fin L.count) → iterate turn Q.index l ≡ l
  turned_period full l = same_member L (full-complete F L full) (conjugates Q (L.member l) Q.index) (iterate turn Q.index l) l (turned_conjugates l Q.index) (conjugates_period Q (L.member l))
