-- The conjugates of the members of a full list, found by their traces.
--
-- conjugate-trace     the traces of the conjugate are those of the family at the conjugate places, with the phases
-- turned_by_traces    a member with the conjugate's traces is equivalent to the conjugate
-- member_with_traces  there is such a member
-- one_with_traces     there is one
use Rattle.std.proofs.Common.{◌≡◌, ℕ}
use Rattle.irr_algebra.specs.Ring.{Ring}
use Rattle.irr_algebra.specs.Field.{Field}
use Rattle.irr_algebra.specs.Fin.{Fin}
use Rattle.irr_algebra.specs.Matrix.{trace}
use Rattle.irr_algebra.specs.Action.{Equivalent}
use Rattle.irr_algebra.proofs.Actions.{equivalent-trace}
use Rattle.irr_algebra.proofs.Matrices.{trace-scale}
use Rattle.irr_theory.specs.FactorSystem.{FactorSystem, Representation}
use Rattle.irr_theory.specs.Representations.{Representations, IsFull}
use Rattle.irr_theory.proofs.Completeness.{full-complete}
use Rattle.irr_theory.proofs.CompleteLists.{same_member}
use Rattle.irr_clifford.specs.Subgroup.{Subgroup}
use Rattle.irr_clifford.specs.Cyclic.{CyclicQuotient, conjugate}
use Rattle.irr_clifford.proofs.Choice.{same_traces}
use Rattle.irr_clifford.proofs.Conjugates.{conjugate_member, conjugate_simple}
use Rattle.irr_clifford.proofs.Representations.{conjugate_family}

pub conjugate-trace : {R : Ring} {T : FactorSystem R} {H : Subgroup T} (Q : CyclicQuotient H) {d : ℕ} (D : Representation H.table d) (n : Fin H.table.places)
    → trace (conjugate Q D n)
    ≡ R.mul (R.mul (T.phase (H.member n) Q.generator) (T.phase-invertible Q.generator (H.member (Q.conj n))).inverse) (trace (D.at (Q.conj n)))
unfolding conjugate
conjugate-trace {R} {T} {H} Q D n = trace-scale R _ (D.at (Q.conj n))

module _ (F : Field) {T : FactorSystem F.ring} {H : Subgroup T} (Q : CyclicQuotient H) (L : Representations H.table) (full : IsFull L) where
  pub turned_by_traces : (l m : Fin L.count) → ((n : Fin H.table.places) → trace (conjugate Q (L.member l) n) ≡ trace ((L.member m).at n))
      → Equivalent (conjugate Q (L.member l)) (L.member m).at
  unfolding conjugate_family
  turned_by_traces l m e = same_traces F (conjugate_family Q (L.member l)) (L.member m) (conjugate_simple F Q (L.member l) (full.positive l) (full.simple l))
      (full.positive m) (full.simple m) e

  pub member_with_traces : (l : Fin L.count) → (m : Fin L.count) × ((n : Fin H.table.places) → trace (conjugate Q (L.member l) n) ≡ trace ((L.member m).at n))
  member_with_traces l =
      let m = conjugate_member F Q L full (L.member l) (full.positive l) (full.simple l) in
      (m.0, equivalent-trace (conjugate Q (L.member l)) (L.member m.0).at m.1)

  pub one_with_traces : (l m k : Fin L.count) → ((n : Fin H.table.places) → trace (conjugate Q (L.member l) n) ≡ trace ((L.member m).at n))
      → ((n : Fin H.table.places) → trace (conjugate Q (L.member l) n) ≡ trace ((L.member k).at n)) → m ≡ k
  unfolding conjugate_family
  one_with_traces l m k e f = same_member L (full-complete F L full) (conjugate_family Q (L.member l)) m k (turned_by_traces l m e) (turned_by_traces l k f)
