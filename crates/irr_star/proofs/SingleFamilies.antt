-- Families of matrices of one row whose entries are powers of z, for the tests.
--   checkable            such a family can be checked
--   represented          where no defect is found, it is a small representation
--   small_singles        a small one
use Rattle.std.proofs.Common.{◌≡◌, sym, subst, refl, ℕ, ◌<◌, ◌^◌, List, length, Option, None, arith}
use Rattle.std.specs.Int.{◌∣◌}
use Rattle.irr_algebra.specs.Fin.{Fin, to_nat}
use Rattle.irr_algebra.proofs.Indices.{to_nat-lt}
use Rattle.irr_cyc.specs.declared.scalars.Scalar.{Ghosts}
use Rattle.irr_mat.specs.declared.matrices.Mat.{Mat}
use Rattle.irr_mat.specs.Entries.{matrix_of}
use Rattle.irr_mat.specs.Size.{IsWithin}
use Rattle.irr_mat.proofs.Bounds.{within-more}
use Rattle.irr_space.specs.PhaseTable.{PhaseTable}
use Rattle.irr_rep.specs.Defects.{IsCheckable, IsFirstDefect, IsLimited}
use Rattle.irr_rep.specs.declared.family.Defect.{Defect}
use Rattle.irr_rep.specs.declared.family.Family.{Family}
use Rattle.irr_rep.specs.Family.{HasShape, IsRepresentationOf, matrix_at, representation}
use Rattle.irr_rep.proofs.Families.{matrix_at-item, representation-at}
use Rattle.irr_rep.proofs.SingleEntries.{SinglesSoFar, item}
use Rattle.irr_star.specs.Sizes.{IsSmallFamily}

module _ {S : Type 0} {G : Ghosts S} {h : ℕ} (T : PhaseTable h) (n : ℕ) (v : T.order ∣ n) (mats : List (Mat S G))
    (s : SinglesSoFar n h mats) where
  within : (i : Fin h) → IsWithin n 1 1 (matrix_at n 1 mats i)
  within i =
      let l : to_nat i < length mats = subst (λ k. to_nat i < k) (sym s.count) (to_nat-lt i) in
      let m = item mats (to_nat i) l in
      subst (IsWithin n 1 1) (sym (matrix_at-item n 1 mats (to_nat i) m.0 l m.1 i refl))
      (subst (λ u. IsWithin n 1 1 (matrix_of G.value n 1 1 u.entries.items)) (sym m.1)
      (s.single (to_nat i) m.0 l).within)

  shape : HasShape n h 1 mats
  shape = record {
    count = s.count;
    positive = omega arith;
    rows = λ k d l. (s.single k d l).rows;
    cols = λ k d l. (s.single k d l).cols;
    orders = λ k d l. (s.single k d l).order;
  }

  pub limits : IsLimited n h 1 1 mats
  limits = record {
    shape = shape;
    few = omega arith;
    limited = omega arith;
    within = λ i. within-more n 1 1 1 (2 ^ 30) 1 (matrix_at n 1 mats i) (omega arith) (within i);
  }

  abbrev pub checkable : IsCheckable T 1 mats
  checkable = record { n = n; divides = v; denominator = 1; limits = limits }

  pub represented : (r : Option Defect) → r ≡ None → IsFirstDefect T n v 1 mats r → IsRepresentationOf T n v 1 mats
  unfolding IsFirstDefect
  represented r e is = subst (IsFirstDefect T n v 1 mats) e is

  pub small_singles : (p : IsRepresentationOf T n v 1 mats) (f : Family S G) → f.dim ≡ 1 → f.mats.items ≡ mats
      → IsSmallFamily n (representation T n v 1 mats p).at f
  small_singles p f e same = record {
    size = e;
    shape = subst (HasShape n h 1) (sym same) shape;
    matrices = λ i. subst (λ ms. matrix_at n 1 ms i ≡ (representation T n v 1 mats p).at i) (sym same)
        (sym (representation-at T n v 1 mats p i));
    few = omega arith;
    denominator = 1;
    small = omega arith;
    entries = λ i. subst (IsWithin n 13824 1) (sym (representation-at T n v 1 mats p i))
        (within-more n 1 1 1 13824 1 (matrix_at n 1 mats i) (omega arith) (within i));
  }
