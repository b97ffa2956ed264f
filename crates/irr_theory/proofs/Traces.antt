-- What the traces of families say.
use Rattle.std.proofs.Common.{◌≡◌, sym, ◌∙◌, ap, ap₂, subst, ℕ, ◌<◌}
use Rattle.irr_algebra.specs.Ring.{whole}
use Rattle.irr_algebra.specs.Field.{Field}
use Rattle.irr_algebra.specs.Fin.{Fin}
use Rattle.irr_algebra.specs.Matrix.{Matrix, ◌·◌, scale, combination, trace, single}
use Rattle.irr_algebra.specs.Action.{Equivalent, HasDimension, IsSimple}
use Rattle.irr_algebra.proofs.Fields.{whole_inj}
use Rattle.irr_algebra.proofs.Sums.{sum-ext}
use Rattle.irr_algebra.proofs.Matrices.{matrix-ext, trace-scale, scale-at}
use Rattle.irr_algebra.proofs.Totals.{combination-at, trace-mul-single}
use Rattle.irr_algebra.proofs.Actions.{equivalent-trace}
use Rattle.irr_theory.specs.FactorSystem.{FactorSystem, Representation}
use Rattle.irr_theory.specs.Traces.{back, trace_sum}
use Rattle.irr_theory.proofs.Averages.{trace_average}
use Rattle.irr_theory.proofs.Dimensions.{dimension-average}
use Rattle.irr_theory.proofs.Existence.{dimension_exists}
use Rattle.irr_theory.proofs.Orthogonality.{cross_sum, cross_sum-simple}

module _ (F : Field) where
  open F use {ring as R}

  -- each matrix is a combination of the inverses of a simple family, by traces
  pub matrix_of_traces : {T : FactorSystem R} {d : ℕ} (A : Representation T d) → 0 < d → IsSimple A.at → (m : Matrix R d d)
      → combination R T.places (λ g. trace (m · A.at g)) (back A) ≡ scale R (R.mul (whole R T.places) (F.inverse (whole R d))) m
  unfolding cross_sum
  matrix_of_traces {T} {d} A l simple m = matrix-ext (λ k j.
      combination-at R T.places (λ g. trace (m · A.at g)) (back A) k j
      ∙ sum-ext R T.places (λ g. R.mul (trace (m · A.at g)) ((back A g).at k j)) (λ g. R.mul (trace (m · A.at g)) (trace (back A g · single j k))) (λ g.
      ap (R.mul (trace (m · A.at g))) (sym (trace-mul-single (back A g) k j)))
      ∙ cross_sum-simple F A l simple m (single j k)
      ∙ ap (R.mul (whole R T.places)) (ap (R.mul (F.inverse (whole R d))) (trace-mul-single m k j))
      ∙ sym (R.mul_assoc (whole R T.places) (F.inverse (whole R d)) (m.at k j))
      ∙ sym (scale-at R (R.mul (whole R T.places) (F.inverse (whole R d))) m k j))

  -- the average of products of traces goes by the traces alone
  pub trace_average-same : {T : FactorSystem R} {a b c d : ℕ} (A : Representation T a) (B : Representation T b) (C : Representation T c) (D : Representation T d)
      → ((i : Fin T.places) → trace (A.at i) ≡ trace (C.at i)) → ((i : Fin T.places) → trace (B.at i) ≡ trace (D.at i)) → trace_average F A B ≡ trace_average F C D
  unfolding trace_average trace_sum back
  trace_average-same {T} A B C D p q = ap (R.mul (F.inverse (whole R T.places))) (sum-ext R T.places
      (λ i. R.mul (trace (B.at i)) (trace (back A i))) (λ i. R.mul (trace (D.at i)) (trace (back C i))) (λ i.
      ap₂ R.mul (q i) (trace-scale R (T.phase-invertible i (T.opposite i)).inverse (A.at (T.opposite i))
      ∙ ap (R.mul (T.phase-invertible i (T.opposite i)).inverse) (p (T.opposite i)) ∙ sym (trace-scale R (T.phase-invertible i (T.opposite i)).inverse (C.at (T.opposite i))))))

  -- dimensions go by the traces alone
  pub dimension-same : {T : FactorSystem R} {a b c d n : ℕ} (A : Representation T a) (B : Representation T b) (C : Representation T c) (D : Representation T d)
      → ((i : Fin T.places) → trace (A.at i) ≡ trace (C.at i)) → ((i : Fin T.places) → trace (B.at i) ≡ trace (D.at i)) → HasDimension A.at B.at n → HasDimension C.at D.at n
  dimension-same {T} {a} {b} {c} {d} {n} A B C D p q h =
      let k = dimension_exists F C D in
      subst (λ m. HasDimension C.at D.at m) (whole_inj F k.0 n (dimension-average F C D k.1 ∙ sym (trace_average-same A B C D p q) ∙ sym (dimension-average F A B h))) k.1

  -- a family equivalent to a simple one is simple
  pub simple-equivalent_family : {T : FactorSystem R} {a b : ℕ} (A : Representation T a) (B : Representation T b) → Equivalent A.at B.at → IsSimple B.at → IsSimple A.at
  simple-equivalent_family A B e h = dimension-same B B A A (λ i. sym (equivalent-trace A.at B.at e i)) (λ i. sym (equivalent-trace A.at B.at e i)) h
