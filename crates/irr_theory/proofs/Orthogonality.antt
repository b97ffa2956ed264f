-- The orthogonality relations of the matrix entries of simple families.
use Rattle.std.proofs.Common.{◌≡◌, sym, ◌∙◌, ap, ℕ, ◌<◌}
use mathlib.Core.Path.{fun_ext}
use Rattle.irr_algebra.specs.Ring.{Ring, whole}
use Rattle.irr_algebra.specs.Field.{Field}
use Rattle.irr_algebra.specs.Fin.{Fin}
use Rattle.irr_algebra.specs.Sum.{sum, delta}
use Rattle.irr_algebra.specs.Matrix.{Matrix, ◌·◌, scale, unit, null, trace, total, single}
use Rattle.irr_algebra.specs.Action.{IsSimple}
use Rattle.irr_algebra.proofs.Rings.{mul-zero, mul_left_comm}
use Rattle.irr_algebra.proofs.Sums.{sum-ext, sum-zero, mul-sum, sum_swap, sum-delta}
use Rattle.irr_algebra.proofs.Matrices.{mul_assoc, mul-unit, mul-null, null-mul, mul-scale, scale-mul, entry_of_null, scale-at}
use Rattle.irr_algebra.proofs.Totals.{mul-total, total-mul, total-at, trace-single, trace-mul-trace}
use Rattle.irr_theory.specs.FactorSystem.{FactorSystem, Representation}
use Rattle.irr_theory.specs.Traces.{back}
use Rattle.irr_theory.proofs.Averages.{average, total-average}
use Rattle.irr_theory.proofs.Schur.{simple-average}

-- the sum over the places of tr(u B(i)) tr(A(i)⁻¹ v)
unfoldable pub cross_sum : {R : Ring} {T : FactorSystem R} {a b : ℕ} → Representation T a → Representation T b → Matrix R b b → Matrix R a a → R.Carrier
cross_sum {R} {T} A B u v = sum R T.places (λ i. R.mul (trace (u · B.at i)) (trace (back A i · v)))

module _ (F : Field) where
  open F use {ring as R}

  -- the sum by averages of the matrices of one entry
  pub cross_sum-average : {T : FactorSystem R} {a b : ℕ} (A : Representation T a) (B : Representation T b) (u : Matrix R b b) (v : Matrix R a a)
      → cross_sum A B u v ≡ sum R b (λ i. sum R a (λ k. R.mul (whole R T.places) ((u · average F A B (single i k) · v).at i k)))
  unfolding cross_sum
  cross_sum-average {T} {a} {b} A B u v =
      sum-ext R T.places (λ g. R.mul (trace (u · B.at g)) (trace (back A g · v))) (λ g. sum R b (λ i. sum R a (λ k. (u · B.at g · single i k · (back A g · v)).at i k)))
      (λ g. trace-mul-trace (u · B.at g) (back A g · v))
      ∙ sum_swap R T.places b (λ g i. sum R a (λ k. (u · B.at g · single i k · (back A g · v)).at i k))
      ∙ sum-ext R b (λ i. sum R T.places (λ g. sum R a (λ k. (u · B.at g · single i k · (back A g · v)).at i k)))
      (λ i. sum R a (λ k. R.mul (whole R T.places) ((u · average F A B (single i k) · v).at i k))) (λ i.
      sum_swap R T.places a (λ g k. (u · B.at g · single i k · (back A g · v)).at i k)
      ∙ sum-ext R a (λ k. sum R T.places (λ g. (u · B.at g · single i k · (back A g · v)).at i k))
      (λ k. R.mul (whole R T.places) ((u · average F A B (single i k) · v).at i k)) (λ k. entry i k))
    where
      inner : (y : Matrix R b a) → total T.places (λ g. u · B.at g · y · (back A g · v)) ≡ scale R (whole R T.places) (u · average F A B y · v)
      inner y =
          ap (total T.places) (fun_ext (λ g. simp mul_assoc))
          ∙ sym (total-mul T.places (λ g. u · (B.at g · y · back A g)) v)
          ∙ ap (λ (m : Matrix R b a). m · v) (sym (mul-total T.places u (λ g. B.at g · y · back A g)) ∙ ap (λ (m : Matrix R b a). u · m) (total-average F A B y) ∙ mul-scale R (whole R T.places) u (average F A B y))
          ∙ scale-mul R (whole R T.places) (u · average F A B y) v

      entry : (i : Fin b) (k : Fin a) → sum R T.places (λ g. (u · B.at g · single i k · (back A g · v)).at i k) ≡ R.mul (whole R T.places) ((u · average F A B (single i k) · v).at i k)
      entry i k = sym (total-at T.places (λ g. u · B.at g · single i k · (back A g · v)) i k) ∙ ap (λ (m : Matrix R b a). m.at i k) (inner (single i k))
          ∙ scale-at R (whole R T.places) (u · average F A B (single i k) · v) i k

  -- with no intertwiner between them the sum is 0
  pub cross_sum-null : {T : FactorSystem R} {a b : ℕ} (A : Representation T a) (B : Representation T b) (u : Matrix R b b) (v : Matrix R a a)
      → ((i : Fin b) (k : Fin a) → average F A B (single i k) ≡ null) → cross_sum A B u v ≡ R.zero
  cross_sum-null {T} {a} {b} A B u v h =
      cross_sum-average A B u v
      ∙ sum-ext R b (λ i. sum R a (λ k. R.mul (whole R T.places) ((u · average F A B (single i k) · v).at i k))) (λ i. R.zero) (λ i.
      sum-ext R a (λ k. R.mul (whole R T.places) ((u · average F A B (single i k) · v).at i k)) (λ k. R.zero) (λ k.
      ap (R.mul (whole R T.places)) (entry_of_null i k (ap (λ (m : Matrix R b a). u · m · v) (h i k) ∙ ap (λ (m : Matrix R b a). m · v) (mul-null u) ∙ null-mul v))
      ∙ mul-zero R (whole R T.places))
      ∙ sum-zero R a)
      ∙ sum-zero R b

  -- over one simple family it is a trace
  pub cross_sum-simple : {T : FactorSystem R} {a : ℕ} (A : Representation T a) → 0 < a → IsSimple A.at → (u v : Matrix R a a)
      → cross_sum A A u v ≡ R.mul (whole R T.places) (R.mul (F.inverse (whole R a)) (trace (u · v)))
  unfolding trace
  cross_sum-simple {T} {a} A l simple u v =
      cross_sum-average A A u v
      ∙ sum-ext R a (λ i. sum R a (λ k. R.mul h ((u · average F A A (single i k) · v).at i k))) (λ i. R.mul h (R.mul s ((u · v).at i i))) (λ i.
      sum-ext R a (λ k. R.mul h ((u · average F A A (single i k) · v).at i k)) (λ k. R.mul (delta R i k) (R.mul h (R.mul s ((u · v).at i k)))) (λ k. entry i k)
      ∙ sum-delta R a i (λ k. R.mul h (R.mul s ((u · v).at i k))))
      ∙ sym (mul-sum R a h (λ i. R.mul s ((u · v).at i i))) ∙ ap (R.mul h) (sym (mul-sum R a s (λ i. (u · v).at i i)))
    where
      h : R.Carrier
      h = whole R T.places

      s : R.Carrier
      s = F.inverse (whole R a)

      entry : (i k : Fin a) → R.mul h ((u · average F A A (single i k) · v).at i k) ≡ R.mul (delta R i k) (R.mul h (R.mul s ((u · v).at i k)))
      entry i k =
          ap (R.mul h) (ap (λ (m : Matrix R a a). m.at i k) (ap (λ (m : Matrix R a a). u · m · v) (simple-average F A l simple (single i k))
          ∙ ap (λ (m : Matrix R a a). m · v) (mul-scale R (R.mul (trace (single i k)) s) u (unit R a) ∙ ap (scale R (R.mul (trace (single i k)) s)) (mul-unit u))
          ∙ scale-mul R (R.mul (trace (single i k)) s) u v)
          ∙ scale-at R (R.mul (trace (single i k)) s) (u · v) i k
          ∙ ap (λ x. R.mul (R.mul x s) ((u · v).at i k)) (trace-single R i k) ∙ R.mul_assoc (delta R i k) s ((u · v).at i k))
          ∙ mul_left_comm R h (delta R i k) (R.mul s ((u · v).at i k))
