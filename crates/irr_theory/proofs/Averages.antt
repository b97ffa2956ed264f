-- Averages over the places of a table.
use Rattle.std.proofs.Common.{◌≡◌, sym, ◌∙◌, ap, refl, ℕ}
use mathlib.Core.Path.{fun_ext}
use Rattle.irr_algebra.specs.Ring.{whole}
use Rattle.irr_algebra.specs.Field.{Field}
use Rattle.irr_algebra.specs.Fin.{Fin}
use Rattle.irr_algebra.specs.Sum.{sum}
use Rattle.irr_algebra.specs.Matrix.{Matrix, ◌·◌, scale, trace, total, single}
use Rattle.irr_algebra.specs.Action.{IsIntertwiner}
use Rattle.irr_algebra.proofs.Fields.{inverse-mul, inverse-mul_left}
use Rattle.irr_algebra.proofs.Sums.{sum-ext, sum_same, sum_swap, mul-sum, sum-mul}
use Rattle.irr_algebra.proofs.Matrices.{mul_assoc, unit-mul, mul-unit, scale-mul, mul-scale, scale-scale, scale-one, trace_comm, trace-scale}
use Rattle.irr_algebra.proofs.Totals.{mul-total, total-mul, total-ext, total_swap, total_same, scale-total, trace-total, mul-single-mul}
use Rattle.irr_theory.specs.FactorSystem.{FactorSystem, Representation}
use Rattle.irr_theory.specs.Traces.{back, trace_sum}
use Rattle.irr_theory.proofs.Inverses.{back-mul, mul-back, back-product-mul, total-shifted, places-ne-zero}

-- the average of B(i) y A(i)⁻¹ over the places
unfoldable pub average : (F : Field) {T : FactorSystem F.ring} {a b : ℕ} → Representation T a → Representation T b → Matrix F.ring b a → Matrix F.ring b a
average F {T} A B y = scale F.ring (F.inverse (whole F.ring T.places)) (total T.places (λ i. B.at i · y · back A i))

-- the average of tr B(i) tr A(i)⁻¹ over the places: the scalar product of the characters
unfoldable pub trace_average : (F : Field) {T : FactorSystem F.ring} {a b : ℕ} → Representation T a → Representation T b → F.Carrier
trace_average F {T} A B = F.mul (F.inverse (whole F.ring T.places)) (trace_sum A B)

module _ (F : Field) where
  open F use {ring as R}

  -- an average is an intertwiner
  pub average-intertwines : {T : FactorSystem R} {a b : ℕ} (A : Representation T a) (B : Representation T b) (y : Matrix R b a) → IsIntertwiner A.at B.at (average F A B y)
  unfolding average
  average-intertwines {T} {a} {b} A B y = record {
    intertwines = λ k.
        simp (mul-scale, scale-mul, mul-total, total-mul) (ap (scale R (F.inverse (whole R T.places)))
        (total-ext T.places (term k) ∙ total-shifted T k (λ i. B.at i · y · back A i · A.at k)));
  }
    where
      term : (k i : Fin T.places) → B.at k · (B.at i · y · back A i) ≡ B.at (T.product k i) · y · back A (T.product k i) · A.at k
      term k i =
          simp (← mul_assoc, B.at-product, scale-mul) (sym (simp (mul_assoc, back-product-mul A, mul-scale) refl))

  -- the trace of an average
  pub trace-average : {T : FactorSystem R} {a : ℕ} (A : Representation T a) (y : Matrix R a a) → trace (average F A A y) ≡ trace y
  unfolding average
  trace-average {T} {a} A y =
      trace-scale R (F.inverse (whole R T.places)) (total T.places (λ i. A.at i · y · back A i))
      ∙ ap (R.mul (F.inverse (whole R T.places))) (trace-total T.places (λ i. A.at i · y · back A i)
      ∙ sum-ext R T.places (λ i. trace (A.at i · y · back A i)) (λ i. trace y) each ∙ sum_same R T.places (trace y))
      ∙ inverse-mul_left F (whole R T.places) (trace y) (places-ne-zero F T)
    where
      each : (i : Fin T.places) → trace (A.at i · y · back A i) ≡ trace y
      each i = trace_comm (A.at i · y) (back A i) ∙ ap trace (sym (mul_assoc (back A i) (A.at i) y) ∙ ap (λ (x : Matrix R a a). x · y) (back-mul A i) ∙ unit-mul y)

  -- an average is linear
  pub average-total : {T : FactorSystem R} {a b : ℕ} (A : Representation T a) (B : Representation T b) (n : ℕ) (y : Fin n → Matrix R b a)
      → average F A B (total n y) ≡ total n (λ k. average F A B (y k))
  unfolding average
  average-total {T} {a} {b} A B n y =
      ap (scale R (F.inverse (whole R T.places))) (total-ext T.places (λ i. ap (λ (m : Matrix R b a). m · back A i) (mul-total n (B.at i) y)
      ∙ total-mul n (λ k. B.at i · y k) (back A i))
      ∙ total_swap T.places n (λ i k. B.at i · y k · back A i))
      ∙ scale-total R n (F.inverse (whole R T.places)) (λ k. total T.places (λ i. B.at i · y k · back A i))

  pub average-scale : {T : FactorSystem R} {a b : ℕ} (A : Representation T a) (B : Representation T b) (s : R.Carrier) (y : Matrix R b a)
      → average F A B (scale R s y) ≡ scale R s (average F A B y)
  unfolding average
  average-scale {T} A B s y =
      ap (scale R (F.inverse (whole R T.places))) (ap (total T.places) (fun_ext (λ i. ap (λ (m : Matrix R _ _). m · back A i) (mul-scale R s (B.at i) y)
      ∙ scale-mul R s (B.at i · y) (back A i)))
      ∙ sym (scale-total R T.places s (λ i. B.at i · y · back A i)))
      ∙ scale-scale R (F.inverse (whole R T.places)) s (total T.places (λ i. B.at i · y · back A i))
      ∙ ap (λ t. scale R t (total T.places (λ i. B.at i · y · back A i))) (R.mul_comm (F.inverse (whole R T.places)) s)
      ∙ sym (scale-scale R s (F.inverse (whole R T.places)) (total T.places (λ i. B.at i · y · back A i)))

  -- it leaves intertwiners as they are
  pub average_of_intertwiner : {T : FactorSystem R} {a b : ℕ} (A : Representation T a) (B : Representation T b) (x : Matrix R b a) → IsIntertwiner A.at B.at x → average F A B x ≡ x
  unfolding average
  average_of_intertwiner {T} {a} {b} A B x f =
      ap (scale R (F.inverse (whole R T.places))) (ap (total T.places) (fun_ext (λ i.
      ap (λ (m : Matrix R b a). m · back A i) (f.intertwines i) ∙ mul_assoc x (A.at i) (back A i) ∙ ap (λ (m : Matrix R a a). x · m) (mul-back A i) ∙ mul-unit x))
      ∙ total_same T.places x)
      ∙ scale-scale R (F.inverse (whole R T.places)) (whole R T.places) x ∙ ap (λ s. scale R s x) (inverse-mul F (whole R T.places) (places-ne-zero F T)) ∙ scale-one x

  -- the trace of the average as a map on matrices
  pub average-trace : {T : FactorSystem R} {a b : ℕ} (A : Representation T a) (B : Representation T b)
      → sum R b (λ i. sum R a (λ j. (average F A B (single i j)).at i j)) ≡ trace_average F A B
  unfolding average trace_average trace_sum total scale trace
  average-trace {T} {a} {b} A B =
      sum-ext R b (λ i. sum R a (λ j. (average F A B (single i j)).at i j)) (λ i. R.mul s (sum R T.places (λ g. R.mul ((B.at g).at i i) (trace (back A g))))) (λ i.
      sum-ext R a (λ j. (average F A B (single i j)).at i j) (λ j. R.mul s (sum R T.places (λ g. R.mul ((B.at g).at i i) ((back A g).at j j)))) (λ j.
      ap (R.mul s) (sum-ext R T.places (λ g. (B.at g · single i j · back A g).at i j) (λ g. R.mul ((B.at g).at i i) ((back A g).at j j)) (λ g. mul-single-mul (B.at g) i j (back A g) i j)))
      ∙ sym (mul-sum R a s (λ j. sum R T.places (λ g. R.mul ((B.at g).at i i) ((back A g).at j j))))
      ∙ ap (R.mul s) (sum_swap R a T.places (λ j g. R.mul ((B.at g).at i i) ((back A g).at j j))
      ∙ sum-ext R T.places (λ g. sum R a (λ j. R.mul ((B.at g).at i i) ((back A g).at j j))) (λ g. R.mul ((B.at g).at i i) (trace (back A g))) (λ g.
      sym (mul-sum R a ((B.at g).at i i) (λ j. (back A g).at j j)))))
      ∙ sym (mul-sum R b s (λ i. sum R T.places (λ g. R.mul ((B.at g).at i i) (trace (back A g)))))
      ∙ ap (R.mul s) (sum_swap R b T.places (λ i g. R.mul ((B.at g).at i i) (trace (back A g)))
      ∙ sum-ext R T.places (λ g. sum R b (λ i. R.mul ((B.at g).at i i) (trace (back A g)))) (λ g. R.mul (trace (B.at g)) (trace (back A g))) (λ g.
      sym (sum-mul R b (λ i. (B.at g).at i i) (trace (back A g)))))
    where
      s : R.Carrier
      s = F.inverse (whole R T.places)

  -- an intertwiner goes through an average
  pub mul-average : {T : FactorSystem R} {a b c : ℕ} (A : Representation T a) (B : Representation T b) (C : Representation T c) (x : Matrix R b a) (y : Matrix R a c)
      → IsIntertwiner A.at B.at x → x · average F C A y ≡ average F C B (x · y)
  unfolding average
  mul-average {T} {a} {b} {c} A B C x y f = simp (mul-scale, mul-total) (ap (scale R (F.inverse (whole R T.places))) (total-ext T.places (λ i.
      sym (mul_assoc x (A.at i · y) (back C i)) ∙ ap (λ (m : Matrix R b c). m · back C i)
      (sym (mul_assoc x (A.at i) y) ∙ ap (λ (m : Matrix R b a). m · y) (sym (f.intertwines i)) ∙ mul_assoc (B.at i) x y))))

  -- the sum is the average times the number of places
  pub total-average : {T : FactorSystem R} {a b : ℕ} (A : Representation T a) (B : Representation T b) (y : Matrix R b a)
      → total T.places (λ g. B.at g · y · back A g) ≡ scale R (whole R T.places) (average F A B y)
  unfolding average
  total-average {T} A B y =
      sym (scale-one (total T.places (λ g. B.at g · y · back A g)))
      ∙ ap (λ s. scale R s (total T.places (λ g. B.at g · y · back A g))) (sym (F.mul-inverse (whole R T.places) (places-ne-zero F T)))
      ∙ sym (scale-scale R (whole R T.places) (F.inverse (whole R T.places)) (total T.places (λ g. B.at g · y · back A g)))
