-- Products of traces at places of the coset of the generator, by the character of the subgroup.
--   product_of_two: for the index 2
--   product_of_three: for the index 3
use Rattle.std.proofs.Common.{◌≡◌, sym, ◌∙◌, ap, ap₂, subst, ℕ, ◌<◌}
use Rattle.irr_algebra.specs.Ring.{Ring, whole}
use Rattle.irr_algebra.specs.Field.{Field}
use Rattle.irr_algebra.specs.Fin.{Fin}
use Rattle.irr_algebra.specs.Sum.{sum}
use Rattle.irr_algebra.specs.Matrix.{trace}
use Rattle.irr_algebra.specs.Action.{IsSimple}
use Rattle.irr_algebra.proofs.Rings.{mul_left_comm}
use Rattle.irr_algebra.proofs.Matrices.{trace-scale}
use Rattle.irr_algebra.proofs.Sums.{mul-sum, sum-ext}
use Rattle.irr_theory.specs.FactorSystem.{FactorSystem, Representation}
use Rattle.irr_theory.specs.Lifted.{Lifted, lifted}
use Rattle.irr_eigen.specs.Step.{at_place}
use Rattle.irr_clifford.specs.Subgroup.{Subgroup}
use Rattle.irr_clifford.specs.Cyclic.{CyclicQuotient}
use Rattle.irr_clifford.proofs.Representations.{lifted-bare}
use Rattle.irr_extension.specs.Product.{sandwich, three_sum, two_sum, value_at}
use Rattle.irr_extension.proofs.Cosets.{IsInCoset, coset-generator, coset-sandwich, coset-whole}
use Rattle.irr_extension.proofs.Products.{product_of_traces}

module _ {R : Ring} {T : FactorSystem R} {H : Subgroup T} (Q : CyclicQuotient H) {d : ℕ} (D : Representation H.table d) (E : Representation T d)
    (extends : (n : Fin H.table.places) → E.at (H.member n) ≡ D.at n)
    (position : Fin T.places → Fin H.table.places) (at_member : (n : Fin H.table.places) → position (H.member n) ≡ n) where
  trace-inside : (z : Lifted T) → IsInCoset Q Q.index z.place → trace (lifted E z) ≡ value_at H (λ k. trace (D.at k)) position z
  unfolding lifted value_at
  trace-inside z inside_coset =
      let v = coset-whole Q z.place inside_coset in
      trace-scale R z.number (E.at z.place)
      ∙ ap (R.mul z.number) (ap trace (ap E.at v.1 ∙ extends v.0) ∙ ap (λ k. trace (D.at k)) (sym (at_member v.0) ∙ ap position (sym v.1)))

module _ (F : Field) {T : FactorSystem F.ring} {H : Subgroup T} (Q : CyclicQuotient H) {d : ℕ} (D : Representation H.table d) (E : Representation T d)
    (l : 0 < d) (simple : IsSimple D.at) (extends : (n : Fin H.table.places) → E.at (H.member n) ≡ D.at n)
    (position : Fin T.places → Fin H.table.places) (at_member : (n : Fin H.table.places) → position (H.member n) ≡ n) where
  open F use {ring as R}

  pub product_of_two : Q.index ≡ 2 → (n m : Fin H.table.places)
      → R.mul (whole R H.table.places) (R.mul (trace (E.at (T.product Q.generator (H.member n)))) (trace (E.at (T.product Q.generator (H.member m)))))
      ≡ R.mul (whole R d) (two_sum H (λ k. trace (D.at k)) position (T.product Q.generator (H.member n)) (T.product Q.generator (H.member m)))
  unfolding two_sum
  product_of_two two n m =
      ap (R.mul (whole R H.table.places)) (ap₂ R.mul (ap trace (sym (lifted-bare E x))) (ap trace (sym (lifted-bare E y))))
      ∙ product_of_traces F H D E l simple extends (at_place T x) (at_place T y)
      ∙ ap (R.mul (whole R d)) (sum-ext R H.table.places (λ k. trace (lifted E (sandwich T (at_place T x) (H.member k) (at_place T y))))
      (λ k. value_at H (λ i. trace (D.at i)) position (sandwich T (at_place T x) (H.member k) (at_place T y))) (λ k.
      trace-inside Q D E extends position at_member (sandwich T (at_place T x) (H.member k) (at_place T y))
      (subst (λ e. IsInCoset Q e (sandwich T (at_place T x) (H.member k) (at_place T y)).place) (sym two)
      (coset-sandwich Q 1 1 (at_place T x) (at_place T y) k (coset-generator Q n) (coset-generator Q m)))))
    where
      x : Fin T.places
      x = T.product Q.generator (H.member n)

      y : Fin T.places
      y = T.product Q.generator (H.member m)

  pub product_of_three : Q.index ≡ 3 → (n m : Fin H.table.places)
      → R.mul (R.mul (whole R H.table.places) (whole R H.table.places))
      (R.mul (trace (E.at (T.product Q.generator (H.member n))))
      (R.mul (trace (E.at (T.product Q.generator (H.member m)))) (trace (E.at (T.product Q.generator (H.member m))))))
      ≡ R.mul (R.mul (whole R d) (whole R d)) (three_sum H (λ k. trace (D.at k)) position
      (T.product Q.generator (H.member n)) (T.product Q.generator (H.member m)))
  unfolding three_sum
  product_of_three three n m =
      ap (R.mul (R.mul h h)) (ap₂ (λ a b. R.mul a (R.mul b b)) (ap trace (sym (lifted-bare E x))) (ap trace (sym (lifted-bare E y))))
      ∙ regrouped h (trace (lifted E X)) (R.mul (trace (lifted E Y)) (trace (lifted E Y)))
      ∙ ap (R.mul (R.mul h (trace (lifted E X)))) (product_of_traces F H D E l simple extends Y Y)
      ∙ outside h (trace (lifted E X)) (whole R d) (sum R H.table.places (λ i. trace (lifted E (inner i))))
      ∙ ap (R.mul (whole R d)) (mul-sum R H.table.places (R.mul h (trace (lifted E X))) (λ i. trace (lifted E (inner i)))
      ∙ sum-ext R H.table.places (λ i. R.mul (R.mul h (trace (lifted E X))) (trace (lifted E (inner i))))
      (λ i. R.mul (whole R d) (sum R H.table.places (λ j. value_at H (λ k. trace (D.at k)) position (sandwich T X (H.member j) (inner i))))) outer
      ∙ sym (mul-sum R H.table.places (whole R d)
      (λ i. sum R H.table.places (λ j. value_at H (λ k. trace (D.at k)) position (sandwich T X (H.member j) (inner i))))))
      ∙ sym (R.mul_assoc (whole R d) (whole R d)
      (sum R H.table.places (λ i. sum R H.table.places (λ j. value_at H (λ k. trace (D.at k)) position (sandwich T X (H.member j) (inner i))))))
    where
      h : R.Carrier
      h = whole R H.table.places

      x : Fin T.places
      x = T.product Q.generator (H.member n)

      y : Fin T.places
      y = T.product Q.generator (H.member m)

      X : Lifted T
      X = at_place T x

      Y : Lifted T
      Y = at_place T y

      inner : Fin H.table.places → Lifted T
      inner i = sandwich T Y (H.member i) Y

      regrouped : (h a b : R.Carrier) → R.mul (R.mul h h) (R.mul a b) ≡ R.mul (R.mul h a) (R.mul h b)
      regrouped h a b = simp (R.mul_assoc, mul_left_comm R)

      outside : (h a k s : R.Carrier) → R.mul (R.mul h a) (R.mul k s) ≡ R.mul k (R.mul (R.mul h a) s)
      outside h a k s = mul_left_comm R (R.mul h a) k s

      inside_index : (i j : Fin H.table.places) → IsInCoset Q Q.index (sandwich T X (H.member j) (inner i)).place
      inside_index i j = subst (λ e. IsInCoset Q e (sandwich T X (H.member j) (inner i)).place) (sym three)
          (coset-sandwich Q 1 2 X (inner i) j (coset-generator Q n) (coset-sandwich Q 1 1 Y Y i (coset-generator Q m) (coset-generator Q m)))

      outer : (i : Fin H.table.places) → R.mul (R.mul h (trace (lifted E X))) (trace (lifted E (inner i)))
          ≡ R.mul (whole R d) (sum R H.table.places (λ j. value_at H (λ k. trace (D.at k)) position (sandwich T X (H.member j) (inner i))))
      outer i =
          R.mul_assoc h (trace (lifted E X)) (trace (lifted E (inner i))) ∙ product_of_traces F H D E l simple extends X (inner i)
          ∙ ap (R.mul (whole R d)) (sum-ext R H.table.places (λ j. trace (lifted E (sandwich T X (H.member j) (inner i))))
          (λ j. value_at H (λ k. trace (D.at k)) position (sandwich T X (H.member j) (inner i))) (λ j.
          trace-inside Q D E extends position at_member (sandwich T X (H.member j) (inner i)) (inside_index i j)))
