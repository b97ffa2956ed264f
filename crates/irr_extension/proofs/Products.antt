-- Products of traces as sums over the members of a subgroup.
--   lifted-sandwich: the matrix at x n y n^-1
--   product_of_traces: h tr E(x) tr E(y) is d times the sum of tr E(x n y n^-1)
use Rattle.std.proofs.Common.{◌≡◌, sym, ◌∙◌, ap, ap₂, refl, ℕ, ◌<◌}
use mathlib.Core.Path.{fun_ext}
use Rattle.irr_algebra.specs.Ring.{Ring, whole}
use Rattle.irr_algebra.specs.Field.{Field}
use Rattle.irr_algebra.specs.Fin.{Fin}
use Rattle.irr_algebra.specs.Sum.{sum}
use Rattle.irr_algebra.specs.Matrix.{Matrix, ◌·◌, scale, trace, unit}
use Rattle.irr_algebra.specs.Action.{IsSimple}
use Rattle.irr_algebra.proofs.Rings.{mul_left_comm, one-mul}
use Rattle.irr_algebra.proofs.Fields.{whole-ne-zero}
use Rattle.irr_algebra.proofs.Matrices.{mul-scale, mul-unit, mul_assoc, trace-scale, unit-mul}
use Rattle.irr_algebra.proofs.Sums.{sum-ext}
use Rattle.irr_algebra.proofs.Totals.{mul-total, trace-total}
use Rattle.irr_theory.specs.FactorSystem.{FactorSystem, Representation}
use Rattle.irr_theory.specs.Lifted.{Lifted, lifted, lifted_product}
use Rattle.irr_theory.specs.Traces.{back}
use Rattle.irr_theory.proofs.Averages.{total-average}
use Rattle.irr_theory.proofs.Inverses.{back-mul, mul-back}
use Rattle.irr_theory.proofs.Lifted.{lifted-multiplies}
use Rattle.irr_theory.proofs.Schur.{simple-average}
use Rattle.irr_eigen.specs.Step.{at_place}
use Rattle.irr_clifford.specs.Subgroup.{Subgroup}
use Rattle.irr_clifford.proofs.Representations.{lifted-bare}
use Rattle.irr_extension.specs.Product.{opposite_of, sandwich}

module _ {R : Ring} {T : FactorSystem R} {d : ℕ} (E : Representation T d) where
  lifted-opposite : (n : Fin T.places) → lifted E (opposite_of T n) ≡ back E n
  unfolding lifted opposite_of back
  lifted-opposite n = refl

  pub lifted-sandwich : (x : Lifted T) (n : Fin T.places) (y : Lifted T) → lifted E (sandwich T x n y) ≡ lifted E x · (E.at n · lifted E y · back E n)
  unfolding sandwich
  lifted-sandwich x n y =
      sym (lifted-multiplies E (lifted_product (lifted_product x (at_place T n)) y) (opposite_of T n))
      ∙ ap₂ (λ (a b : Matrix R d d). a · b)
      (sym (lifted-multiplies E (lifted_product x (at_place T n)) y) ∙ ap (λ (a : Matrix R d d). a · lifted E y)
      (sym (lifted-multiplies E x (at_place T n)) ∙ ap (λ (a : Matrix R d d). lifted E x · a) (lifted-bare E n)))
      (lifted-opposite n)
      ∙ ap (λ (a : Matrix R d d). a · back E n) (mul_assoc (lifted E x) (E.at n) (lifted E y)) ∙ mul_assoc (lifted E x) (E.at n · lifted E y) (back E n)

module _ (F : Field) {T : FactorSystem F.ring} (H : Subgroup T) {d : ℕ} (D : Representation H.table d) (E : Representation T d) (l : 0 < d)
    (simple : IsSimple D.at)
    (extends : (n : Fin H.table.places) → E.at (H.member n) ≡ D.at n) where
  open F use {ring as R}

  back-member : (n : Fin H.table.places) → back E (H.member n) ≡ back D n
  back-member n =
      sym (mul-unit (back E (H.member n))) ∙ ap (λ (a : Matrix R d d). back E (H.member n) · a) (sym (mul-back D n)
      ∙ ap (λ (a : Matrix R d d). a · back D n) (sym (extends n)))
      ∙ sym (mul_assoc (back E (H.member n)) (E.at (H.member n)) (back D n)) ∙ ap (λ (a : Matrix R d d). a · back D n) (back-mul E (H.member n))
      ∙ unit-mul (back D n)

  -- the matrices x D(n) y D(n)^-1, added up
  sandwich-total : (x y : Matrix R d d) → sum R H.table.places (λ n. trace (x · (D.at n · y · back D n)))
      ≡ R.mul (whole R H.table.places) (R.mul (R.mul (trace y) (F.inverse (whole R d))) (trace x))
  sandwich-total x y =
      let c : R.Carrier = R.mul (trace y) (F.inverse (whole R d)) in
      sym (trace-total H.table.places (λ n. x · (D.at n · y · back D n)))
      ∙ ap trace (sym (mul-total H.table.places x (λ n. D.at n · y · back D n))
      ∙ ap (λ (a : Matrix R d d). x · a) (total-average F D D y ∙ ap (scale R (whole R H.table.places)) (simple-average F D l simple y))
      ∙ mul-scale R (whole R H.table.places) x (scale R c (unit R d))
      ∙ ap (scale R (whole R H.table.places)) (mul-scale R c x (unit R d) ∙ ap (scale R c) (mul-unit x)))
      ∙ trace-scale R (whole R H.table.places) (scale R c x) ∙ ap (R.mul (whole R H.table.places)) (trace-scale R c x)

  size_out : (k h x y i : R.Carrier) → R.mul k i ≡ R.one → R.mul h (R.mul x y) ≡ R.mul k (R.mul h (R.mul (R.mul y i) x))
  size_out k h x y i e = sym (one-mul R (R.mul h (R.mul x y))) ∙ ap (λ o. R.mul o (R.mul h (R.mul x y))) (sym e) ∙ sorted k h x y i
    where
      sorted : (k h x y i : R.Carrier) → R.mul (R.mul k i) (R.mul h (R.mul x y)) ≡ R.mul k (R.mul h (R.mul (R.mul y i) x))
      sorted k h x y i = simp (R.mul_assoc, mul_left_comm R, R.mul_comm)

  pub product_of_traces : (x y : Lifted T) → R.mul (whole R H.table.places) (R.mul (trace (lifted E x)) (trace (lifted E y)))
      ≡ R.mul (whole R d) (sum R H.table.places (λ n. trace (lifted E (sandwich T x (H.member n) y))))
  product_of_traces x y =
      size_out (whole R d) (whole R H.table.places) (trace (lifted E x)) (trace (lifted E y)) (F.inverse (whole R d))
      (F.mul-inverse (whole R d) (whole-ne-zero F d l))
      ∙ ap (R.mul (whole R d)) (sym (sandwich-total (lifted E x) (lifted E y))
      ∙ sum-ext R H.table.places (λ n. trace (lifted E x · (D.at n · lifted E y · back D n))) (λ n. trace (lifted E (sandwich T x (H.member n) y))) (λ n.
      ap trace (ap₂ (λ (a b : Matrix R d d). lifted E x · (a · lifted E y · b)) (sym (extends n)) (sym (back-member n))
      ∙ sym (lifted-sandwich E x (H.member n) y))))

  pub product_at_places : (x y : Fin T.places) → R.mul (whole R H.table.places) (R.mul (trace (E.at x)) (trace (E.at y)))
      ≡ R.mul (whole R d) (sum R H.table.places (λ n. R.mul
      (sandwich T (at_place T x) (H.member n) (at_place T y)).number (trace (E.at (sandwich T (at_place T x) (H.member n) (at_place T y)).place))))
  unfolding lifted
  product_at_places x y =
      ap₂ (λ a b. R.mul (whole R H.table.places) (R.mul (trace a) (trace b))) (sym (lifted-bare E x)) (sym (lifted-bare E y))
      ∙ product_of_traces (at_place T x) (at_place T y)
      ∙ ap (R.mul (whole R d)) (ap (sum R H.table.places) (fun_ext (λ n.
      trace-scale R (sandwich T (at_place T x) (H.member n) (at_place T y)).number (E.at (sandwich T (at_place T x) (H.member n) (at_place T y)).place))))
