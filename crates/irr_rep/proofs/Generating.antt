-- What holds of generators of a table, and of products where it holds of factors, holds of each place.
--   every_place              a set with the unit, the generators and the products of its places has every place
--   start_row, product_row   the rows in which the products of matrices are right have the unit, and products of places
--   all_rows                 so they are all rows where those of generators are right
use Rattle.std.proofs.Common.{◌≡◌, sym, ◌∙◌, ap, ap₂, ℕ, List, Contains}
use Rattle.std.specs.Int.{◌∣◌}
use Rattle.irr_algebra.specs.Fin.{Fin, to_nat}
use Rattle.irr_algebra.specs.Matrix.{Matrix, ◌·◌, scale, unit}
use Rattle.irr_algebra.specs.Ring.{Ring, IsInvertible}
use Rattle.irr_algebra.proofs.Matrices.{mul-scale, mul_assoc, scale-mul, scale-one, scale-scale, unit-mul}
use Rattle.irr_number.specs.Number.{numbers}
use Rattle.irr_theory.specs.FactorSystem.{FactorSystem}
use Rattle.irr_space.specs.PhaseTable.{PhaseTable, phases_over}
use Rattle.irr_cyc.specs.declared.scalars.Scalar.{Ghosts}
use Rattle.irr_mat.specs.declared.matrices.Mat.{Mat}
use Rattle.irr_rep.specs.Defects.{Multiplies}
use Rattle.irr_rep.specs.Family.{matrix_at}
use Rattle.irr_rep.specs.Generators.{Generate, IsReached}
use Rattle.irr_rep.specs.Generators.IsReached.{unit as reached_unit, product as reached_product}

module _ {h : ℕ} (T : PhaseTable h) (generators : List ℕ) (P : Fin h → Type 0) (start : P T.start)
    (products : (i j : Fin h) → P i → P j → P (T.product i j)) (given : (g : Fin h) → Contains generators (to_nat g) → P g) where
  reached_place : (i : Fin h) → IsReached T generators i → P i
  reached_place i reached_unit = start
  reached_place i (reached_product {i = k} {g = g} r c) = products k g (reached_place k r) (given g c)

  pub every_place : Generate T generators → (i : Fin h) → P i
  every_place all i = reached_place i (all i)

-- an invertible factor is taken from both sides
scale-cancel : (R : Ring) {m n : ℕ} (x : R.Carrier) → IsInvertible R x → (a b : Matrix R m n) → scale R x a ≡ scale R x b → a ≡ b
scale-cancel R {m} {n} x v a b e = sym (back a) ∙ ap (scale R v.inverse) e ∙ back b
  where
    back : (c : Matrix R m n) → scale R v.inverse (scale R x c) ≡ c
    back c = scale-scale R v.inverse x c ∙ ap (λ y. scale R y c) (R.mul_comm v.inverse x ∙ v.mul-inverse) ∙ scale-one c

module _ {R : Ring} (T : FactorSystem R) {d : ℕ} (at : Fin T.places → Matrix R d d) where
  -- the products in a row are right
  abbrev pub IsRow : Fin T.places → Type 0
  IsRow i = (j : Fin T.places) → at i · at j ≡ scale R (T.phase i j) (at (T.product i j))

  pub start_row : at T.start ≡ unit R d → IsRow T.start
  start_row e j = ap (λ m. m · at j) e ∙ unit-mul (at j) ∙ sym (scale-one (at j))
      ∙ ap₂ (λ x k. scale R x (at k)) (sym (T.start-phase j)) (sym (T.start-product j))

  pub product_row : (i k : Fin T.places) → IsRow i → IsRow k → IsRow (T.product i k)
  product_row i k p q j = scale-cancel R (T.phase i k) (T.phase-invertible i k) _ _
      (sym (scale-mul R (T.phase i k) (at (T.product i k)) (at j)) ∙ ap (λ m. m · at j) (sym (p k)) ∙ mul_assoc (at i) (at k) (at j)
      ∙ ap (λ m. at i · m) (q j) ∙ mul-scale R (T.phase k j) (at i) (at (T.product k j)) ∙ ap (scale R (T.phase k j)) (p (T.product k j))
      ∙ scale-scale R (T.phase k j) (T.phase i (T.product k j)) (at (T.product i (T.product k j)))
      ∙ ap₂ (λ x l. scale R x (at l)) (sym (T.phase_assoc i k j)) (sym (T.product_assoc i k j))
      ∙ sym (scale-scale R (T.phase i k) (T.phase (T.product i k) j) (at (T.product (T.product i k) j))))

module _ {S : Type 0} {G : Ghosts S} {h : ℕ} (T : PhaseTable h) (n : ℕ) (v : T.order ∣ n) (d : ℕ) (mats : List (Mat S G)) where
  pub all_rows : (generators : List ℕ) → Generate T generators → matrix_at n d mats T.start ≡ unit (numbers n) d
      → ((g : Fin h) → Contains generators (to_nat g) → (j : Fin h) → Multiplies T n v d mats g j) → (i j : Fin h) → Multiplies T n v d mats i j
  all_rows generators all e rows = every_place T generators (λ i. (j : Fin h) → Multiplies T n v d mats i j)
      (start_row (phases_over T n v) (matrix_at n d mats) e) (product_row (phases_over T n v) (matrix_at n d mats)) rows all
