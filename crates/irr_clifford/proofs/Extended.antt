-- A family with a matrix that stands for the generator extends to the whole table.
use Rattle.std.proofs.Common.{◌≡◌, sym, ◌∙◌, ap, ap₂, refl, ℕ, zero, suc, ◌+◌, ◌-◌, ◌<◌, ◌≤◌, arith}
use native.Mathlib.Decide.{dec_le}
use Rattle.irr_algebra.specs.Ring.{Ring}
use Rattle.irr_algebra.specs.Fin.{Fin, to_nat}
use Rattle.irr_algebra.specs.Matrix.{Matrix, ◌·◌, unit, scale}
use Rattle.irr_algebra.specs.Action.{IsIntertwiner}
use Rattle.irr_algebra.proofs.Rings.{one-mul}
use Rattle.irr_algebra.proofs.Indices.{from_nat, to_nat-from_nat}
use Rattle.irr_algebra.proofs.Matrices.{mul_assoc, unit-mul, mul-unit, scale-mul, mul-scale, scale-scale}
use Rattle.irr_theory.specs.Extension.{iterate, matrix_power}
use Rattle.irr_theory.specs.FactorSystem.{FactorSystem, Representation}
use Rattle.irr_theory.specs.Lifted.{Lifted, lifted}
use Rattle.irr_theory.proofs.Extensions.{matrix_power-add}
use Rattle.irr_theory.proofs.Lifted.{lifted-multiplies}
use Rattle.irr_clifford.specs.Subgroup.{Subgroup}
use Rattle.irr_clifford.specs.Cyclic.{CyclicQuotient, conjugate, StandsForGenerator, IsExtension}
use Rattle.irr_clifford.proofs.Split.{index-positive, ◌⋆◌, bare, inside, inside-mul, inside-start, step, steps, moved, inside-steps, iterate-inner, peak, inside-peak, exponent_of, part_of, split, split-exponent, split-part, lifted_assoc, lifted_power, lifted_power-add, mul-bare-start, bare-start-mul}
use Rattle.irr_clifford.proofs.Representations.{lifted-bare, family_of_lifted, lifted-moved, lifted-peak}

module _ {R : Ring} {T : FactorSystem R} {H : Subgroup T} (Q : CyclicQuotient H) {d : ℕ} (D : Representation H.table d) (u : Matrix R d d) (i : IsIntertwiner (conjugate Q D) D.at u) where
  member-u : (y : Lifted H.table) → lifted D y · u ≡ u · lifted D (moved Q y)
  unfolding lifted
  member-u y = scale-mul R y.number (D.at y.place) u ∙ ap (scale R y.number) (i.intertwines y.place) ∙ sym (mul-scale R y.number u (conjugate Q D y.place))
      ∙ ap (λ (m : Matrix R d d). u · m) (sym (lifted-moved Q D y))

  pub member-power : (e : ℕ) (y : Lifted H.table) → lifted D y · matrix_power u e ≡ matrix_power u e · lifted D (iterate (moved Q) e y)
  unfolding matrix_power iterate
  member-power zero y = mul-unit (lifted D y) ∙ sym (unit-mul (lifted D y))
  member-power (suc e) y =
      sym (mul_assoc (lifted D y) u (matrix_power u e)) ∙ ap (λ (m : Matrix R d d). m · matrix_power u e) (member-u y) ∙ mul_assoc u (lifted D (moved Q y)) (matrix_power u e)
      ∙ ap (λ (m : Matrix R d d). u · m) (member-power e (moved Q y)) ∙ sym (mul_assoc u (matrix_power u e) (lifted D (iterate (moved Q) e (moved Q y))))
      ∙ ap (λ w. u · matrix_power u e · lifted D w) (iterate-inner (moved Q) e y)

module _ {R : Ring} {T : FactorSystem R} {H : Subgroup T} (Q : CyclicQuotient H) {d : ℕ} (D : Representation H.table d) (u : Matrix R d d) (h : StandsForGenerator Q D u) where
  -- the matrix at a place with a number
  pub wide : Lifted T → Matrix R d d
  wide z = matrix_power u (to_nat (exponent_of Q z)) · lifted D (part_of Q z)

  wide-small : (a : Fin Q.index) (y : Lifted H.table) → matrix_power u (to_nat a) · lifted D y ≡ wide (◌⋆◌ T (steps Q (to_nat a)) (inside Q y))
  unfolding wide
  wide-small a y = ap₂ (λ (i : Fin Q.index) (w : Lifted H.table). matrix_power u (to_nat i) · lifted D w)
      (sym (split-exponent Q a y (◌⋆◌ T (steps Q (to_nat a)) (inside Q y)) refl)) (sym (split-part Q a y (◌⋆◌ T (steps Q (to_nat a)) (inside Q y)) refl))

  -- it goes by the place alone, also where the exponent is large
  wide-at : (k e : ℕ) → e < k → (y : Lifted H.table) → matrix_power u e · lifted D y ≡ wide (◌⋆◌ T (steps Q e) (inside Q y))
  wide-at zero e l y = absurd (omega arith)
  wide-at (suc k) e l y = cases (λ f lf. wide-at k f lf (◌⋆◌ H.table (peak Q) y)) (dec_le Q.index e)
    where
      large : (f : ℕ) → f + Q.index ≡ e → (matrix_power u f · lifted D (◌⋆◌ H.table (peak Q) y) ≡ wide (◌⋆◌ T (steps Q f) (inside Q (◌⋆◌ H.table (peak Q) y))))
          → matrix_power u e · lifted D y ≡ wide (◌⋆◌ T (steps Q e) (inside Q y))
      large f p ih =
          ap (λ n. matrix_power u n · lifted D y) (sym p)
          ∙ ap (λ (m : Matrix R d d). m · lifted D y) (matrix_power-add u f Q.index ∙ ap (λ (m : Matrix R d d). matrix_power u f · m) (h.power ∙ sym (lifted-peak Q D)))
          ∙ mul_assoc (matrix_power u f) (lifted D (peak Q)) (lifted D y) ∙ ap (λ (m : Matrix R d d). matrix_power u f · m) (lifted-multiplies D (peak Q) y)
          ∙ ih
          ∙ ap wide (ap (◌⋆◌ T (steps Q f)) (inside-mul Q (peak Q) y ∙ ap (λ w. ◌⋆◌ T w (inside Q y)) (inside-peak Q))
          ∙ sym (lifted_assoc T (steps Q f) (steps Q Q.index) (inside Q y)) ∙ ap (λ w. ◌⋆◌ T w (inside Q y)) (sym (lifted_power-add T (step Q) f Q.index) ∙ ap (λ n. steps Q n) p))

      cases : ((f : ℕ) → f < k → matrix_power u f · lifted D (◌⋆◌ H.table (peak Q) y) ≡ wide (◌⋆◌ T (steps Q f) (inside Q (◌⋆◌ H.table (peak Q) y)))) → Dec (Q.index ≤ e) → matrix_power u e · lifted D y ≡ wide (◌⋆◌ T (steps Q e) (inside Q y))
      cases ih (yes p) = large (e - Q.index) (omega arith) (ih (e - Q.index) (let i = index-positive Q in omega arith))
      cases ih (no p) = let i : e < Q.index = omega arith in
          ap (λ n. matrix_power u n · lifted D y) (sym (to_nat-from_nat Q.index e i)) ∙ wide-small (from_nat Q.index e i) y
          ∙ ap (λ n. wide (◌⋆◌ T (steps Q n) (inside Q y))) (to_nat-from_nat Q.index e i)

  wide-mul : (x z : Lifted T) → wide x · wide z ≡ wide (◌⋆◌ T x z)
  unfolding wide
  wide-mul x z =
      mul_assoc (matrix_power u (to_nat (exponent_of Q x))) (lifted D (part_of Q x)) (matrix_power u (to_nat (exponent_of Q z)) · lifted D (part_of Q z))
      ∙ ap (λ (m : Matrix R d d). matrix_power u (to_nat (exponent_of Q x)) · m) (
      sym (mul_assoc (lifted D (part_of Q x)) (matrix_power u (to_nat (exponent_of Q z))) (lifted D (part_of Q z)))
      ∙ ap (λ (m : Matrix R d d). m · lifted D (part_of Q z)) (member-power Q D u h.intertwines (to_nat (exponent_of Q z)) (part_of Q x))
      ∙ mul_assoc (matrix_power u (to_nat (exponent_of Q z))) (lifted D (along (part_of Q x))) (lifted D (part_of Q z))
      ∙ ap (λ (m : Matrix R d d). matrix_power u (to_nat (exponent_of Q z)) · m) (lifted-multiplies D (along (part_of Q x)) (part_of Q z)))
      ∙ sym (mul_assoc (matrix_power u (to_nat (exponent_of Q x))) (matrix_power u (to_nat (exponent_of Q z))) (lifted D (◌⋆◌ H.table (along (part_of Q x)) (part_of Q z))))
      ∙ ap (λ (m : Matrix R d d). m · lifted D (◌⋆◌ H.table (along (part_of Q x)) (part_of Q z))) (sym (matrix_power-add u (to_nat (exponent_of Q x)) (to_nat (exponent_of Q z))))
      ∙ wide-at (suc (to_nat (exponent_of Q x) + to_nat (exponent_of Q z))) (to_nat (exponent_of Q x) + to_nat (exponent_of Q z)) (omega arith) (◌⋆◌ H.table (along (part_of Q x)) (part_of Q z))
      ∙ ap wide together
    where
      along : Lifted H.table → Lifted H.table
      along y = iterate (moved Q) (to_nat (exponent_of Q z)) y

      together : ◌⋆◌ T (steps Q (to_nat (exponent_of Q x) + to_nat (exponent_of Q z))) (inside Q (◌⋆◌ H.table (along (part_of Q x)) (part_of Q z))) ≡ ◌⋆◌ T x z
      together =
          ap₂ (◌⋆◌ T) (lifted_power-add T (step Q) (to_nat (exponent_of Q x)) (to_nat (exponent_of Q z))) (inside-mul Q (along (part_of Q x)) (part_of Q z))
          ∙ lifted_assoc T (steps Q (to_nat (exponent_of Q x))) (steps Q (to_nat (exponent_of Q z))) (◌⋆◌ T (inside Q (along (part_of Q x))) (inside Q (part_of Q z)))
          ∙ ap (◌⋆◌ T (steps Q (to_nat (exponent_of Q x)))) (
          sym (lifted_assoc T (steps Q (to_nat (exponent_of Q z))) (inside Q (along (part_of Q x))) (inside Q (part_of Q z)))
          ∙ ap (λ w. ◌⋆◌ T w (inside Q (part_of Q z))) (sym (inside-steps Q (to_nat (exponent_of Q z)) (part_of Q x)))
          ∙ lifted_assoc T (inside Q (part_of Q x)) (steps Q (to_nat (exponent_of Q z))) (inside Q (part_of Q z)) ∙ ap (◌⋆◌ T (inside Q (part_of Q x))) (split Q z))
          ∙ sym (lifted_assoc T (steps Q (to_nat (exponent_of Q x))) (inside Q (part_of Q x)) z) ∙ ap (λ w. ◌⋆◌ T w z) (split Q x)

  -- at a member, and at the generator
  wide-inside : (y : Lifted H.table) → wide (inside Q y) ≡ lifted D y
  unfolding matrix_power lifted_power
  wide-inside y = sym (wide-at 1 0 (omega arith) y ∙ ap wide (bare-start-mul T (inside Q y))) ∙ unit-mul (lifted D y)

  wide-step : wide (step Q) ≡ u
  unfolding matrix_power lifted_power
  wide-step = sym (wide-at 2 1 (omega arith) (bare H.table H.table.start)
      ∙ ap wide (ap₂ (◌⋆◌ T) (mul-bare-start T (step Q)) (inside-start Q) ∙ mul-bare-start T (step Q)))
      ∙ ap₂ (λ (a b : Matrix R d d). a · b) (mul-unit u) (lifted-bare D H.table.start ∙ D.at-start) ∙ mul-unit u

  wide-start : wide (bare T T.start) ≡ unit R d
  wide-start = ap wide (sym (inside-start Q)) ∙ wide-inside (bare H.table H.table.start) ∙ lifted-bare D H.table.start ∙ D.at-start

  wide-number : (z : Lifted T) → wide z ≡ scale R z.number (wide (bare T z.place))
  unfolding wide lifted
  wide-number z = ap (λ (m : Matrix R d d). matrix_power u (to_nat (exponent_of Q z)) · m) (
      ap (λ c. scale R c (D.at (part_of Q z).place)) (ap (R.mul z.number) (sym (one-mul R _))) ∙ sym (scale-scale R z.number _ (D.at (part_of Q z).place)))
      ∙ mul-scale R z.number (matrix_power u (to_nat (exponent_of Q z))) (scale R _ (D.at (part_of Q z).place))

  -- the extension
  pub extended : Representation T d
  extended = family_of_lifted wide wide-start wide-mul wide-number

  pub extended-is : IsExtension Q D u extended
  unfolding extended family_of_lifted
  extended-is = record { at-member = λ n. wide-inside (bare H.table n) ∙ lifted-bare D n; at-generator = wide-step }
