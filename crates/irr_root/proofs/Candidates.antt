-- The matrix at a place of a small representation, whose phases are powers of z of the order N: its powers, and the powers of z
-- that its eigenvalues can be.
--   power-at                 the j-th power of the matrix is a power of z times the matrix at the j-th power of the place
--   multiplicity-counted     how often z^e is an eigenvalue, from the traces
--   eigen_exponents          a list of the candidates, each as often as it occurs, has the exponents of the eigenvalues
use Rattle.std.proofs.Common.{◌≡◌, sym, ◌∙◌, ap, ap₂, refl, subst, ℕ, zero, suc, ◌<◌, ◌≤◌, ◌+◌, ◌-◌, ◌*◌, List, length, slice_index, ◌⊎◌, inl, inr, arith}
use Rattle.std.proofs.Math.Nat as Nat
use Rattle.std.proofs.lemmas.List.Elements.{All-weaker}
use native.Mathlib.Decide.{dec_le}
use Rattle.irr_algebra.proofs.Indices.{all_or_one, from_nat, to_nat-from_nat, to_nat-lt}
use Rattle.irr_algebra.specs.Ring.{Ring, whole}
use Rattle.irr_algebra.specs.Field.{Field}
use Rattle.irr_algebra.specs.Fin.{Fin, to_nat}
use Rattle.irr_algebra.specs.Sum.{sum}
use Rattle.irr_algebra.specs.Matrix.{Matrix, scale, trace, unit}
use Rattle.irr_algebra.proofs.Matrices.{scale-one, trace-scale}
use Rattle.irr_algebra.proofs.Rings.{one-mul}
use Rattle.irr_algebra.proofs.Sums.{sum-ext}
use Rattle.irr_theory.specs.Extension.{matrix_power}
use Rattle.irr_theory.specs.FactorSystem.{FactorSystem, Representation}
use Rattle.irr_theory.specs.Lifted.{lifted, lifted_product}
use Rattle.irr_eigen.specs.Eigenspace.{Eigenspaces, Occurs}
use Rattle.irr_eigen.specs.Power.{power, IsPrimitiveRoot}
use Rattle.irr_eigen.specs.Step.{HasExponents, at_place, exponent_sum, lifted_power}
use Rattle.irr_eigen.proofs.LiftedPowers.{matrix_power-lifted}
use Rattle.irr_eigen.proofs.Powers.{power-add, power-mul, power-ne-zero}
use Rattle.irr_eigen.proofs.Primitive.{primitive-ne-zero, primitive-power, primitive_inj}
use Rattle.irr_eigen.proofs.RootsOfOne.{eigenspaces_of_power}
use Rattle.irr_algebra.proofs.Fields.{mul_cancel}
use Rattle.irr_theory.specs.Representations.{count_total}
use Rattle.irr_canonical.specs.Coefficient.{total_below}
use Rattle.irr_extension.specs.Exponents.{times_in}
use Rattle.irr_root.specs.Eigenvalues.{AreEigenExponents}
use Rattle.irr_root.specs.Repeated.{AreRepeated}
use Rattle.irr_root.proofs.Counts.{occurs-counted, occurs-none, occurs-total}
use Rattle.irr_root.proofs.Repetitions.{times_in-absent}

-- powers of z, times a number
turned : (R : Ring) (z x : R.Carrier) (c s j : ℕ) → R.mul (power R (power R z c) j) (R.mul (power R z s) x) ≡ R.mul (power R z (s + c * j)) x
turned R z x c s j =
    sym (R.mul_assoc (power R (power R z c) j) (power R z s) x)
    ∙ ap (λ y. R.mul y x) (ap (λ y. R.mul y (power R z s)) (sym (power-mul R z j c)) ∙ sym (power-add R z (j * c) s)
    ∙ ap (power R z) (let e : j * c + s ≡ s + c * j = omega arith in e))

same_number : (a b : ℕ) → (a ≡ b → ⊥) ⊎ (a ≡ b)
same_number a b = cases (dec_le a b) (dec_le b a)
  where
    cases : Dec (a ≤ b) → Dec (b ≤ a) → (a ≡ b → ⊥) ⊎ (a ≡ b)
    cases (yes l) (yes m) = inr (omega arith)
    cases (yes l) (no m) = inl (λ e. absurd (omega (arith, m, e)))
    cases (no l) m = inl (λ e. absurd (omega (arith, l, e)))

total_below-suc : (n : ℕ) (f : ℕ → ℕ) → total_below (suc n) f ≡ f 0 + total_below n (λ k. f (suc k))
unfolding total_below
total_below-suc zero f = Nat.add_comm 0 (f 0)
total_below-suc (suc n) f = ap (λ k. k + f (suc n)) (total_below-suc n f) ∙ Nat.add_assoc (f 0) (total_below n (λ k. f (suc k))) (f (suc n))

-- a sum over indices is the one over their numbers
count_total-below : (n : ℕ) (f : ℕ → ℕ) → count_total n (λ a. f (to_nat a)) ≡ total_below n f
unfolding count_total total_below to_nat
count_total-below zero f = refl
count_total-below (suc n) f = ap (λ k. f 0 + k) (count_total-below n (λ k. f (suc k))) ∙ sym (total_below-suc n f)

module _ (F : Field) where
  open F use {ring as R}

  module _ {T : FactorSystem R} (N : ℕ) (z : R.Carrier) (x : Fin T.places → Fin T.places → ℕ) (has : HasExponents T N z x) (positive : 0 < N)
      {d : ℕ} (D : Representation T d) (g : Fin T.places) where
    -- the phase of a power of g
    power-number : (j : ℕ) → (lifted_power (at_place T g) j).number ≡ power R z (exponent_sum T x g j)
    unfolding lifted_power lifted_product exponent_sum power
    power-number zero = refl
    power-number (suc j) =
        ap₂ R.mul (one-mul R (lifted_power (at_place T g) j).number ∙ power-number j) (has.phase-power g (lifted_power (at_place T g) j).place)
        ∙ sym (power-add R z (exponent_sum T x g j) (x g (lifted_power (at_place T g) j).place))

    pub power-at : (j : ℕ) → matrix_power (D.at g) j ≡ scale R (power R z (exponent_sum T x g j)) (D.at (lifted_power (at_place T g) j).place)
    unfolding lifted
    power-at j =
        ap (λ (u : Matrix R d d). matrix_power u j) (sym (scale-one (D.at g))) ∙ matrix_power-lifted D (at_place T g) j
        ∙ ap (λ c. scale R c (D.at (lifted_power (at_place T g) j).place)) (power-number j)

    root-ne-zero : (e : ℕ) → power R z e ≡ R.zero → ⊥
    root-ne-zero e = power-ne-zero F z (primitive-ne-zero F N z positive has.primitive) e

    module _ (n : ℕ) (returns : (lifted_power (at_place T g) (suc n)).place ≡ T.start) (q : ℕ) (split : N ≡ suc n * q) (above : 0 < q) where
      -- a root of the number that the power of the matrix is
      root-power : (e : ℕ) → power R z (suc n * e) ≡ power R z (exponent_sum T x g (suc n))
          → matrix_power (D.at g) (suc n) ≡ scale R (power R (power R z e) (suc n)) (unit R d)
      root-power e same = power-at (suc n) ∙ ap (λ i. scale R (power R z (exponent_sum T x g (suc n))) (D.at i)) returns
          ∙ ap₂ (scale R) (sym same ∙ power-mul R z (suc n) e) D.at-start

      primitive-step : IsPrimitiveRoot R (suc n) (power R z q)
      primitive-step = primitive-power (suc n) q z above (subst (λ k. IsPrimitiveRoot R k z) split has.primitive)

      pub multiplicity-counted : (e : ℕ) → e ≤ N → power R z (suc n * e) ≡ power R z (exponent_sum T x g (suc n))
          → (k : ℕ) × Occurs (D.at g) (power R z e) k
          × (R.mul (whole R (suc n)) (whole R k) ≡ sum R (suc n) (λ j. R.mul (power R z (exponent_sum T x g (to_nat j) + (N - e) * to_nat j))
          (trace (D.at (lifted_power (at_place T g) (to_nat j)).place))))
      multiplicity-counted e within same =
          let o = occurs-counted F n (D.at g) (power R z e) (power R z q) (power R z (N - e)) (root-ne-zero e) primitive-step (root-power e same)
          (sym (power-add R z e (N - e)) ∙ ap (power R z) (let s : e + (N - e) ≡ N = omega arith in s) ∙ has.primitive.power-one) in (
            o.0,
            o.1,
            o.2 ∙ sum-ext R (suc n) (λ j. R.mul (power R (power R z (N - e)) (to_nat j)) (trace (matrix_power (D.at g) (to_nat j))))
                (λ j. R.mul (power R z (exponent_sum T x g (to_nat j) + (N - e) * to_nat j)) (trace (D.at (lifted_power (at_place T g) (to_nat j)).place))) term,
          )
        where
          term : (j : Fin (suc n)) → R.mul (power R (power R z (N - e)) (to_nat j)) (trace (matrix_power (D.at g) (to_nat j)))
              ≡ R.mul (power R z (exponent_sum T x g (to_nat j) + (N - e) * to_nat j)) (trace (D.at (lifted_power (at_place T g) (to_nat j)).place))
          term j =
              ap (R.mul (power R (power R z (N - e)) (to_nat j)))
              (ap trace (power-at (to_nat j)) ∙ trace-scale R (power R z (exponent_sum T x g (to_nat j))) (D.at (lifted_power (at_place T g) (to_nat j)).place))
              ∙ turned R z (trace (D.at (lifted_power (at_place T g) (to_nat j)).place)) (N - e) (exponent_sum T x g (to_nat j)) (to_nat j)

      -- the candidates are the numbers z^(r + a q)
      module _ (r : ℕ) (small : r < q) (same : power R z (suc n * r) ≡ power R z (exponent_sum T x g (suc n))) where
        abbrev values : Fin (suc n) → R.Carrier
        values a = R.mul (power R z r) (power R (power R z q) (to_nat a))

        value : (a : Fin (suc n)) → values a ≡ power R z (r + to_nat a * q)
        value a = ap (R.mul (power R z r)) (sym (power-mul R z (to_nat a) q)) ∙ sym (power-add R z r (to_nat a * q))

        spaces : Eigenspaces (D.at g) values
        spaces = eigenspaces_of_power F n (D.at g) (power R z r) (power R z q) (root-ne-zero r) primitive-step (root-power r same)

        different : (a b : Fin (suc n)) → values a ≡ values b → a ≡ b
        different a b e = primitive_inj F (suc n) (power R z q) primitive-step a b
            (mul_cancel F (power R z r) (power R (power R z q) (to_nat a)) (power R (power R z q) (to_nat b)) (root-ne-zero r) e)

        candidate-lt : (a : ℕ) → a < suc n → r + a * q < N
        candidate-lt a l =
            let most : suc a * q ≤ suc n * q = Nat.mul-le-mul_right q l in
            let more : suc a * q ≡ a * q + q = Nat.suc-mul a q in
            omega (arith, most, more, small, split)

        power_inj : (a b : ℕ) → a < N → b < N → power R z a ≡ power R z b → a ≡ b
        power_inj a b la lb e =
            sym (to_nat-from_nat N a la)
            ∙ ap to_nat (primitive_inj F N z has.primitive (from_nat N a la) (from_nat N b lb)
            (ap (power R z) (to_nat-from_nat N a la) ∙ e ∙ sym (ap (power R z) (to_nat-from_nat N b lb))))
            ∙ to_nat-from_nat N b lb

        module _ (times es : List ℕ) (all : length times ≡ suc n)
            (occur : (a : ℕ) → a < suc n → Occurs (D.at g) (power R z (r + a * q)) (slice_index times a)) (listed : AreRepeated r q times es) where
          occurs-at : (e : ℕ) → e < N → ((a : Fin (suc n)) → r + to_nat a * q ≡ e → ⊥) ⊎ ((a : Fin (suc n)) × (r + to_nat a * q ≡ e)) → Occurs (D.at g) (power R z e) (times_in e es)
          occurs-at e l (inl none) =
              subst (Occurs (D.at g) (power R z e)) (sym (times_in-absent e es (All-weaker (λ f. (a : ℕ) × (a < length times) × (f ≡ r + a * q)) (λ f. f ≡ e → ⊥)
              (λ f c s. none (from_nat (suc n) c.0 (subst (λ k. c.0 < k) all c.1))
              (ap (λ k. r + k * q) (to_nat-from_nat (suc n) c.0 (subst (λ k. c.0 < k) all c.1)) ∙ sym c.2 ∙ s)) es listed.each)))
              (occurs-none F spaces (power R z e) (λ a s. none a (power_inj (r + to_nat a * q) e (candidate-lt (to_nat a) (to_nat-lt a)) l (sym (value a) ∙ s))))
          occurs-at e l (inr found) =
              subst (λ f. Occurs (D.at g) (power R z f) (times_in f es)) found.1
              (subst (Occurs (D.at g) (power R z (r + to_nat found.0 * q))) (sym (listed.often (to_nat found.0) (subst (λ k. to_nat found.0 < k) (sym all) (to_nat-lt found.0))))
              (occur (to_nat found.0) (to_nat-lt found.0)))

          pub eigen_exponents : AreEigenExponents N z (D.at g) es
          eigen_exponents = record {
            below = All-weaker (λ f. (a : ℕ) × (a < length times) × (f ≡ r + a * q)) (λ f. f < N)
                (λ f c. subst (λ k. k < N) (sym c.2) (candidate-lt c.0 (subst (λ k. c.0 < k) all c.1))) es listed.each;
            increasing = listed.increasing;
            occurs = λ e l. occurs-at e l (all_or_one (suc n) (λ a. r + to_nat a * q ≡ e → ⊥) (λ a. r + to_nat a * q ≡ e) (λ a. same_number (r + to_nat a * q) e));
            count = listed.count ∙ ap (λ k. total_below k (slice_index times)) all ∙ sym (count_total-below (suc n) (slice_index times))
                ∙ occurs-total F spaces different (λ a. slice_index times (to_nat a))
                (λ a. subst (λ v. Occurs (D.at g) v (slice_index times (to_nat a))) (sym (value a)) (occur (to_nat a) (to_nat-lt a)));
          }
