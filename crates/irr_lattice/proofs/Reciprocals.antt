-- Wave vectors modulo the whole ones: the reciprocal lattice of the group of no generators.
use Rattle.std.proofs.Common.{◌≡◌, sym, ◌∙◌, ap, subst, ℕ, ℤ, pos, ◌⊎◌, inl, inr, [], arith, ◌<ℤ◌, neg_ℤ}
use Rattle.std.proofs.lemmas.Int.{ints}
use native.Mathlib.Nat as Nat
use Rattle.irr_algebra.specs.Fin.{Fin}
use Rattle.irr_algebra.specs.Matrix.{◌⊖◌, unit, column}
use Rattle.irr_algebra.specs.Ring.{whole}
use Rattle.irr_algebra.proofs.Rings.{ring_laws}
use Rattle.irr_rational.specs.Integer.{integer}
use Rattle.irr_rational.specs.Rational.{Rational, rationals, ratio, IsWhole}
use Rattle.irr_rational.specs.Order.{◌≤ℚ◌, ◌<ℚ◌}
use Rattle.irr_rational.specs.Ratio.{AreLowest}
use Rattle.irr_rational.proofs.Integers.{integer-zero, integer-one, integer-neg}
use Rattle.irr_rational.proofs.Orders.{lt_of_le_of_lt, not_le_of_lt, le-add, lt-add, integer-le, le_or_lt, lt_of_integer}
use Rattle.irr_rational.proofs.WholeNumbers.{whole-add, whole-neg, whole_multiples}
use Rattle.irr_rational.proofs.Lexicographic.{at_most_of_each}
use Rattle.irr_space.specs.Operation.{Vector, WaveVector, translation, wave_component}
use Rattle.irr_space.specs.SpaceGroup.{Generated, IsExponent}
use Rattle.irr_space.specs.SpaceGroup.Generated.{unit_translation}
use Rattle.irr_space.specs.Reciprocal.{IsReciprocal, AreEquivalent, HasNoNegative, IsReduced, IsPeriod, IsOrder, times}
use Rattle.irr_theory.specs.Extension.{matrix_power}
use Rattle.irr_algebra.proofs.Matrices.{mul-unit}
use Rattle.irr_lattice.proofs.Vectors.{IsWholeVector, IsWholeWave, dot-unit, whole-dot, wave_component-sub, wave_component-scale}
use Rattle.irr_lattice.proofs.Translations.{generated_whole, generated_unit}

-- the reciprocal lattice of the whole vectors has the whole wave vectors
pub reciprocal-whole : (k : WaveVector) → IsReciprocal (Generated []) k → IsWholeWave k
reciprocal-whole k h i = subst IsWhole (dot-unit k i) (h.is_whole (column (unit rationals 3) i) (unit_translation i))

translation_whole : (t : Vector) → Generated [] (translation t) → IsWholeVector t
unfolding translation
translation_whole t g = generated_whole g

pub whole-reciprocal : (k : WaveVector) → IsWholeWave k → IsReciprocal (Generated []) k
whole-reciprocal k h = record { is_whole = λ t g. whole-dot k t h (translation_whole t g) }

-- wave vectors are equivalent where their components differ by whole numbers
pub equivalent-whole : (a b : WaveVector) → AreEquivalent (Generated []) a b → (i : Fin 3) → IsWhole (rationals.add (wave_component a i) (rationals.neg (wave_component b i)))
equivalent-whole a b h i = subst IsWhole (wave_component-sub a b i) (reciprocal-whole (a ⊖ b) h i)

pub whole-equivalent : (a b : WaveVector) → ((i : Fin 3) → IsWhole (rationals.add (wave_component a i) (rationals.neg (wave_component b i)))) → AreEquivalent (Generated []) a b
whole-equivalent a b h = whole-reciprocal (a ⊖ b) (λ i. subst IsWhole (sym (wave_component-sub a b i)) (h i))

-- x is the least number that is not negative among those that differ from it by whole numbers, where it is in [0,1)
pub least_in_cell : (x y : Rational) → x <ℚ rationals.one → rationals.zero ≤ℚ y → IsWhole (rationals.add y (rationals.neg x)) → x ≤ℚ y
least_in_cell x y below nonneg w = from_cases (le_or_lt x y)
  where
    back : (x y : Rational) → rationals.add (rationals.add y (rationals.neg x)) x ≡ y
    back x y = rationals.add_assoc y (rationals.neg x) x ∙ ap (rationals.add y) (rationals.add_comm (rationals.neg x) x ∙ rationals.add-neg x) ∙ rationals.add-zero y

    -- the whole number y - x is negative where y < x
    negative : y <ℚ x → integer rationals w.number <ℚ integer rationals (pos 0)
    negative h = subst (λ z. z <ℚ integer rationals (pos 0)) w.is (subst (λ z. rationals.add y (rationals.neg x) <ℚ z) (rationals.add-neg x ∙ sym (integer-zero rationals)) (lt-add y x (rationals.neg x) h))

    -- so it is at most -1, and y is below 0
    from_cases : (x ≤ℚ y) ⊎ (y <ℚ x) → x ≤ℚ y
    from_cases (inl h) = h
    from_cases (inr h) = absurd (not_le_of_lt y rationals.zero y_negative nonneg)
      where
        at_most : integer rationals w.number ≤ℚ rationals.neg rationals.one
        at_most = subst (λ z. integer rationals w.number ≤ℚ z) (integer-neg rationals (pos 1) ∙ ap rationals.neg (integer-one rationals))
            (integer-le w.number (neg_ℤ (pos 1)) (let l : w.number <ℤ pos 0 = lt_of_integer w.number (pos 0) (negative h) in omega (arith, ints)))

        sum_below : rationals.add (rationals.neg rationals.one) x <ℚ rationals.zero
        sum_below = subst (λ z. z <ℚ rationals.zero) (rationals.add_comm x (rationals.neg rationals.one)) (subst (λ z. rationals.add x (rationals.neg rationals.one) <ℚ z) (rationals.add-neg rationals.one) (lt-add x rationals.one (rationals.neg rationals.one) below))

        y_negative : y <ℚ rationals.zero
        y_negative = subst (λ z. z <ℚ rationals.zero) (back x y) (lt_of_le_of_lt (rationals.add (rationals.add y (rationals.neg x)) x) (rationals.add (rationals.neg rationals.one) x) rationals.zero
            (le-add (rationals.add y (rationals.neg x)) (rationals.neg rationals.one) x (subst (λ z. z ≤ℚ rationals.neg rationals.one) (sym w.is) at_most)) sum_below)

-- the reduced wave vector has its components in [0,1)
pub reduced_in_cell : (k r : WaveVector) → AreEquivalent (Generated []) r k → HasNoNegative r → ((i : Fin 3) → wave_component r i <ℚ rationals.one) → IsReduced (Generated []) k r
reduced_in_cell k r e n b = record {
  equivalent = e;
  no_negative = n;
  least = λ w f m. at_most_of_each 3 (wave_component r) (wave_component w) (λ i. least_in_cell (wave_component r i) (wave_component w i) (b i) (m i)
      (subst IsWhole (regroup (wave_component w i) (wave_component k i) (wave_component r i))
      (whole-add (rationals.add (wave_component w i) (rationals.neg (wave_component k i))) (rationals.neg (rationals.add (wave_component r i) (rationals.neg (wave_component k i))))
      (equivalent-whole w k f i) (whole-neg (rationals.add (wave_component r i) (rationals.neg (wave_component k i))) (equivalent-whole r k e i)))));
}
  where
    regroup : (w k r : Rational) → rationals.add (rationals.add w (rationals.neg k)) (rationals.neg (rationals.add r (rationals.neg k))) ≡ rationals.add w (rationals.neg r)
    regroup w k r = ap (rationals.add (rationals.add w (rationals.neg k))) (flip r k) ∙ rationals.add_assoc w (rationals.neg k) (rationals.add k (rationals.neg r))
        ∙ ap (rationals.add w) (sym (rationals.add_assoc (rationals.neg k) k (rationals.neg r)) ∙ ap (λ z. rationals.add z (rationals.neg r)) (rationals.add_comm (rationals.neg k) k ∙ rationals.add-neg k)
        ∙ rationals.add_comm rationals.zero (rationals.neg r) ∙ rationals.add-zero (rationals.neg r))
      where
        flip : (r k : Rational) → rationals.neg (rationals.add r (rationals.neg k)) ≡ rationals.add k (rationals.neg r)
        flip r k = simp (ring_laws, rationals)

-- the period is the common denominator in lowest terms
pub period_of_lowest : (k : WaveVector) (a : Fin 3 → ℤ) (b : ℕ) → AreLowest a b → ((i : Fin 3) → wave_component k i ≡ ratio (a i) b) → IsPeriod (Generated []) k b
period_of_lowest k a b low e = record {
  positive = low.positive;
  reciprocal = whole-reciprocal (times b k) (λ i. subst IsWhole (sym (multiple b i)) ((whole_multiples a b b low).1 (Nat.dvd_refl b) i));
  least = λ n p h. Nat.le_of_dvd p ((whole_multiples a b n low).0 (λ i. subst IsWhole (multiple n i) (reciprocal-whole (times n k) h i)));
}
  where
    multiple : (n : ℕ) (i : Fin 3) → wave_component (times n k) i ≡ rationals.mul (whole rationals n) (ratio (a i) b)
    multiple n i = wave_component-scale (whole rationals n) k i ∙ ap (rationals.mul (whole rationals n)) (e i)

-- there is no rotation but the unit
pub exponent_one : IsExponent (Generated []) 1
unfolding matrix_power
exponent_one = record {
  positive = omega arith;
  power = λ g h. mul-unit g.rotation ∙ generated_unit h;
  least = λ n p h. p;
}

pub order_of_lowest : (k : WaveVector) (a : Fin 3 → ℤ) (b : ℕ) → AreLowest a b → ((i : Fin 3) → wave_component k i ≡ ratio (a i) b) → IsOrder (Generated []) k b
order_of_lowest k a b low e = record { exponent = 1; period = b; is_exponent = exponent_one; is_period = period_of_lowest k a b low e; is_product = omega arith }
