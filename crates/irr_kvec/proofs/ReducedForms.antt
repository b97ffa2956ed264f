-- Reduced wave vectors, by the first candidate that is equivalent, and the periods of wave vectors.
--   candidate_equivalent       among the candidates is one that is equivalent to each whole wave vector
--   first_is_reduced           the first candidate that is equivalent is the reduced form of a whole wave vector
--   reduced_from_cell          the reduced form of the floors, and what is left over them, give the reduced form
use Rattle.std.proofs.Common.{◌≡◌, sym, ◌∙◌, ap, ap₂, subst, subst₂, refl, ℕ, suc, ◌*◌, ◌^◌, ◌%◌, ◌<◌, ◌≤◌, ◌⊎◌, inl, inr, ℤ, pos, negsuc, ◌+ℤ◌, ◌*ℤ◌, ◌≤ℤ◌, unsigned_abs, List, [], ◌∷◌, length, get_or, arith}
use Rattle.std.proofs.lemmas.Int.{ints, unsigned_abs-mul}
use Rattle.std.specs.Int.{◌∣◌, int_div_euclid, int_rem_euclid}
use native.Mathlib.Nat as Nat
use Rattle.irr_algebra.specs.Fin.{Fin, to_nat}
use Rattle.irr_algebra.specs.Matrix.{◌⊖◌, scale}
use Rattle.irr_algebra.specs.Ring.{whole}
use Rattle.irr_algebra.proofs.Rings.{ring_laws}
use Rattle.irr_number.specs.Integers.{integers}
use Rattle.irr_rational.specs.Integer.{integer}
use Rattle.irr_rational.specs.Rational.{Rational, rationals, ratio, IsWhole}
use Rattle.irr_rational.specs.Ratio.{AreLowest, entry}
use Rattle.irr_rational.specs.Order.{◌≤ℚ◌, ◌<ℚ◌, IsAtMost}
use Rattle.irr_rational.proofs.Integers.{integer-pos, integer-add, integer-mul}
use Rattle.irr_rational.proofs.Ratios.{integer-ratio, ratio_same}
use Rattle.irr_rational.proofs.Orders.{lt-add, ratio-le, nonneg_ratio, nonneg_of_ratio, nonneg_of_le, nonneg-add, le_of_nonneg}
use Rattle.irr_rational.proofs.WholeNumbers.{whole-integer, whole-add, whole-neg, whole_ratio, dvd_of_whole}
use Rattle.irr_rational.proofs.Lexicographic.{at_most_trans, at_most_of_each}
use Rattle.irr_space.specs.Operation.{WaveVector, wave_component}
use Rattle.irr_space.specs.Reciprocal.{IsReciprocal, AreEquivalent, HasNoNegative, IsReduced}
use Rattle.irr_lattice.proofs.Vectors.{IsWholeWave, wave-ext, wave_component-sub, wave_component-scale}
use Rattle.irr_lattice.proofs.Remainders.{euclid, ratio-rem, rem-nonneg, rem-below_one, remainders-lowest}
use Rattle.irr_lattice.proofs.Reciprocals.{least_in_cell}
use Rattle.irr_rat.specs.declared.vec3.Vec3.{Vec3}
use Rattle.irr_rat.proofs.Vectors.{each_of_three}
use Rattle.irr_kvec.specs.WaveMeaning.{wave_of}
use Rattle.irr_kvec.specs.Centrings.{LatticeOf, IsCentringList}
use Rattle.irr_kvec.proofs.Lattices.{reciprocal-sub, equivalent_refl, reciprocal_whole, reciprocal_multiple}
use Rattle.irr_kvec.proofs.Products.{wave_component-wave_of, ratio-add_same}
use Rattle.irr_kvec.proofs.Steps.{candidate, remainders, number_of, candidate-number, number_below, candidates_ordered, listed}

-- the entries of remainders and quotients
quotients : (n : ℕ) → List ℤ → List ℤ
quotients n u = int_div_euclid (get_or u 0 (pos 0)) (pos n) ∷ int_div_euclid (get_or u 1 (pos 0)) (pos n) ∷ int_div_euclid (get_or u 2 (pos 0)) (pos n) ∷ []

entry-quotients : (n : ℕ) (u : List ℤ) (i : Fin 3) → entry (quotients n u) i ≡ int_div_euclid (entry u i) (pos n)
unfolding to_nat quotients
entry-quotients n u = each_of_three (λ i. entry (quotients n u) i ≡ int_div_euclid (entry u i) (pos n)) refl refl refl

entry-remainders : (n : ℕ) (u : List ℤ) (i : Fin 3) → entry (remainders n u) i ≡ int_rem_euclid (entry u i) (pos n)
unfolding to_nat
entry-remainders n u = each_of_three (λ i. entry (remainders n u) i ≡ int_rem_euclid (entry u i) (pos n)) refl refl refl

ratio_one : (x : ℤ) → ratio x 1 ≡ integer rationals x
ratio_one x = sym (integer-ratio x)

-- a number less n times its quotient is its remainder
rem-parts : (n : ℕ) (x : ℤ) (m : Rational) → 0 < n → rationals.add (ratio (int_rem_euclid x (pos n)) 1) (rationals.neg m)
    ≡ rationals.add (rationals.add (ratio x 1) (rationals.neg m)) (rationals.neg (rationals.mul (whole rationals n) (ratio (int_div_euclid x (pos n)) 1)))
rem-parts n x m h = ap (λ z. rationals.add z (rationals.neg m)) (ratio_one (int_rem_euclid x (pos n)))
    ∙ regroup (integer rationals (int_div_euclid x (pos n))) (whole rationals n) (integer rationals (int_rem_euclid x (pos n))) m
    ∙ ap₂ (λ y z. rationals.add (rationals.add y (rationals.neg m)) (rationals.neg (rationals.mul (whole rationals n) z))) (sym number) (sym (ratio_one (int_div_euclid x (pos n))))
  where
    number : ratio x 1 ≡ rationals.add (rationals.mul (integer rationals (int_div_euclid x (pos n))) (whole rationals n)) (integer rationals (int_rem_euclid x (pos n)))
    number = ratio_one x ∙ ap (integer rationals) (euclid x n h) ∙ integer-add rationals (int_div_euclid x (pos n) *ℤ pos n) (int_rem_euclid x (pos n))
        ∙ ap (λ z. rationals.add z (integer rationals (int_rem_euclid x (pos n)))) (integer-mul rationals (int_div_euclid x (pos n)) (pos n) ∙ ap (rationals.mul (integer rationals (int_div_euclid x (pos n)))) (integer-pos rationals n))

    regroup : (d w r m : Rational) → rationals.add r (rationals.neg m) ≡ rationals.add (rationals.add (rationals.add (rationals.mul d w) r) (rationals.neg m)) (rationals.neg (rationals.mul w d))
    regroup d w r m = simp (ring_laws, rationals)

-- a remainder of a number that is not negative is at most the number
rem_le : (x : ℤ) (n : ℕ) → pos 0 ≤ℤ x → int_rem_euclid x (pos n) ≤ℤ x
rem_le (pos a) n h = let l : a % n ≤ a = Nat.mod-le a n in omega (arith, ints)
rem_le (negsuc a) n h = absurd (omega (arith, ints))

back : (x y : Rational) → rationals.add (rationals.add x (rationals.neg y)) y ≡ x
back x y = simp (ring_laws, rationals)

pub whole_listed : (u : List ℤ) → IsWholeWave (wave_of u 1)
whole_listed u i = subst IsWhole (integer-ratio (entry u i) ∙ sym (wave_component-wave_of u 1 i)) (whole-integer (entry u i))

pub at_most_of_not_below : (x y : ℕ) → (x < y → ⊥) → y ≤ x
at_most_of_not_below x y h = let l : y < suc x = Nat.lt_of_not-le h in omega arith

ratio_one-le : (x y : ℤ) → x ≤ℤ y → ratio x 1 ≤ℚ ratio y 1
ratio_one-le x y h = ratio-le x y 1 1 (omega arith) (omega arith) (omega (arith, ints))

candidate_nonneg : (n y : ℕ) (i : Fin 3) → pos 0 ≤ℤ entry (candidate n y) i
unfolding to_nat
candidate_nonneg n y = each_of_three (λ i. pos 0 ≤ℤ entry (candidate n y) i) (omega (arith, ints)) (omega (arith, ints)) (omega (arith, ints))

nonneg_listed : (u : List ℤ) → ((i : Fin 3) → pos 0 ≤ℤ entry u i) → HasNoNegative (wave_of u 1)
nonneg_listed u h i = subst (λ x. rationals.zero ≤ℚ x) (sym (wave_component-wave_of u 1 i)) (le_of_nonneg (ratio (entry u i) 1) (nonneg_ratio (entry u i) 1 (omega arith) (h i)))

entries_nonneg : (u : List ℤ) → HasNoNegative (wave_of u 1) → (i : Fin 3) → pos 0 ≤ℤ entry u i
entries_nonneg u h i = nonneg_of_ratio (entry u i) 1 (omega arith) (nonneg_of_le (ratio (entry u i) 1) (subst (λ x. rationals.zero ≤ℚ x) (wave_component-wave_of u 1 i) (h i)))

module _ (cs : List Vec3) (list : IsCentringList cs) (m : List ℤ) where
  pub count_positive : 0 < length cs
  count_positive = let k = list.zero.member.1 in omega arith

  remainders_equivalent : (u : List ℤ) → AreEquivalent (LatticeOf cs) (wave_of u 1) (wave_of m 1) → AreEquivalent (LatticeOf cs) (wave_of (remainders (length cs) u) 1) (wave_of m 1)
  remainders_equivalent u h = subst (IsReciprocal (LatticeOf cs)) (sym parts)
      (reciprocal-sub (LatticeOf cs) (wave_of u 1 ⊖ wave_of m 1) (scale rationals (whole rationals (length cs)) (wave_of (quotients (length cs) u) 1)) h
      (reciprocal_multiple cs list.zero (length cs) list.multiple (wave_of (quotients (length cs) u) 1) (whole_listed (quotients (length cs) u))))
    where
      parts : wave_of (remainders (length cs) u) 1 ⊖ wave_of m 1 ≡ (wave_of u 1 ⊖ wave_of m 1) ⊖ scale rationals (whole rationals (length cs)) (wave_of (quotients (length cs) u) 1)
      parts = wave-ext _ _ (λ i. wave_component-sub (wave_of (remainders (length cs) u) 1) (wave_of m 1) i
          ∙ ap (λ x. rationals.add x (rationals.neg (wave_component (wave_of m 1) i))) (wave_component-wave_of (remainders (length cs) u) 1 i ∙ ap (λ x. ratio x 1) (entry-remainders (length cs) u i))
          ∙ rem-parts (length cs) (entry u i) (wave_component (wave_of m 1) i) count_positive
          ∙ sym (wave_component-sub (wave_of u 1 ⊖ wave_of m 1) (scale rationals (whole rationals (length cs)) (wave_of (quotients (length cs) u) 1)) i
          ∙ ap₂ (λ x y. rationals.add x (rationals.neg y))
          (wave_component-sub (wave_of u 1) (wave_of m 1) i ∙ ap (λ x. rationals.add x (rationals.neg (wave_component (wave_of m 1) i))) (wave_component-wave_of u 1 i))
          (wave_component-scale (whole rationals (length cs)) (wave_of (quotients (length cs) u) 1) i
          ∙ ap (rationals.mul (whole rationals (length cs))) (wave_component-wave_of (quotients (length cs) u) 1 i ∙ ap (λ x. ratio x 1) (entry-quotients (length cs) u i)))))

  -- the candidate of the remainders' number is equivalent
  number_equivalent : (u : List ℤ) → AreEquivalent (LatticeOf cs) (wave_of u 1) (wave_of m 1) → AreEquivalent (LatticeOf cs) (wave_of (candidate (length cs) (number_of (length cs) u)) 1) (wave_of m 1)
  number_equivalent u h = subst (λ (v : List ℤ). AreEquivalent (LatticeOf cs) (wave_of v 1) (wave_of m 1)) (sym (candidate-number (length cs) u count_positive)) (remainders_equivalent u h)

  pub candidate_equivalent : AreEquivalent (LatticeOf cs) (wave_of (candidate (length cs) (number_of (length cs) m)) 1) (wave_of m 1)
  candidate_equivalent = number_equivalent m (equivalent_refl (LatticeOf cs) (wave_of m 1))

  -- where a candidate fails, it stands before that one
  pub number_before : (x : ℕ) → x ≤ number_of (length cs) m → (AreEquivalent (LatticeOf cs) (wave_of (candidate (length cs) x) 1) (wave_of m 1) → ⊥) → x < number_of (length cs) m
  number_before x h fails = by (Nat.eq-or-lt_of_le h)
    where
      by : (x ≡ number_of (length cs) m) ⊎ (x < number_of (length cs) m) → x < number_of (length cs) m
      by (inl e) = absurd (fails (subst (λ n. AreEquivalent (LatticeOf cs) (wave_of (candidate (length cs) n) 1) (wave_of m 1)) (sym e) candidate_equivalent))
      by (inr l) = l

  pub number_small : number_of (length cs) m ≤ 10 ^ 5
  number_small =
      let l : number_of (length cs) m < length cs * length cs * length cs = number_below (length cs) m count_positive in
      let b : length cs * length cs * length cs ≤ 32 * 32 * 32 = Nat.mul-le-mul (Nat.mul-le-mul list.few list.few) list.few in
      omega arith

  pub first_is_reduced : (y : ℕ) → AreEquivalent (LatticeOf cs) (wave_of (candidate (length cs) y) 1) (wave_of m 1)
      → ((x : ℕ) → x < y → AreEquivalent (LatticeOf cs) (wave_of (candidate (length cs) x) 1) (wave_of m 1) → ⊥)
      → IsReduced (LatticeOf cs) (wave_of m 1) (wave_of (candidate (length cs) y) 1)
  first_is_reduced y e none = record { equivalent = e; no_negative = no_negative; least = least }
    where
      least_listed : (u : List ℤ) → AreEquivalent (LatticeOf cs) (wave_of u 1) (wave_of m 1) → HasNoNegative (wave_of u 1)
          → IsAtMost (wave_component (wave_of (candidate (length cs) y) 1)) (wave_component (wave_of u 1))
      least_listed u f nonneg = at_most_trans (wave_component (wave_of (candidate (length cs) y) 1)) (wave_component (wave_of (candidate (length cs) (number_of (length cs) u)) 1)) (wave_component (wave_of u 1))
          (candidates_ordered (length cs) y (number_of (length cs) u) count_positive (at_most_of_not_below (number_of (length cs) u) y (λ l. none (number_of (length cs) u) l (number_equivalent u f))))
          (at_most_of_each 3 (wave_component (wave_of (candidate (length cs) (number_of (length cs) u)) 1)) (wave_component (wave_of u 1)) (λ i.
          subst₂ (λ x z. x ≤ℚ z) (sym (ap (λ (v : List ℤ). wave_component (wave_of v 1) i) (candidate-number (length cs) u count_positive)
          ∙ wave_component-wave_of (remainders (length cs) u) 1 i ∙ ap (λ x. ratio x 1) (entry-remainders (length cs) u i))) (sym (wave_component-wave_of u 1 i))
          (ratio_one-le (int_rem_euclid (entry u i) (pos (length cs))) (entry u i) (rem_le (entry u i) (length cs) (entries_nonneg u nonneg i)))))

      no_negative : HasNoNegative (wave_of (candidate (length cs) y) 1)
      no_negative = nonneg_listed (candidate (length cs) y) (candidate_nonneg (length cs) y)

      least : (w : WaveVector) → AreEquivalent (LatticeOf cs) w (wave_of m 1) → HasNoNegative w → IsAtMost (wave_component (wave_of (candidate (length cs) y) 1)) (wave_component w)
      least w f nonneg = subst (λ (v : WaveVector). IsAtMost (wave_component (wave_of (candidate (length cs) y) 1)) (wave_component v)) (sym numbers.1)
          (least_listed numbers.0 (subst (λ (v : WaveVector). AreEquivalent (LatticeOf cs) v (wave_of m 1)) numbers.1 f) (subst HasNoNegative numbers.1 nonneg))
        where
          numbers : (u : List ℤ) × (w ≡ wave_of u 1)
          numbers = listed w (λ i. subst IsWhole (back (wave_component w i) (wave_component (wave_of m 1) i))
              (whole-add (rationals.add (wave_component w i) (rationals.neg (wave_component (wave_of m 1) i))) (wave_component (wave_of m 1) i)
              (subst IsWhole (wave_component-sub w (wave_of m 1) i) (reciprocal_whole cs list.zero (w ⊖ wave_of m 1) f i)) (whole_listed m i)))

-- the order stays where each number is added to both
at_most-shift : {n : ℕ} (f g f2 g2 h : Fin n → Rational) → ((i : Fin n) → f2 i ≡ rationals.add (f i) (h i)) → ((i : Fin n) → g2 i ≡ rationals.add (g i) (h i)) → IsAtMost f g → IsAtMost f2 g2
at_most-shift f g f2 g2 h p q (inl e) = inl (λ i. p i ∙ ap (λ x. rationals.add x (h i)) (e i) ∙ sym (q i))
at_most-shift f g f2 g2 h p q (inr b) = inr (record {
  place = b.place;
  before = λ i l. p i ∙ ap (λ x. rationals.add x (h i)) (b.before i l) ∙ sym (q i);
  less = subst₂ (λ x y. x <ℚ y) (sym (p b.place)) (sym (q b.place)) (lt-add (f b.place) (g b.place) (h b.place) b.less);
})

module _ (cs : List Vec3) (list : IsCentringList cs) (a m s c : List ℤ) (b : ℕ) (positive : 0 < b)
    (floors : (i : Fin 3) → entry m i ≡ int_div_euclid (entry a i) (pos b)) (shifted : (i : Fin 3) → entry c i ≡ int_rem_euclid (entry a i) (pos b) +ℤ (entry s i *ℤ pos b)) where
  -- what is left over the floor
  rest : Fin 3 → Rational
  rest i = ratio (int_rem_euclid (entry a i) (pos b)) b

  before-parts : (i : Fin 3) → wave_component (wave_of a b) i ≡ rationals.add (wave_component (wave_of m 1) i) (rest i)
  unfolding rest
  before-parts i = wave_component-wave_of a b i ∙ more (ratio (entry a i) b) (integer rationals (int_div_euclid (entry a i) (pos b)))
      ∙ ap₂ rationals.add (integer-ratio (int_div_euclid (entry a i) (pos b)) ∙ ap (λ x. ratio x 1) (sym (floors i)) ∙ sym (wave_component-wave_of m 1 i)) (sym (ratio-rem (entry a i) b positive))
    where
      more : (x y : Rational) → x ≡ rationals.add y (rationals.add x (rationals.neg y))
      more x y = simp (ring_laws, rationals)

  after-parts : (i : Fin 3) → wave_component (wave_of c b) i ≡ rationals.add (wave_component (wave_of s 1) i) (rest i)
  unfolding rest
  after-parts i = wave_component-wave_of c b i ∙ ap (λ x. ratio x b) (shifted i) ∙ sym (ratio-add_same (int_rem_euclid (entry a i) (pos b)) (entry s i *ℤ pos b) b)
      ∙ rationals.add_comm (ratio (int_rem_euclid (entry a i) (pos b)) b) (ratio (entry s i *ℤ pos b) b)
      ∙ ap (λ x. rationals.add x (ratio (int_rem_euclid (entry a i) (pos b)) b))
      (ratio_same (entry s i *ℤ pos b) (entry s i) b 1 positive (omega arith) (integers.mul-one (entry s i *ℤ pos b)) ∙ sym (wave_component-wave_of s 1 i))

  rest-listed : (i : Fin 3) → wave_component (wave_of (remainders b a) b) i ≡ rest i
  unfolding rest
  rest-listed i = wave_component-wave_of (remainders b a) b i ∙ ap (λ x. ratio x b) (entry-remainders b a i)

  rest_nonneg : (i : Fin 3) → rationals.zero ≤ℚ rest i
  unfolding rest
  rest_nonneg i = rem-nonneg (entry a i) b positive

  rest_below_one : (i : Fin 3) → rest i <ℚ rationals.one
  unfolding rest
  rest_below_one i = rem-below_one (entry a i) b positive

  pub reduced_from_cell : IsReduced (LatticeOf cs) (wave_of m 1) (wave_of s 1) → IsReduced (LatticeOf cs) (wave_of a b) (wave_of c b)
  reduced_from_cell h = record { equivalent = equivalent; no_negative = no_negative; least = least }
    where
      equivalent : AreEquivalent (LatticeOf cs) (wave_of c b) (wave_of a b)
      equivalent = subst (IsReciprocal (LatticeOf cs)) (wave-ext (wave_of s 1 ⊖ wave_of m 1) (wave_of c b ⊖ wave_of a b) (λ i.
          wave_component-sub (wave_of s 1) (wave_of m 1) i ∙ cancel (wave_component (wave_of s 1) i) (wave_component (wave_of m 1) i) (rest i)
          ∙ ap₂ (λ x y. rationals.add x (rationals.neg y)) (sym (after-parts i)) (sym (before-parts i)) ∙ sym (wave_component-sub (wave_of c b) (wave_of a b) i))) h.equivalent
        where
          cancel : (x y r : Rational) → rationals.add x (rationals.neg y) ≡ rationals.add (rationals.add x r) (rationals.neg (rationals.add y r))
          cancel x y r = simp (ring_laws, rationals)

      no_negative : HasNoNegative (wave_of c b)
      no_negative i = subst (λ x. rationals.zero ≤ℚ x) (sym (after-parts i)) (le_of_nonneg (rationals.add (wave_component (wave_of s 1) i) (rest i))
          (nonneg-add (wave_component (wave_of s 1) i) (rest i) (nonneg_of_le (wave_component (wave_of s 1) i) (h.no_negative i)) (nonneg_of_le (rest i) (rest_nonneg i))))

      least : (w : WaveVector) → AreEquivalent (LatticeOf cs) w (wave_of a b) → HasNoNegative w → IsAtMost (wave_component (wave_of c b)) (wave_component w)
      least w f nonneg = at_most-shift (wave_component (wave_of s 1)) (wave_component u) (wave_component (wave_of c b)) (wave_component w) rest after-parts
          (λ i. sym (back (wave_component w i) (rest i)) ∙ ap (λ x. rationals.add x (rest i)) (sym (u-at i)))
          (h.least u (subst (IsReciprocal (LatticeOf cs)) (wave-ext (w ⊖ wave_of a b) (u ⊖ wave_of m 1) (λ i. wave_component-sub w (wave_of a b) i ∙ moved i ∙ sym (wave_component-sub u (wave_of m 1) i))) f) u_nonneg)
        where
          u : WaveVector
          u = w ⊖ wave_of (remainders b a) b

          u-at : (i : Fin 3) → wave_component u i ≡ rationals.add (wave_component w i) (rationals.neg (rest i))
          u-at i = wave_component-sub w (wave_of (remainders b a) b) i ∙ ap (λ x. rationals.add (wave_component w i) (rationals.neg x)) (rest-listed i)

          moved : (i : Fin 3) → rationals.add (wave_component w i) (rationals.neg (wave_component (wave_of a b) i)) ≡ rationals.add (wave_component u i) (rationals.neg (wave_component (wave_of m 1) i))
          moved i = ap (λ x. rationals.add (wave_component w i) (rationals.neg x)) (before-parts i) ∙ regroup (wave_component w i) (wave_component (wave_of m 1) i) (rest i)
              ∙ ap (λ x. rationals.add x (rationals.neg (wave_component (wave_of m 1) i))) (sym (u-at i))
            where
              regroup : (x y r : Rational) → rationals.add x (rationals.neg (rationals.add y r)) ≡ rationals.add (rationals.add x (rationals.neg r)) (rationals.neg y)
              regroup x y r = simp (ring_laws, rationals)

          u_whole : (i : Fin 3) → IsWhole (rationals.add (wave_component w i) (rationals.neg (rest i)))
          u_whole i = subst IsWhole (ap (λ x. rationals.add x (wave_component (wave_of m 1) i)) (moved i) ∙ back (wave_component u i) (wave_component (wave_of m 1) i) ∙ u-at i)
              (whole-add (rationals.add (wave_component w i) (rationals.neg (wave_component (wave_of a b) i))) (wave_component (wave_of m 1) i)
              (subst IsWhole (wave_component-sub w (wave_of a b) i) (reciprocal_whole cs list.zero (w ⊖ wave_of a b) f i)) (whole_listed m i))

          u_nonneg : HasNoNegative u
          u_nonneg i = subst (λ x. rationals.zero ≤ℚ x) (sym (u-at i)) (le_of_nonneg (rationals.add (wave_component w i) (rationals.neg (rest i)))
              (least_in_cell (rest i) (wave_component w i) (rest_below_one i) (nonneg i) (u_whole i)))

-- numbers in lowest terms stay so where multiples of the denominator are added
pub lowest_shifted : (a s c : Fin 3 → ℤ) (b : ℕ) → AreLowest a b → ((i : Fin 3) → c i ≡ int_rem_euclid (a i) (pos b) +ℤ (s i *ℤ pos b)) → AreLowest c b
lowest_shifted a s c b low shifted = record { positive = low.positive; lowest = λ d v w. rests.lowest d v (λ i. divides_rest d v i (w i)) }
  where
    rests : AreLowest (λ i. int_rem_euclid (a i) (pos b)) b
    rests = remainders-lowest a (λ i. int_rem_euclid (a i) (pos b)) b low (λ i. refl)

    divides_rest : (d : ℕ) → d ∣ b → (i : Fin 3) → d ∣ unsigned_abs (c i) → d ∣ unsigned_abs (int_rem_euclid (a i) (pos b))
    divides_rest d v i w = dvd_of_whole (int_rem_euclid (a i) (pos b)) d d_positive (subst IsWhole
        (ap (λ x. rationals.add x (rationals.neg (ratio (s i *ℤ pos b) d))) (ap (λ x. ratio x d) (shifted i) ∙ sym (ratio-add_same (int_rem_euclid (a i) (pos b)) (s i *ℤ pos b) d)) ∙ drop (ratio (int_rem_euclid (a i) (pos b)) d) (ratio (s i *ℤ pos b) d))
        (whole-add (ratio (c i) d) (rationals.neg (ratio (s i *ℤ pos b) d)) (whole_ratio (c i) d d_positive w)
        (whole-neg (ratio (s i *ℤ pos b) d) (whole_ratio (s i *ℤ pos b) d d_positive (subst (λ x. d ∣ x) (sym (unsigned_abs-mul (s i) (pos b))) (Nat.dvd-mul_left_of_dvd d v (unsigned_abs (s i))))))))
      where
        d_positive : 0 < d
        d_positive = Nat.pos_of_dvd_of_pos v low.positive

        drop : (x y : Rational) → rationals.add (rationals.add x y) (rationals.neg y) ≡ x
        drop x y = simp (ring_laws, rationals)
