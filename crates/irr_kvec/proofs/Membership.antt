-- The program's tests of membership in the reciprocal lattice.
--   tests_of_reciprocal, reciprocal_of_tests     the numbers over den are whole, and whole along each centring
--   same_denominator                             equivalent wave vectors in lowest terms have one denominator
--   wave_of-differences                          differences over one denominator
use Rattle.std.proofs.Common.{◌≡◌, sym, ◌∙◌, ap, ap₂, subst, ℕ, zero, suc, ◌<◌, ℤ, pos, ◌-ℤ◌, ◌+ℤ◌, neg_ℤ, List, length, get_or, All, arith}
use Rattle.std.proofs.lemmas.Int.{ints}
use Rattle.std.proofs.lemmas.List.{get_or_default}
use Rattle.std.proofs.lemmas.List.Elements.{All-contains, Contains-get_or}
use Rattle.std.specs.Int.{◌∣◌}
use native.Mathlib.Nat as Nat
use Rattle.irr_algebra.specs.Fin.{Fin, to_nat}
use Rattle.irr_algebra.specs.Fin.Fin.{first, next}
use Rattle.irr_algebra.specs.Matrix.{◌⊖◌, null}
use Rattle.irr_algebra.specs.Ring.{whole}
use Rattle.irr_algebra.proofs.Rings.{ring_laws}
use Rattle.irr_rational.specs.Rational.{Rational, rationals, ratio, IsWhole}
use Rattle.irr_rational.specs.Ratio.{AreLowest, entry}
use Rattle.irr_rational.proofs.Integers.{integer-pos}
use Rattle.irr_rational.proofs.Ratios.{ratio-neg}
use Rattle.irr_rational.proofs.WholeNumbers.{whole-integer, whole-add, whole-mul, whole-neg, whole_multiple, whole_multiples}
use Rattle.irr_space.specs.Operation.{dot}
use Rattle.irr_space.specs.Reciprocal.{IsReciprocal}
use Rattle.irr_lattice.proofs.Vectors.{IsWholeWave, wave-ext, wave_component-sub}
use Rattle.irr_rat.specs.declared.vec3.Vec3.{Vec3}
use Rattle.irr_rat.specs.VectorMeaning.{vector}
use Rattle.irr_rat.specs.Lowest.{AreThreeLowest}
use Rattle.irr_kvec.specs.WaveMeaning.{wave_of}
use Rattle.irr_kvec.specs.Centrings.{IsCentred, LatticeOf}
use Rattle.irr_kvec.proofs.Lattices.{reciprocal_whole, reciprocal_centring, reciprocal_from}
use Rattle.irr_kvec.proofs.Products.{wave_component-wave_of, at_places, ratio-add_same}

-- what holds of three elements holds at the three places
at_each : (P : ℤ → Type 0) (xs : List ℤ) → length xs ≡ 3 → All P xs → (i : Fin 3) → P (entry xs i)
at_each P xs l h = at_places P xs (h 0 (pos 0) (omega arith)) (h 1 (pos 0) (omega arith)) (h 2 (pos 0) (omega arith))

place_below : (P : ℤ → Type 0) (xs : List ℤ) → ((i : Fin 3) → P (entry xs i)) → (k : ℕ) → k < 3 → P (get_or xs k (pos 0))
unfolding to_nat
place_below P xs h zero b = h first
place_below P xs h (suc zero) b = h (next first)
place_below P xs h (suc (suc zero)) b = h (next (next first))
place_below P xs h (suc (suc (suc k))) b = absurd (omega arith)

all_of_places : (P : ℤ → Type 0) (xs : List ℤ) → length xs ≡ 3 → ((i : Fin 3) → P (entry xs i)) → All P xs
all_of_places P xs l h k d b = subst P (get_or_default xs k (pos 0) d b) (place_below P xs h k (omega arith))

module _ (cs : List Vec3) (zero_centred : IsCentred cs null) (num : List ℤ) (den : ℕ) (three : length num ≡ 3) where
  pub tests_of_reciprocal : IsReciprocal (LatticeOf cs) (wave_of num den)
      → All (λ x. IsWhole (ratio x den)) num × All (λ centring. IsWhole (dot (wave_of num den) (vector centring))) cs
  tests_of_reciprocal h = (
    all_of_places (λ x. IsWhole (ratio x den)) num three (λ i. subst IsWhole (wave_component-wave_of num den i) (reciprocal_whole cs zero_centred (wave_of num den) h i)),
    λ k d b. reciprocal_centring cs zero_centred (wave_of num den) h (get_or cs k d) (Contains-get_or cs k d b),
  )

  pub reciprocal_of_tests : All (λ x. IsWhole (ratio x den)) num → All (λ centring. IsWhole (dot (wave_of num den) (vector centring))) cs → IsReciprocal (LatticeOf cs) (wave_of num den)
  reciprocal_of_tests w along = reciprocal_from cs zero_centred (wave_of num den)
      (λ i. subst IsWhole (sym (wave_component-wave_of num den i)) (at_each (λ x. IsWhole (ratio x den)) num three w i))
      (λ c m. All-contains (λ centring. IsWhole (dot (wave_of num den) (vector centring))) cs c along m)

-- the denominator of the one divides that of the other
divides : (a c : Fin 3 → ℤ) (b d : ℕ) → AreLowest a b → 0 < d → ((i : Fin 3) → IsWhole (rationals.add (ratio (a i) b) (rationals.neg (ratio (c i) d)))) → b ∣ d
divides a c b d low h w = (whole_multiples a b d low).0 (λ i. subst IsWhole (parts (whole rationals d) (ratio (a i) b) (ratio (c i) d))
    (whole-add (rationals.mul (whole rationals d) (rationals.add (ratio (a i) b) (rationals.neg (ratio (c i) d)))) (rationals.mul (whole rationals d) (ratio (c i) d))
    (whole-mul (whole rationals d) (rationals.add (ratio (a i) b) (rationals.neg (ratio (c i) d))) (subst IsWhole (integer-pos rationals d) (whole-integer (pos d))) (w i))
    (whole_multiple (c i) d d h (Nat.dvd_refl d))))
  where
    parts : (n x y : Rational) → rationals.add (rationals.mul n (rationals.add x (rationals.neg y))) (rationals.mul n y) ≡ rationals.mul n x
    parts n x y = simp (ring_laws, rationals)

pub same_denominator : (a c : List ℤ) (b d : ℕ) → AreThreeLowest a b → AreThreeLowest c d → IsWholeWave (wave_of a b ⊖ wave_of c d) → b ≡ d
same_denominator a c b d low other w = Nat.dvd_antisymm (divides (entry a) (entry c) b d low other.positive difference)
    (divides (entry c) (entry a) d b other low.positive (λ i. subst IsWhole (flip (ratio (entry a i) b) (ratio (entry c i) d)) (whole-neg (rationals.add (ratio (entry a i) b) (rationals.neg (ratio (entry c i) d))) (difference i))))
  where
    flip : (x y : Rational) → rationals.neg (rationals.add x (rationals.neg y)) ≡ rationals.add y (rationals.neg x)
    flip x y = simp (ring_laws, rationals)

    difference : (i : Fin 3) → IsWhole (rationals.add (ratio (entry a i) b) (rationals.neg (ratio (entry c i) d)))
    difference i = subst IsWhole (wave_component-sub (wave_of a b) (wave_of c d) i ∙ ap₂ (λ x y. rationals.add x (rationals.neg y)) (wave_component-wave_of a b i) (wave_component-wave_of c d i)) (w i)

pub wave_of-differences : (a c r : List ℤ) (d : ℕ) → 0 < d → ((i : Fin 3) → entry r i ≡ entry a i -ℤ entry c i) → wave_of r d ≡ wave_of a d ⊖ wave_of c d
wave_of-differences a c r d h e = wave-ext (wave_of r d) (wave_of a d ⊖ wave_of c d) (λ i. wave_component-wave_of r d i ∙ ap (λ x. ratio x d) (e i ∙ plus (entry a i) (entry c i))
    ∙ sym (ratio-add_same (entry a i) (neg_ℤ (entry c i)) d) ∙ ap (λ x. rationals.add (ratio (entry a i) d) x) (ratio-neg (entry c i) d h)
    ∙ sym (wave_component-sub (wave_of a d) (wave_of c d) i ∙ ap₂ (λ x y. rationals.add x (rationals.neg y)) (wave_component-wave_of a d i) (wave_component-wave_of c d i)))
  where
    plus : (x y : ℤ) → x -ℤ y ≡ x +ℤ neg_ℤ y
    plus x y = omega (arith, ints)
