-- The sum of two wave vectors over n, in lowest terms.
--   lowest_divides     the denominator divides n
--   lowest_limits      numerators and denominator are within the limits
--   lowest_is_sum      and it is the sum
use Rattle.std.proofs.Common.{◌≡◌, sym, ◌∙◌, ap, ap₂, subst, refl, ℕ, ◌*◌, ◌/◌, ◌<◌, ◌≤◌, ◌^◌, ℤ, pos, ◌+ℤ◌, ◌*ℤ◌, unsigned_abs, List, arith}
use Rattle.std.proofs.lemmas.Int.{unsigned_abs-mul}
use Rattle.std.specs.Int.{◌∣◌}
use native.Mathlib.Nat as Nat
use Rattle.irr_algebra.specs.Fin.{Fin}
use Rattle.irr_algebra.specs.Ring.{whole}
use Rattle.irr_algebra.specs.Matrix.{◌⊕◌}
use Rattle.irr_number.specs.Integers.{integers}
use Rattle.irr_rational.specs.Rational.{rationals, ratio, IsWhole}
use Rattle.irr_rational.specs.Ratio.{entry}
use Rattle.irr_rational.proofs.Ratios.{cross_of_ratio, ratio_same}
use Rattle.irr_rational.proofs.WholeNumbers.{dvd_of_multiples, whole_multiple}
use Rattle.irr_space.specs.Operation.{WaveVector, component, wave_component}
use Rattle.irr_lattice.proofs.Vectors.{wave-ext}
use Rattle.irr_rat.specs.declared.vec3.Vec3.{Vec3}
use Rattle.irr_rat.specs.VectorMeaning.{vector, vector_of}
use Rattle.irr_rat.proofs.Vectors.{component-vector_of}
use Rattle.irr_kvec.specs.WaveMeaning.{wave_of, wave_vector}
use Rattle.irr_kvec.specs.declared.wave.Wave.{Wave}
use Rattle.irr_kvec.proofs.Products.{wave_component-wave_of, ratio-add_same}

wave_component-add : (k l : WaveVector) (i : Fin 3)
    → wave_component (k ⊕ l) i ≡ rationals.add (wave_component k i) (wave_component l i)
unfolding wave_component ◌⊕◌
wave_component-add k l i = refl

module _ (n : ℕ) (positive : 0 < n) (num : List ℤ) (v : Vec3) (is : vector v ≡ vector_of num n) where
  same_at : (i : Fin 3) → ratio (entry v.num i) v.den ≡ ratio (entry num i) n
  same_at i = sym (component-vector_of v.num v.den i) ∙ ap (λ u. component u i) is ∙ component-vector_of num n i

  pub lowest_divides : v.den ∣ n
  lowest_divides = dvd_of_multiples {m = 3} (entry v.num) v.den n v.lowest (λ i. subst
      (λ x. IsWhole (rationals.mul (whole rationals n) x)) (sym (same_at i))
      (whole_multiple (entry num i) n n positive (Nat.dvd_refl n)))

  lowest_below : v.den ≤ n
  lowest_below = Nat.le_of_dvd positive lowest_divides

  -- in lowest terms the numerators are not greater
  not_greater : (i : Fin 3) → unsigned_abs (entry v.num i) ≤ unsigned_abs (entry num i)
  not_greater i = Nat.le_of_mul-le-mul_right (subst (λ m. m ≤ unsigned_abs (entry num i) * n) (sym cross)
      (Nat.mul-le-mul (Nat.le_refl (unsigned_abs (entry num i))) lowest_below)) positive
    where
      cross : unsigned_abs (entry v.num i) * n ≡ unsigned_abs (entry num i) * v.den
      cross = sym (unsigned_abs-mul (entry v.num i) (pos n)) ∙ ap unsigned_abs
          (cross_of_ratio (entry v.num i) (entry num i) v.den n v.lowest.positive positive (same_at i))
          ∙ unsigned_abs-mul (entry num i) (pos v.den)

  pub lowest_limits : n ≤ 12000 → ((i : Fin 3) → unsigned_abs (entry num i) ≤ 10 ^ 12)
      → ((i : Fin 3) → unsigned_abs (entry v.num i) ≤ 10 ^ 14) × (v.den ≤ 10 ^ 7)
  lowest_limits within small = (
    λ i. let a = not_greater i in let b = small i in omega (arith, a, b),
    (let a = lowest_below in omega (arith, a, within)),
  )

  pub lowest_is_sum : (a b : Wave) → a.den ∣ n → b.den ∣ n
      → ((i : Fin 3) → entry num i ≡ (entry a.num i *ℤ pos (n / a.den)) +ℤ (entry b.num i *ℤ pos (n / b.den)))
      → wave_of v.num v.den ≡ wave_vector a ⊕ wave_vector b
  lowest_is_sum a b p q values = wave-ext (wave_of v.num v.den) (wave_vector a ⊕ wave_vector b)
      (λ i. wave_component-wave_of v.num v.den i ∙ same_at i ∙ ap (λ x. ratio x n) (values i)
      ∙ sym (ratio-add_same (entry a.num i *ℤ pos (n / a.den)) (entry b.num i *ℤ pos (n / b.den)) n)
      ∙ ap₂ rationals.add (over_n a p i) (over_n b q i)
      ∙ sym (wave_component-add (wave_vector a) (wave_vector b) i))
    where
      over_n : (w : Wave) → w.den ∣ n → (i : Fin 3)
          → ratio (entry w.num i *ℤ pos (n / w.den)) n ≡ wave_component (wave_vector w) i
      over_n w d i = ratio_same (entry w.num i *ℤ pos (n / w.den)) (entry w.num i) n w.den positive w.lowest.positive
          (integers.mul_assoc (entry w.num i) (pos (n / w.den)) (pos w.den)
          ∙ ap (λ m. entry w.num i *ℤ pos m) (Nat.div-mul_cancel w.den d))
          ∙ sym (wave_component-wave_of w.num w.den i)
