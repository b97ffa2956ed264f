-- Rotations of vectors of fractions, and their sums over a least common denominator.
--   IsTurned rot num t     t has the rows of a rotation times three numerators
--   turned_bound           how large these are
--   turned_vector          a rotation times a vector over its denominator
--   fits_over_lcm          a sum fits where the least common denominator and the numerators are small
--   operation-ext          operations are the same where their parts are
use Rattle.std.proofs.Common.{◌≡◌, sym, refl, ◌∙◌, ap, ap₂, subst, ℕ, ◌+◌ as ◌+ℕ◌, ◌*◌ as ◌*ℕ◌, ◌<◌, ◌≤◌, ◌^◌, List, [], get_or, ℤ, pos, ◌+ℤ◌, ◌*ℤ◌, unsigned_abs, arith, mul-pos, lit<}
use Rattle.std.specs.Int.{◌∣◌, w64}
use Rattle.std.proofs.lemmas.Int.{fits_signed_from_abs}
use native.Mathlib.Nat as Nat
use Rattle.irr_algebra.specs.Ring.{Ring, whole}
use Rattle.irr_algebra.specs.Fin.{Fin, to_nat}
use Rattle.irr_algebra.specs.Fin.Fin.{first, next}
use Rattle.irr_algebra.specs.Sum.{sum}
use Rattle.irr_algebra.specs.Matrix.{◌·◌, ◌⊕◌}
use Rattle.irr_algebra.proofs.Rings.{mul_left_comm}
use Rattle.irr_algebra.proofs.Indices.{to_nat-lt}
use Rattle.irr_number.proofs.Primes.{cofactor, divisor_pos}
use Rattle.irr_rational.specs.Integer.{integer, whole_matrix}
use Rattle.irr_rational.specs.Rational.{rationals, ratio}
use Rattle.irr_rational.specs.Ratio.{entry, ratios}
use Rattle.irr_rational.proofs.Integers.{integer-add, integer-mul}
use Rattle.irr_rational.proofs.Ratios.{ratio_is, ratio-over, ratio-scale}
use Rattle.irr_space.specs.Operation.{Operation, Rotation, Vector, component}
use Rattle.irr_rat.specs.Lcm.{IsLcm}
use Rattle.irr_rat.specs.VectorMeaning.{Fits, vector_of}
use Rattle.irr_rat.proofs.Multiples.{lcm_exists}
use Rattle.irr_rat.proofs.Vectors.{component-vector_of, component-add, vector-ext, each_of_three}
use Rattle.irr_seitz.specs.Rotation.{rotation_of, IsWithin}
use Rattle.irr_seitz.proofs.Rotations.{within_at}
use Rattle.irr_seitz.proofs.Sizes.{abs-add, abs-mul, weighted_sum}

pub operation-ext : (g h : Operation) → g.rotation ≡ h.rotation → g.vector ≡ h.vector → g ≡ h
operation-ext g h e f = ap₂ (λ (R : Rotation) (v : Vector). record { rotation = R; vector = v }) e f

-- three whole numbers times three fractions over d
turned_sum : (a b c x y z : ℤ) (d : ℕ) → 0 < d
    → ratio (((a *ℤ x) +ℤ (b *ℤ y)) +ℤ (c *ℤ z)) d
    ≡ rationals.add (rationals.mul (integer rationals a) (ratio x d)) (rationals.add (rationals.mul (integer rationals b) (ratio y d)) (rationals.add (rationals.mul (integer rationals c) (ratio z d)) rationals.zero))
turned_sum a b c x y z d h = ratio_is _ (((a *ℤ x) +ℤ (b *ℤ y)) +ℤ (c *ℤ z)) d h
    (spread rationals (whole rationals d) (integer rationals a) (integer rationals b) (integer rationals c) (ratio x d) (ratio y d) (ratio z d)
    ∙ ap₂ rationals.add (ap₂ rationals.add (part a x) (part b y)) (part c z)
    ∙ sym (integer-add rationals ((a *ℤ x) +ℤ (b *ℤ y)) (c *ℤ z) ∙ ap (λ u. rationals.add u (integer rationals (c *ℤ z))) (integer-add rationals (a *ℤ x) (b *ℤ y))))
  where
    part : (a x : ℤ) → rationals.mul (integer rationals a) (rationals.mul (whole rationals d) (ratio x d)) ≡ integer rationals (a *ℤ x)
    part a x = ap (rationals.mul (integer rationals a)) (ratio-over x d h) ∙ sym (integer-mul rationals a x)

    spread : (R : Ring) (w a b c x y z : R.Carrier) → R.mul w (R.add (R.mul a x) (R.add (R.mul b y) (R.add (R.mul c z) R.zero)))
        ≡ R.add (R.add (R.mul a (R.mul w x)) (R.mul b (R.mul w y))) (R.mul c (R.mul w z))
    spread R w a b c x y z =
        ap (λ u. R.mul w (R.add (R.mul a x) (R.add (R.mul b y) u))) (R.add-zero (R.mul c z))
        ∙ R.mul-add w (R.mul a x) (R.add (R.mul b y) (R.mul c z))
        ∙ ap₂ R.add (mul_left_comm R w a x) (R.mul-add w (R.mul b y) (R.mul c z) ∙ ap₂ R.add (mul_left_comm R w b y) (mul_left_comm R w c z))
        ∙ sym (R.add_assoc (R.mul a (R.mul w x)) (R.mul b (R.mul w y)) (R.mul c (R.mul w z)))

-- the i-th row times the numerators
abbrev pub turned_at : List (List ℤ) → List ℤ → ℕ → ℤ
turned_at rot num i = ((get_or (get_or rot i []) 0 (pos 0) *ℤ get_or num 0 (pos 0)) +ℤ (get_or (get_or rot i []) 1 (pos 0) *ℤ get_or num 1 (pos 0))) +ℤ (get_or (get_or rot i []) 2 (pos 0) *ℤ get_or num 2 (pos 0))

-- t has the rows times the numerators
pub record IsTurned (rot : List (List ℤ)) (num t : List ℤ) : Type 0 where
  pub x : get_or t 0 (pos 0) ≡ turned_at rot num 0
  pub y : get_or t 1 (pos 0) ≡ turned_at rot num 1
  pub z : get_or t 2 (pos 0) ≡ turned_at rot num 2

turned_entry : (rot : List (List ℤ)) (num t : List ℤ) → IsTurned rot num t → (i : Fin 3) → entry t i ≡ turned_at rot num (to_nat i)
unfolding to_nat
turned_entry rot num t e = each_of_three (λ i. entry t i ≡ turned_at rot num (to_nat i)) e.x e.y e.z

component-turned : (rot : List (List ℤ)) (num : List ℤ) (d : ℕ) (i : Fin 3) → component (whole_matrix rationals (rotation_of rot) · vector_of num d) i
    ≡ rationals.add (rationals.mul (integer rationals (get_or (get_or rot (to_nat i) []) 0 (pos 0))) (ratio (get_or num 0 (pos 0)) d))
    (rationals.add (rationals.mul (integer rationals (get_or (get_or rot (to_nat i) []) 1 (pos 0))) (ratio (get_or num 1 (pos 0)) d))
    (rationals.add (rationals.mul (integer rationals (get_or (get_or rot (to_nat i) []) 2 (pos 0))) (ratio (get_or num 2 (pos 0)) d)) rationals.zero))
unfolding component ◌·◌ sum whole_matrix rotation_of vector_of ratios to_nat
component-turned rot num d i = refl

pub turned_vector : (rot : List (List ℤ)) (num t : List ℤ) (d : ℕ) → 0 < d → IsTurned rot num t → vector_of t d ≡ whole_matrix rationals (rotation_of rot) · vector_of num d
turned_vector rot num t d h e = vector-ext (vector_of t d) (whole_matrix rationals (rotation_of rot) · vector_of num d)
    (λ i. component-vector_of t d i ∙ ap (λ k. ratio k d) (turned_entry rot num t e i)
    ∙ turned_sum (get_or (get_or rot (to_nat i) []) 0 (pos 0)) (get_or (get_or rot (to_nat i) []) 1 (pos 0)) (get_or (get_or rot (to_nat i) []) 2 (pos 0)) (get_or num 0 (pos 0)) (get_or num 1 (pos 0)) (get_or num 2 (pos 0)) d h
    ∙ sym (component-turned rot num d i))

turned_row_bound : (rot : List (List ℤ)) (num : List ℤ) (m n : ℕ) → IsWithin m (rotation_of rot) → ((i : Fin 3) → unsigned_abs (entry num i) ≤ n) → (i : ℕ) → i < 3
    → unsigned_abs (turned_at rot num i) ≤ (m *ℕ n +ℕ m *ℕ n) +ℕ m *ℕ n
unfolding to_nat
turned_row_bound rot num m n hr hn i hi = weighted_sum (get_or (get_or rot i []) 0 (pos 0)) (get_or (get_or rot i []) 1 (pos 0)) (get_or (get_or rot i []) 2 (pos 0)) (get_or num 0 (pos 0)) (get_or num 1 (pos 0)) (get_or num 2 (pos 0)) m n
    (within_at m rot hr i 0 hi (lit< tt)) (within_at m rot hr i 1 hi (lit< tt)) (within_at m rot hr i 2 hi (lit< tt)) (hn first) (hn (next first)) (hn (next (next first)))

pub turned_bound : (rot : List (List ℤ)) (num t : List ℤ) (m n : ℕ) → IsWithin m (rotation_of rot) → ((i : Fin 3) → unsigned_abs (entry num i) ≤ n) → IsTurned rot num t
    → (i : Fin 3) → unsigned_abs (entry t i) ≤ (m *ℕ n +ℕ m *ℕ n) +ℕ m *ℕ n
turned_bound rot num t m n hr hn e i = subst (λ a. unsigned_abs a ≤ (m *ℕ n +ℕ m *ℕ n) +ℕ m *ℕ n) (sym (turned_entry rot num t e i)) (turned_row_bound rot num m n hr hn (to_nat i) (to_nat-lt i))

-- two fractions over one denominator
ratio-sum : (x y : ℤ) (d : ℕ) → 0 < d → ratio (x +ℤ y) d ≡ rationals.add (ratio x d) (ratio y d)
ratio-sum x y d h = ratio_is (rationals.add (ratio x d) (ratio y d)) (x +ℤ y) d h
    (rationals.mul-add (whole rationals d) (ratio x d) (ratio y d) ∙ ap₂ rationals.add (ratio-over x d h) (ratio-over y d h) ∙ sym (integer-add rationals x y))

-- a sum over the least common denominator
pub fits_over_lcm : (a c : List ℤ) (b d m n : ℕ) → 0 < b → 0 < d → ((l : ℕ) → IsLcm b d l → l ≤ 100000)
    → ((i : Fin 3) → unsigned_abs (entry a i) ≤ m) → ((i : Fin 3) → unsigned_abs (entry c i) ≤ n) → 100000 *ℕ m +ℕ 100000 *ℕ n < 2 ^ 63
    → Fits (vector_of a b ⊕ vector_of c d)
fits_over_lcm a c b d m n hb hd small ha hc room = at_lcm (lcm_exists b d hb)
  where
    at_lcm : (l : ℕ) × IsLcm b d l → Fits (vector_of a b ⊕ vector_of c d)
    at_lcm t = at_cofactors (cofactor b t.0 t.1.0) (cofactor d t.0 t.1.1)
      where
        at_cofactors : (k : ℕ) × (t.0 ≡ b *ℕ k) → (j : ℕ) × (t.0 ≡ d *ℕ j) → Fits (vector_of a b ⊕ vector_of c d)
        at_cofactors p q = record {
          num = λ i. (pos p.0 *ℤ entry a i) +ℤ (pos q.0 *ℤ entry c i);
          den = t.0;
          positive = l-pos;
          den_fits = (let l : t.0 ≤ 100000 = small t.0 t.1 in omega arith);
          num_fits = λ i. fits_signed_from_abs w64 ((pos p.0 *ℤ entry a i) +ℤ (pos q.0 *ℤ entry c i))
              (let s : unsigned_abs ((pos p.0 *ℤ entry a i) +ℤ (pos q.0 *ℤ entry c i)) ≤ 100000 *ℕ m +ℕ 100000 *ℕ n = abs-add (pos p.0 *ℤ entry a i) (pos q.0 *ℤ entry c i) (100000 *ℕ m) (100000 *ℕ n)
              (abs-mul (pos p.0) (entry a i) 100000 m (cofactor_small b p.0 hb p.1) (ha i)) (abs-mul (pos q.0) (entry c i) 100000 n (cofactor_small d q.0 hd q.1) (hc i)) in
              omega (arith, room));
          is = λ i. ratio-sum (pos p.0 *ℤ entry a i) (pos q.0 *ℤ entry c i) t.0 l-pos
              ∙ ap₂ rationals.add (scaled b p.0 (entry a i) hb p.1 ∙ sym (component-vector_of a b i)) (scaled d q.0 (entry c i) hd q.1 ∙ sym (component-vector_of c d i))
              ∙ sym (component-add (vector_of a b) (vector_of c d) i);
        }
          where
            l-pos : 0 < t.0
            l-pos = divisor_pos t.0 (b *ℕ d) (mul-pos hb hd) (t.1.2 (b *ℕ d) (Nat.dvd-mul_right_of_dvd b (Nat.dvd_refl b) d) (Nat.dvd-mul_left d b))

            cofactor_small : (e k : ℕ) → 0 < e → t.0 ≡ e *ℕ k → k ≤ 100000
            cofactor_small e k h f = let l : t.0 ≤ 100000 = small t.0 t.1 in let g : 1 *ℕ k ≤ e *ℕ k = Nat.mul-le-mul_right k h in omega arith

            scaled : (e k : ℕ) (x : ℤ) → 0 < e → t.0 ≡ e *ℕ k → ratio (pos k *ℤ x) t.0 ≡ ratio x e
            scaled e k x h f = ap (ratio (pos k *ℤ x)) (f ∙ Nat.mul_comm e k)
                ∙ ratio-scale x e k h (divisor_pos k t.0 l-pos (subst (λ n. k ∣ n) (sym f) (Nat.dvd-mul_left k e)))
