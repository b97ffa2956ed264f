-- Vectors over a common denominator.
--   IsOver D v             D times v is whole
--   over_of_divides        a vector in lowest terms is over each multiple of its denominator
--   divides_of_over        and its denominator divides each number that it is over
--   over-add, over-sub, over-turned, over_whole   sums, differences, turned and whole vectors
--   over_modulo            what differs from such a vector by a whole one
--   fits_difference        a difference of two vectors in the cell has numbers that fit
--   small_numerators       numerators in the cell are below the denominator
use Rattle.std.proofs.Common.{get_or, [], ◌∷◌, neg_ℤ, ◌-ℤ◌, ◌+◌, lit<, ◌≡◌, sym, ◌∙◌, ap, subst, refl, ℕ, List, ℤ, pos, negsuc, ◌<◌, ◌≤◌, ◌≤ℤ◌, ◌<ℤ◌, ◌*ℤ◌, unsigned_abs, arith}
use Rattle.std.proofs.lemmas.Int.{ints}
use Rattle.std.specs.Int.{◌∣◌}
use Rattle.irr_algebra.specs.Fin.{Fin, to_nat}
use Rattle.irr_algebra.specs.Fin.Fin.{first, next}
use Rattle.irr_algebra.specs.Ring.{whole}
use Rattle.irr_algebra.specs.Matrix.{◌·◌, ◌⊕◌, ◌⊖◌, scale, null}
use Rattle.irr_algebra.proofs.Rings.{ring_laws, mul-neg, zero-add}
use Rattle.irr_algebra.proofs.Matrices.{mul-scale, matrix-ext}
use Rattle.irr_rational.specs.Integer.{whole_matrix}
use Rattle.irr_rational.specs.Rational.{Rational, rationals, ratio, IsWhole}
use Rattle.irr_rational.specs.Ratio.{entry}
use Rattle.irr_rational.specs.Order.{◌≤ℚ◌, ◌<ℚ◌}
use Rattle.irr_rational.proofs.Integers.{integer-one, integer-pos}
use Rattle.irr_rational.proofs.WholeNumbers.{whole-integer, whole-add, whole-neg, whole-mul, whole_multiple, dvd_of_multiples}
use Rattle.irr_rational.proofs.Orders.{nonneg_of_ratio, nonneg_of_le, lt_of_ratio}
use Rattle.irr_rational.proofs.Ratios.{integer-ratio}
use Rattle.irr_space.specs.Operation.{Operation, Vector, Rotation, ◌⊙◌, component}
use Rattle.irr_space.specs.CanonicalOperation.{IsInCell}
use Rattle.irr_rat.specs.VectorMeaning.{vector_of, Fits}
use Rattle.irr_rat.specs.Lcm.{IsLcm}
use Rattle.irr_seitz.proofs.Sizes.{abs-sub}
use Rattle.irr_seitz.proofs.Vectors.{fits_over_lcm}
use Rattle.irr_seitz.proofs.Inverses.{opposite_vector}
use Rattle.irr_rat.specs.Lowest.{AreThreeLowest}
use Rattle.irr_rat.proofs.Vectors.{component-vector_of, component-add, component-sub, each_of_three}
use Rattle.irr_lattice.proofs.Vectors.{component-scale}
use Rattle.irr_close.specs.Whole.{IsWholeVector}
use Rattle.irr_close.proofs.Closure.{turned_whole}

abbrev pub IsOver : ℕ → Vector → Type 0
IsOver D v = (i : Fin 3) → IsWhole (rationals.mul (whole rationals D) (component v i))

pub over_of_divides : (num : List ℤ) (den D : ℕ) → 0 < den → den ∣ D → IsOver D (vector_of num den)
over_of_divides num den D h d i = subst (λ x. IsWhole (rationals.mul (whole rationals D) x)) (sym (component-vector_of num den i))
    (whole_multiple (entry num i) den D h d)

pub divides_of_over : (num : List ℤ) (den D : ℕ) → AreThreeLowest num den → IsOver D (vector_of num den) → den ∣ D
divides_of_over num den D low h =
    dvd_of_multiples {m = 3} (entry num) den D low (λ i. subst (λ x. IsWhole (rationals.mul (whole rationals D) x)) (component-vector_of num den i)
    (h i))

pub over-add : (D : ℕ) (v w : Vector) → IsOver D v → IsOver D w → IsOver D (v ⊕ w)
over-add D v w h k i = subst IsWhole
    (sym (ap (rationals.mul (whole rationals D)) (component-add v w i) ∙ rationals.mul-add (whole rationals D) (component v i) (component w i)))
    (whole-add (rationals.mul (whole rationals D) (component v i)) (rationals.mul (whole rationals D) (component w i)) (h i) (k i))

pub over-sub : (D : ℕ) (v w : Vector) → IsOver D v → IsOver D w → IsOver D (v ⊖ w)
over-sub D v w h k i = subst IsWhole
    (sym (ap (rationals.mul (whole rationals D)) (component-sub v w i)
    ∙ rationals.mul-add (whole rationals D) (component v i) (rationals.neg (component w i))
    ∙ ap (rationals.add (rationals.mul (whole rationals D) (component v i))) (mul-neg rationals (whole rationals D) (component w i))))
    (whole-add (rationals.mul (whole rationals D) (component v i)) (rationals.neg (rationals.mul (whole rationals D) (component w i))) (h i)
    (whole-neg (rationals.mul (whole rationals D) (component w i)) (k i)))

pub over_whole : (D : ℕ) (v : Vector) → IsWholeVector v → IsOver D v
over_whole D v h i = whole-mul (whole rationals D) (component v i) (subst IsWhole (integer-pos rationals D) (whole-integer (pos D))) (h i)

pub over-turned : (D : ℕ) (R : Rotation) (v : Vector) → IsOver D v → IsOver D (whole_matrix rationals R · v)
over-turned D R v h i = subst IsWhole (component-scale (whole rationals D) (whole_matrix rationals R · v) i)
    (subst (λ w. IsWhole (component w i)) (mul-scale rationals (whole rationals D) (whole_matrix rationals R) v)
    (turned_whole R (scale rationals (whole rationals D) v) (λ j. subst IsWhole (sym (component-scale (whole rationals D) v j)) (h j)) i))

pub over_modulo : (D : ℕ) (v w : Vector) → IsOver D v → IsWholeVector (v ⊖ w) → IsOver D w
over_modulo D v w h k i = subst IsWhole (given_back (whole rationals D) (component v i) (component w i))
    (whole-add (rationals.mul (whole rationals D) (component v i))
    (rationals.neg (rationals.mul (whole rationals D) (rationals.add (component v i) (rationals.neg (component w i))))) (h i)
    (whole-neg _ (subst (λ x. IsWhole (rationals.mul (whole rationals D) x)) (component-sub v w i) (over_whole D (v ⊖ w) k i))))
  where
    given_back : (c x y : Rational)
        → rationals.add (rationals.mul c x) (rationals.neg (rationals.mul c (rationals.add x (rationals.neg y)))) ≡ rationals.mul c y
    given_back c x y = simp (ring_laws, rationals)

pub small_numerators : (num : List ℤ) (den : ℕ) → 0 < den → IsInCell (vector_of num den) → (i : Fin 3) → unsigned_abs (entry num i) ≤ den
small_numerators num den p h i = small (entry num i)
    (nonneg_of_ratio (entry num i) den p
    (nonneg_of_le (ratio (entry num i) den) (subst (λ x. rationals.zero ≤ℚ x) (component-vector_of num den i) (h i).0)))
    (lt_of_ratio (entry num i) (pos 1) den 1 p (omega arith)
    (subst (λ x. ratio (entry num i) den <ℚ x) (sym (integer-one rationals) ∙ integer-ratio (pos 1))
    (subst (λ x. x <ℚ rationals.one) (component-vector_of num den i) (h i).1)))
  where
    small : (x : ℤ) → pos 0 ≤ℤ x → (x *ℤ pos 1) <ℤ (pos 1 *ℤ pos den) → unsigned_abs x ≤ den
    small (pos n) l u = omega (arith, ints)
    small (negsuc n) l u = absurd (omega (arith, ints))

pub over_product : (D : ℕ) (g h : Operation) → IsOver D g.vector → IsOver D h.vector → IsOver D (g ⊙ h).vector
unfolding ◌⊙◌
over_product D g h p q = over-add D g.vector (whole_matrix rationals g.rotation · h.vector) p (over-turned D g.rotation h.vector q)

abs_neg : (x : ℤ) (n : ℕ) → unsigned_abs x ≤ n → unsigned_abs (neg_ℤ x) ≤ n
abs_neg x n h = subst (λ y. unsigned_abs y ≤ n) (let e : pos 0 -ℤ x ≡ neg_ℤ x = omega (arith, ints) in e)
    (let a : unsigned_abs (pos 0 -ℤ x) ≤ 0 + n = abs-sub (pos 0) x 0 n (omega arith) h in omega arith)

opposites : List ℤ → List ℤ
opposites num = neg_ℤ (get_or num 0 (pos 0)) ∷ neg_ℤ (get_or num 1 (pos 0)) ∷ neg_ℤ (get_or num 2 (pos 0)) ∷ []

entry-opposites : (num : List ℤ) (n : ℕ) → ((i : Fin 3) → unsigned_abs (entry num i) ≤ n) → (i : Fin 3) → unsigned_abs (entry (opposites num) i) ≤ n
unfolding opposites to_nat
entry-opposites num n h = each_of_three (λ i. unsigned_abs (entry (opposites num) i) ≤ n) (abs_neg _ n (h first)) (abs_neg _ n (h (next first)))
    (abs_neg _ n (h (next (next first))))

sub_as_sum : (v w : Vector) → v ⊕ (null ⊖ w) ≡ v ⊖ w
unfolding ◌⊕◌ ◌⊖◌ null
sub_as_sum v w = matrix-ext (λ i j. ap (rationals.add (v.at i j)) (zero-add rationals (rationals.neg (w.at i j))))

opposites-vector : (num : List ℤ) (d : ℕ) → 0 < d → vector_of (opposites num) d ≡ null ⊖ vector_of num d
unfolding opposites
opposites-vector num d h = opposite_vector num (opposites num) d h refl refl refl

pub fits_difference : (a c : List ℤ) (b d : ℕ) → 0 < b → 0 < d → b ≤ 100000 → d ≤ 100000 → IsInCell (vector_of a b) → IsInCell (vector_of c d)
    → ((l : ℕ) → IsLcm b d l → l ≤ 100000)
    → Fits (vector_of a b ⊖ vector_of c d)
fits_difference a c b d p q hb hd cell cells small = subst Fits (ap (λ v. vector_of a b ⊕ v) (opposites-vector c d q)
    ∙ sub_as_sum (vector_of a b) (vector_of c d))
    (fits_over_lcm a (opposites c) b d 100000 100000 p q small
    (λ i. let h : unsigned_abs (entry a i) ≤ b = small_numerators a b p cell i in omega arith)
    (entry-opposites c 100000 (λ i. let h : unsigned_abs (entry c i) ≤ d = small_numerators c d q cells i in omega arith))
    (lit< tt))
