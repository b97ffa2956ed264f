-- Sizes of the vectors of products of operations, and of differences of these.
--   product_sizes         a product whose factors' vectors have components of at most a and b in absolute value
--   difference_sizes      a difference of vectors with components of at most p and q
--   difference_fits       it fits where the denominators have a small common one
use Rattle.std.proofs.Common.{◌≡◌, sym, ◌∙◌, ap, subst, refl, ℕ, ◌+◌, ◌*◌, ◌<◌, ◌≤◌, ◌^◌, ℤ, pos, ◌+ℤ◌, ◌-ℤ◌, ◌*ℤ◌}
use Rattle.std.proofs.Common.{neg_ℤ, unsigned_abs, List, [], ◌∷◌, get_or, arith}
use Rattle.std.proofs.lemmas.Int.{ints}
use native.Mathlib.Nat as Nat
use Rattle.irr_algebra.specs.Fin.{Fin, to_nat}
use Rattle.irr_algebra.specs.Matrix.{◌·◌, ◌⊕◌, ◌⊖◌}
use Rattle.irr_rational.specs.Integer.{whole_matrix}
use Rattle.irr_rational.specs.Rational.{rationals, ratio}
use Rattle.irr_rational.proofs.Ratios.{ratio-neg}
use Rattle.irr_rational.specs.Ratio.{entry}
use Rattle.irr_space.specs.Operation.{Operation, ◌⊙◌, component}
use Rattle.irr_rat.specs.Lcm.{IsLcm}
use Rattle.irr_rat.specs.VectorMeaning.{vector_of, Fits}
use Rattle.irr_rat.specs.declared.vec3.Vec3.{Vec3}
use Rattle.irr_rat.proofs.Vectors.{component-vector_of, component-add, component-sub, vector-ext, vector_of-add}
use Rattle.irr_rat.proofs.Vectors.{vector_of-sub, each_of_three}
use Rattle.irr_seitz.specs.Rotation.{IsWithin}
use Rattle.irr_seitz.specs.OperationMeaning.{operation}
use Rattle.irr_seitz.specs.declared.op.Op.{Op}
use Rattle.irr_seitz.proofs.Sizes.{abs-add, abs-sub, abs-mul}
use Rattle.irr_seitz.proofs.Vectors.{IsTurned, turned_at, turned_bound, turned_vector, fits_over_lcm}
use Rattle.irr_little.proofs.Shifts.{small_of_over}

-- a sum and a difference of numerators over the product of the denominators
sum_of : List ℤ → List ℤ → ℕ → ℕ → List ℤ
sum_of a c b d = ((get_or a 0 (pos 0) *ℤ pos d) +ℤ (get_or c 0 (pos 0) *ℤ pos b)) ∷
    ((get_or a 1 (pos 0) *ℤ pos d) +ℤ (get_or c 1 (pos 0) *ℤ pos b))
    ∷ ((get_or a 2 (pos 0) *ℤ pos d) +ℤ (get_or c 2 (pos 0) *ℤ pos b)) ∷ []

difference_of : List ℤ → List ℤ → ℕ → ℕ → List ℤ
difference_of a c b d = ((get_or a 0 (pos 0) *ℤ pos d) -ℤ (get_or c 0 (pos 0) *ℤ pos b)) ∷
    ((get_or a 1 (pos 0) *ℤ pos d) -ℤ (get_or c 1
    (pos 0) *ℤ pos b))
    ∷ ((get_or a 2 (pos 0) *ℤ pos d) -ℤ (get_or c 2 (pos 0) *ℤ pos b)) ∷ []

sum_of-at : (a c : List ℤ) (b d : ℕ) (i : Fin 3) → entry (sum_of a c b d) i ≡ (entry a i *ℤ pos d) +ℤ
    (entry c i *ℤ pos b)
unfolding sum_of to_nat
sum_of-at a c b d = each_of_three (λ i. entry (sum_of a c b d) i ≡ (entry a i *ℤ pos d) +ℤ (entry c i *ℤ pos b)) refl
    refl refl

difference_of-at : (a c : List ℤ) (b d : ℕ) (i : Fin 3) → entry (difference_of a c b d) i ≡ (entry a i *ℤ pos d) -ℤ
    (entry c i *ℤ pos b)
unfolding difference_of to_nat
difference_of-at a c b d = each_of_three (λ i. entry (difference_of a c b d) i ≡ (entry a i *ℤ pos d) -ℤ
    (entry c i *ℤ pos b)) refl refl refl

sum_of-vector : (a c : List ℤ) (b d : ℕ) → 0 < b → 0 < d → vector_of (sum_of a c b d)
    (b * d) ≡ vector_of a b ⊕ vector_of c d
unfolding sum_of
sum_of-vector a c b d p q = vector_of-add a c (sum_of a c b d) b d p q refl refl refl

difference_of-vector : (a c : List ℤ) (b d : ℕ) → 0 < b → 0 < d → vector_of (difference_of a c b d)
    (b * d) ≡ vector_of a b ⊖ vector_of c d
unfolding difference_of
difference_of-vector a c b d p q = vector_of-sub a c (difference_of a c b d) b d p q refl refl refl

-- parts of at most m b and n d over b and d
part_bound : (x : ℤ) (b d m : ℕ) → unsigned_abs x ≤ m * b → unsigned_abs (x *ℤ pos d) ≤ m * (b * d)
part_bound x b d m h = subst (λ v. unsigned_abs (x *ℤ pos d) ≤ v) (Nat.mul_assoc m b d)
    (abs-mul x (pos d) (m * b) d h (omega arith))

swapped_bound : (y : ℤ) (b d n : ℕ) → unsigned_abs y ≤ n * d → unsigned_abs (y *ℤ pos b) ≤ n * (b * d)
swapped_bound y b d n h = subst (λ v. unsigned_abs (y *ℤ pos b) ≤ v)
    (Nat.mul_assoc n d b ∙ ap (λ v. n * v) (Nat.mul_comm d b)) (abs-mul y (pos b)
    (n * d) b h (omega arith))

sum_bound : (a c : List ℤ) (b d m n : ℕ) → ((i : Fin 3) → unsigned_abs (entry a i) ≤ m * b) →
    ((i : Fin 3) → unsigned_abs (entry c i) ≤ n * d)
    → (i : Fin 3) → unsigned_abs (entry (sum_of a c b d) i) ≤ (m + n) * (b * d)
sum_bound a c b d m n h k i = subst (λ x. unsigned_abs x ≤ (m + n) * (b * d)) (sym (sum_of-at a c b d i))
    (subst (λ v. unsigned_abs ((entry a i *ℤ pos d) +ℤ (entry c i *ℤ pos b)) ≤ v) (sym (Nat.add-mul m n (b * d)))
    (abs-add (entry a i *ℤ pos d) (entry c i *ℤ pos b) (m * (b * d)) (n * (b * d)) (part_bound (entry a i) b d m (h i))
    (swapped_bound
    (entry c i) b d n (k i))))

difference_bound : (a c : List ℤ) (b d m n : ℕ) → ((i : Fin 3) → unsigned_abs (entry a i) ≤ m * b) →
    ((i : Fin 3) → unsigned_abs (entry c i) ≤ n * d)
    → (i : Fin 3) → unsigned_abs (entry (difference_of a c b d) i) ≤ (m + n) * (b * d)
difference_bound a c b d m n h k i = subst (λ x. unsigned_abs x ≤ (m + n) * (b * d)) (sym (difference_of-at a c b d i))
    (subst (λ v. unsigned_abs ((entry a i *ℤ pos d) -ℤ (entry c i *ℤ pos b)) ≤ v) (sym (Nat.add-mul m n (b * d)))
    (abs-sub (entry a i *ℤ pos d) (entry c i *ℤ pos b) (m * (b * d)) (n * (b * d)) (part_bound (entry a i) b d m (h i))
    (swapped_bound
    (entry c i) b d n (k i))))

-- opposite numerators
negated : List ℤ → List ℤ
negated c = neg_ℤ (get_or c 0 (pos 0)) ∷ neg_ℤ (get_or c 1 (pos 0)) ∷ neg_ℤ (get_or c 2 (pos 0)) ∷ []

negated-at : (c : List ℤ) (i : Fin 3) → entry (negated c) i ≡ neg_ℤ (entry c i)
unfolding negated to_nat
negated-at c = each_of_three (λ i. entry (negated c) i ≡ neg_ℤ (entry c i)) refl refl refl

neg_small : (x : ℤ) (n : ℕ) → unsigned_abs x ≤ n → unsigned_abs (neg_ℤ x) ≤ n
neg_small x n h = subst (λ y. unsigned_abs y ≤ n) (let e : pos 0 -ℤ x ≡ neg_ℤ x = omega (arith, ints) in e)
    (let a : unsigned_abs (pos 0 -ℤ x) ≤ 0 + n = abs-sub (pos 0) x 0 n (omega arith) h in omega arith)

difference_as_sum : (a c : List ℤ) (b d : ℕ) → 0 < d → vector_of a b ⊕ vector_of
    (negated c) d ≡ vector_of a b ⊖ vector_of c d
difference_as_sum a c b d h = vector-ext (vector_of a b ⊕ vector_of (negated c) d) (vector_of a b ⊖ vector_of c d)
    (λ i. component-add (vector_of a b) (vector_of (negated c) d) i
    ∙ ap (rationals.add (component (vector_of a b) i)) (component-vector_of (negated c) d i ∙ ap (λ x. ratio x d)
    (negated-at c i)
    ∙ ratio-neg (entry c i) d h ∙ ap rationals.neg (sym (component-vector_of c d i)))
    ∙ sym (component-sub (vector_of a b) (vector_of c d) i))

-- of numerators of at most m and 100,000 n
pub difference_fits : (a c : List ℤ) (b d m n : ℕ) → 0 < b → 0 < d → ((l : ℕ) → IsLcm b d l → l ≤ 100000)
    → ((i : Fin 3) → unsigned_abs (entry a i) ≤ m) → ((i : Fin 3) → unsigned_abs (entry c i) ≤ n)
    → 100000 * m + 100000 * n < 2 ^ 63
    → Fits (vector_of a b ⊖ vector_of c d)
difference_fits a c b d m n hb hd small first second room = subst Fits (difference_as_sum a c b d hd)
    (fits_over_lcm a (negated c) b d m n hb hd small first
    (λ i. subst (λ x. unsigned_abs x ≤ n) (sym (negated-at c i)) (neg_small (entry c i) n (second i))) room)

-- a rotation times numerators
turned_of : List (List ℤ) → List ℤ → List ℤ
turned_of rot num = turned_at rot num 0 ∷ turned_at rot num 1 ∷ turned_at rot num 2 ∷ []

turned_of-is : (rot : List (List ℤ)) (num : List ℤ) → IsTurned rot num (turned_of rot num)
unfolding turned_of
turned_of-is rot num = record { x = refl; y = refl; z = refl }

product-vector : (g h : Operation) → (g ⊙ h).vector ≡ g.vector ⊕ (whole_matrix rationals g.rotation · h.vector)
unfolding ◌⊙◌
product-vector g h = refl

module _ (g h both : Op) (a b : ℕ) (within : IsWithin 9 (operation g).rotation)
    (left : (i : Fin 3) → unsigned_abs (entry g.num i) ≤ a * g.den)
    (right : (i : Fin 3) → unsigned_abs (entry h.num i) ≤ b * h.den)
    (is : operation both ≡ operation g ⊙ operation h) where
  turned_numbers : (i : Fin 3) → unsigned_abs (entry (turned_of g.rot h.num) i) ≤ (27 * b) * h.den
  turned_numbers i =
      let l : unsigned_abs (entry (turned_of g.rot h.num) i) ≤ (9 * (b * h.den) + 9 * (b * h.den)) + 9 * (b * h.den)
      = turned_bound g.rot h.num (turned_of g.rot h.num) 9 (b * h.den) within right (turned_of-is g.rot h.num) i in
      let e : (27 * b) * h.den ≡ 27 * (b * h.den) = Nat.mul_assoc 27 b h.den in
      omega arith

  both_vector : vector_of both.num both.den ≡ vector_of (sum_of g.num (turned_of g.rot h.num) g.den h.den)
      (g.den * h.den)
  both_vector = ap (λ (f : Operation). f.vector) is ∙ product-vector (operation g) (operation h)
      ∙ ap (λ v. vector_of g.num g.den ⊕ v) (sym (turned_vector g.rot h.num
      (turned_of g.rot h.num) h.den h.lowest.positive
      (turned_of-is g.rot h.num)))
      ∙ sym (sum_of-vector g.num (turned_of g.rot h.num) g.den h.den g.lowest.positive h.lowest.positive)

  pub product_sizes : (i : Fin 3) → unsigned_abs (entry both.num i) ≤ (a + 27 * b) * both.den
  product_sizes = small_of_over both.num (sum_of g.num (turned_of g.rot h.num) g.den h.den) both.den (g.den * h.den)
      (a + 27 * b) both.lowest
      (Nat.mul-pos g.lowest.positive h.lowest.positive) both_vector
      (sum_bound g.num (turned_of g.rot h.num) g.den h.den a (27 * b) left turned_numbers)

pub difference_sizes : (g h : Op) (t : Vec3) (p q : ℕ) → ((i : Fin 3) → unsigned_abs (entry g.num i) ≤ p * g.den)
    → ((i : Fin 3) → unsigned_abs (entry h.num i) ≤ q * h.den) → vector_of t.num t.den ≡ (operation g).vector ⊖
    (operation h).vector
    → (i : Fin 3) → unsigned_abs (entry t.num i) ≤ (p + q) * t.den
difference_sizes g h t p q left right same = small_of_over t.num (difference_of g.num h.num g.den h.den) t.den
    (g.den * h.den) (p + q) t.lowest
    (Nat.mul-pos g.lowest.positive h.lowest.positive)
    (same ∙ sym (difference_of-vector g.num h.num g.den h.den g.lowest.positive h.lowest.positive))
    (difference_bound g.num h.num g.den h.den p q left right)
