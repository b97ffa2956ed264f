-- Sizes of the vectors of products of canonical operations.
--   small_ops, small_pairs, small_product, small_numbers     common denominators and numerators
--   small_of_over                                            numerators in lowest terms are as small as the vector
--   product_numbers, difference_numbers                      products and their differences from canonical operations
use Rattle.std.proofs.Common.{◌≡◌, sym, ◌∙◌, ap, subst, refl, ℕ, ◌+◌, ◌*◌, ◌<◌, ◌≤◌, ◌^◌, ℤ, pos, ◌+ℤ◌, ◌-ℤ◌, ◌*ℤ◌, neg_ℤ, unsigned_abs, List, [], ◌∷◌, length, get_or, lit<, arith}
use Rattle.std.proofs.Math.Logic.{∥∥₁_elim}
use Rattle.std.proofs.lemmas.Int.{ints, unsigned_abs-mul}
use Rattle.std.specs.Int.{◌∣◌}
use native.Mathlib.Nat as Nat
use Rattle.irr_algebra.specs.Fin.{Fin, to_nat}
use Rattle.irr_algebra.specs.Matrix.{◌·◌, ◌⊕◌, ◌⊖◌}
use Rattle.irr_rational.specs.Integer.{whole_matrix}
use Rattle.irr_rational.specs.Rational.{rationals, ratio}
use Rattle.irr_rational.proofs.Ratios.{ratio-neg}
use Rattle.irr_rational.specs.Ratio.{entry}
use Rattle.irr_space.specs.Operation.{Operation, ◌⊙◌, component}
use Rattle.irr_space.specs.CanonicalOperation.{IsInCell}
use Rattle.irr_rat.specs.Lcm.{IsLcm}
use Rattle.irr_rat.specs.Lowest.{AreThreeLowest}
use Rattle.irr_rat.specs.VectorMeaning.{vector_of, Fits}
use Rattle.irr_rat.specs.declared.vec3.Vec3.{Vec3}
use Rattle.irr_rat.proofs.LowestForms.{lowest_divides}
use Rattle.irr_rat.proofs.Vectors.{component-vector_of, component-add, component-sub, vector-ext, vector_of-add, vector_of-sub, each_of_three}
use Rattle.irr_seitz.specs.Rotation.{IsWithin}
use Rattle.irr_seitz.specs.OperationMeaning.{operation, AreWithin}
use Rattle.irr_seitz.specs.declared.op.Op.{Op}
use Rattle.irr_seitz.proofs.Sizes.{abs-add, abs-sub, abs-mul}
use Rattle.irr_seitz.proofs.Vectors.{IsTurned, turned_at, turned_bound, turned_vector, fits_over_lcm}
use Rattle.irr_close.specs.Centring.{AreOverOne}
use Rattle.irr_close.specs.Canonical.{AreCanonical}
use Rattle.irr_close.proofs.Denominators.{IsOver, small_numerators, over_of_divides, over_product, over-sub, divides_of_over}
use Rattle.irr_close.proofs.Lattice.{divisor_small, lcm_small}
use Rattle.irr_close.proofs.Members.{small_ops, cell_at}
use Rattle.irr_close.proofs.Untruncated.{stable_le}

-- numerators in lowest terms are as small as the vector
pub small_of_over : (xs ys : List ℤ) (d e m : ℕ) → AreThreeLowest xs d → 0 < e → vector_of xs d ≡ vector_of ys e
    → ((i : Fin 3) → unsigned_abs (entry ys i) ≤ m * e) → (i : Fin 3) → unsigned_abs (entry xs i) ≤ m * d
small_of_over xs ys d e m low h same small i = at_factor (lowest_divides (entry xs) (entry ys) d e low h
    (λ j. sym (component-vector_of xs d j) ∙ ap (λ v. component v j) same ∙ component-vector_of ys e j))
  where
    at_factor : (k : ℕ) × (0 < k) × (e ≡ k * d) × ((j : Fin 3) → entry ys j ≡ pos k *ℤ entry xs j) → unsigned_abs (entry xs i) ≤ m * d
    at_factor t =
        let f : unsigned_abs (entry ys i) ≡ t.0 * unsigned_abs (entry xs i) = ap unsigned_abs (t.3 i) ∙ unsigned_abs-mul (pos t.0) (entry xs i) in
        let g : m * e ≡ t.0 * (m * d) = ap (λ v. m * v) t.2 ∙ sym (Nat.mul_assoc m t.0 d) ∙ ap (λ v. v * d) (Nat.mul_comm m t.0)
        ∙ Nat.mul_assoc t.0 m d in
        let l : t.0 * unsigned_abs (entry xs i) ≤ t.0 * (m * d) = subst (λ v. v ≤ t.0 * (m * d)) f (subst (λ v. unsigned_abs (entry ys i) ≤ v) g
        (small i)) in
        Nat.le_of_mul-le-mul_left l t.1

-- a sum and a difference of numerators over the product of the denominators
sum_of : List ℤ → List ℤ → ℕ → ℕ → List ℤ
sum_of a c b d = ((get_or a 0 (pos 0) *ℤ pos d) +ℤ (get_or c 0 (pos 0) *ℤ pos b)) ∷ ((get_or a 1 (pos 0) *ℤ pos d) +ℤ (get_or c 1 (pos 0) *ℤ pos b))
    ∷ ((get_or a 2 (pos 0) *ℤ pos d) +ℤ (get_or c 2 (pos 0) *ℤ pos b)) ∷ []

difference_of : List ℤ → List ℤ → ℕ → ℕ → List ℤ
difference_of a c b d = ((get_or a 0 (pos 0) *ℤ pos d) -ℤ (get_or c 0 (pos 0) *ℤ pos b)) ∷ ((get_or a 1 (pos 0) *ℤ pos d) -ℤ (get_or c 1
    (pos 0) *ℤ pos b))
    ∷ ((get_or a 2 (pos 0) *ℤ pos d) -ℤ (get_or c 2 (pos 0) *ℤ pos b)) ∷ []

sum_of-at : (a c : List ℤ) (b d : ℕ) (i : Fin 3) → entry (sum_of a c b d) i ≡ (entry a i *ℤ pos d) +ℤ (entry c i *ℤ pos b)
unfolding sum_of to_nat
sum_of-at a c b d = each_of_three (λ i. entry (sum_of a c b d) i ≡ (entry a i *ℤ pos d) +ℤ (entry c i *ℤ pos b)) refl refl refl

difference_of-at : (a c : List ℤ) (b d : ℕ) (i : Fin 3) → entry (difference_of a c b d) i ≡ (entry a i *ℤ pos d) -ℤ (entry c i *ℤ pos b)
unfolding difference_of to_nat
difference_of-at a c b d = each_of_three (λ i. entry (difference_of a c b d) i ≡ (entry a i *ℤ pos d) -ℤ (entry c i *ℤ pos b)) refl refl refl

sum_of-vector : (a c : List ℤ) (b d : ℕ) → 0 < b → 0 < d → vector_of (sum_of a c b d) (b * d) ≡ vector_of a b ⊕ vector_of c d
unfolding sum_of
sum_of-vector a c b d p q = vector_of-add a c (sum_of a c b d) b d p q refl refl refl

difference_of-vector : (a c : List ℤ) (b d : ℕ) → 0 < b → 0 < d → vector_of (difference_of a c b d) (b * d) ≡ vector_of a b ⊖ vector_of c d
unfolding difference_of
difference_of-vector a c b d p q = vector_of-sub a c (difference_of a c b d) b d p q refl refl refl

-- parts of at most m b and n d over b and d
part_bound : (x : ℤ) (b d m : ℕ) → unsigned_abs x ≤ m * b → unsigned_abs (x *ℤ pos d) ≤ m * (b * d)
part_bound x b d m h = subst (λ v. unsigned_abs (x *ℤ pos d) ≤ v) (Nat.mul_assoc m b d) (abs-mul x (pos d) (m * b) d h (omega arith))

swapped_bound : (y : ℤ) (b d n : ℕ) → unsigned_abs y ≤ n * d → unsigned_abs (y *ℤ pos b) ≤ n * (b * d)
swapped_bound y b d n h = subst (λ v. unsigned_abs (y *ℤ pos b) ≤ v) (Nat.mul_assoc n d b ∙ ap (λ v. n * v) (Nat.mul_comm d b)) (abs-mul y (pos b)
    (n * d) b h (omega arith))

sum_bound : (a c : List ℤ) (b d m n : ℕ) → ((i : Fin 3) → unsigned_abs (entry a i) ≤ m * b) → ((i : Fin 3) → unsigned_abs (entry c i) ≤ n * d)
    → (i : Fin 3) → unsigned_abs (entry (sum_of a c b d) i) ≤ (m + n) * (b * d)
sum_bound a c b d m n h k i = subst (λ x. unsigned_abs x ≤ (m + n) * (b * d)) (sym (sum_of-at a c b d i))
    (subst (λ v. unsigned_abs ((entry a i *ℤ pos d) +ℤ (entry c i *ℤ pos b)) ≤ v) (sym (Nat.add-mul m n (b * d)))
    (abs-add (entry a i *ℤ pos d) (entry c i *ℤ pos b) (m * (b * d)) (n * (b * d)) (part_bound (entry a i) b d m (h i)) (swapped_bound
    (entry c i) b d n (k i))))

difference_bound : (a c : List ℤ) (b d m n : ℕ) → ((i : Fin 3) → unsigned_abs (entry a i) ≤ m * b) → ((i : Fin 3) → unsigned_abs (entry c i) ≤ n * d)
    → (i : Fin 3) → unsigned_abs (entry (difference_of a c b d) i) ≤ (m + n) * (b * d)
difference_bound a c b d m n h k i = subst (λ x. unsigned_abs x ≤ (m + n) * (b * d)) (sym (difference_of-at a c b d i))
    (subst (λ v. unsigned_abs ((entry a i *ℤ pos d) -ℤ (entry c i *ℤ pos b)) ≤ v) (sym (Nat.add-mul m n (b * d)))
    (abs-sub (entry a i *ℤ pos d) (entry c i *ℤ pos b) (m * (b * d)) (n * (b * d)) (part_bound (entry a i) b d m (h i)) (swapped_bound
    (entry c i) b d n (k i))))

-- opposite numerators
negated : List ℤ → List ℤ
negated c = neg_ℤ (get_or c 0 (pos 0)) ∷ neg_ℤ (get_or c 1 (pos 0)) ∷ neg_ℤ (get_or c 2 (pos 0)) ∷ []

negated-at : (c : List ℤ) (i : Fin 3) → entry (negated c) i ≡ neg_ℤ (entry c i)
unfolding negated to_nat
negated-at c = each_of_three (λ i. entry (negated c) i ≡ neg_ℤ (entry c i)) refl refl refl

neg_small : (x : ℤ) (n : ℕ) → unsigned_abs x ≤ n → unsigned_abs (neg_ℤ x) ≤ n
neg_small x n h = subst (λ y. unsigned_abs y ≤ n) (let e : pos 0 -ℤ x ≡ neg_ℤ x = omega (arith, ints) in e)
    (let a : unsigned_abs (pos 0 -ℤ x) ≤ 0 + n = abs-sub (pos 0) x 0 n (omega arith) h in omega arith)

difference_as_sum : (a c : List ℤ) (b d : ℕ) → 0 < d → vector_of a b ⊕ vector_of (negated c) d ≡ vector_of a b ⊖ vector_of c d
difference_as_sum a c b d h = vector-ext (vector_of a b ⊕ vector_of (negated c) d) (vector_of a b ⊖ vector_of c d)
    (λ i. component-add (vector_of a b) (vector_of (negated c) d) i
    ∙ ap (rationals.add (component (vector_of a b) i)) (component-vector_of (negated c) d i ∙ ap (λ x. ratio x d) (negated-at c i)
    ∙ ratio-neg (entry c i) d h ∙ ap rationals.neg (sym (component-vector_of c d i)))
    ∙ sym (component-sub (vector_of a b) (vector_of c d) i))

difference_fits : (a c : List ℤ) (b d : ℕ) → 0 < b → 0 < d → d ≤ 100000 → ((l : ℕ) → IsLcm b d l → l ≤ 100000)
    → ((i : Fin 3) → unsigned_abs (entry a i) ≤ 2800000) → IsInCell (vector_of c d) → Fits (vector_of a b ⊖ vector_of c d)
difference_fits a c b d hb hd few small numbers cell = subst Fits (difference_as_sum a c b d hd)
    (fits_over_lcm a (negated c) b d 2800000 100000 hb hd small numbers
    (λ i. subst (λ x. unsigned_abs x ≤ 100000) (sym (negated-at c i)) (neg_small (entry c i) 100000
    (let h : unsigned_abs (entry c i) ≤ d = small_numerators c d hd cell i in omega arith)))
    (lit< tt))

-- a rotation times numerators
turned_of : List (List ℤ) → List ℤ → List ℤ
turned_of rot num = turned_at rot num 0 ∷ turned_at rot num 1 ∷ turned_at rot num 2 ∷ []

turned_of-is : (rot : List (List ℤ)) (num : List ℤ) → IsTurned rot num (turned_of rot num)
unfolding turned_of
turned_of-is rot num = record { x = refl; y = refl; z = refl }

product-vector : (g h : Operation) → (g ⊙ h).vector ≡ g.vector ⊕ (whole_matrix rationals g.rotation · h.vector)
unfolding ◌⊙◌
product-vector g h = refl

positive_product : (b d : ℕ) → 0 < b → 0 < d → 0 < b * d
positive_product b d p q = Nat.mul-pos p q

cell_numbers : (g : Op) → IsInCell (operation g).vector → (i : Fin 3) → unsigned_abs (entry g.num i) ≤ 1 * g.den
cell_numbers g cell i = let l : unsigned_abs (entry g.num i) ≤ g.den = small_numerators g.num g.den g.lowest.positive cell i in omega arith

-- the product of operations with vectors in the cell, and its difference from a vector in the cell
module _ (g h both : Op) (within : IsWithin 9 (operation g).rotation) (cell : IsInCell (operation g).vector) (cell-right : IsInCell
    (operation h).vector)
    (is : operation both ≡ operation g ⊙ operation h) where
  turned_numbers : (i : Fin 3) → unsigned_abs (entry (turned_of g.rot h.num) i) ≤ 27 * h.den
  turned_numbers i =
      let l : unsigned_abs (entry (turned_of g.rot h.num) i) ≤ (9 * h.den + 9 * h.den) + 9 * h.den
      = turned_bound g.rot h.num (turned_of g.rot h.num) 9 h.den within (small_numerators h.num h.den h.lowest.positive cell-right)
      (turned_of-is g.rot h.num) i in
      omega arith

  both_vector : vector_of both.num both.den ≡ vector_of (sum_of g.num (turned_of g.rot h.num) g.den h.den) (g.den * h.den)
  both_vector = ap (λ (f : Operation). f.vector) is ∙ product-vector (operation g) (operation h)
      ∙ ap (λ v. vector_of g.num g.den ⊕ v) (sym (turned_vector g.rot h.num (turned_of g.rot h.num) h.den h.lowest.positive
      (turned_of-is g.rot h.num)))
      ∙ sym (sum_of-vector g.num (turned_of g.rot h.num) g.den h.den g.lowest.positive h.lowest.positive)

  pub both_numbers : (i : Fin 3) → unsigned_abs (entry both.num i) ≤ 28 * both.den
  both_numbers = small_of_over both.num (sum_of g.num (turned_of g.rot h.num) g.den h.den) both.den (g.den * h.den) 28 both.lowest
      (positive_product g.den h.den g.lowest.positive h.lowest.positive) both_vector
      (sum_bound g.num (turned_of g.rot h.num) g.den h.den 1 27 (cell_numbers g cell) turned_numbers)

  pub shift_numbers : (o : Op) (t : Vec3) → IsInCell (operation o).vector → vector_of t.num t.den ≡ (operation both).vector ⊖ (operation o).vector
      → (i : Fin 3) → unsigned_abs (entry t.num i) ≤ 29 * t.den
  shift_numbers o t cell-of same = small_of_over t.num (difference_of both.num o.num both.den o.den) t.den (both.den * o.den) 29 t.lowest
      (positive_product both.den o.den both.lowest.positive o.lowest.positive)
      (same ∙ sym (difference_of-vector both.num o.num both.den o.den both.lowest.positive o.lowest.positive))
      (difference_bound both.num o.num both.den o.den 28 1 both_numbers (cell_numbers o cell-of))

-- canonical operations, by their numbers
module _ (ops : List Op) (cs : List Vec3) (form : AreCanonical ops cs) where
  over : {A : Type 0} → (AreOverOne ops cs → A) → ¬ (¬ A)
  over f denied = ∥∥₁_elim form.denominator (λ a b. absurd a) (λ t. denied (f t))

  module _ (i : ℕ) (g : Op) (below : i < length ops) (at : g ≡ get_or ops i g) where
    pub entries_at : IsWithin 9 (operation g).rotation
    entries_at = subst (λ (x : Op). IsWithin 9 (operation x).rotation) (sym at) (form.within i g below)

    pub cell_of : IsInCell (operation g).vector
    cell_of = subst (λ (x : Op). IsInCell (operation x).vector) (sym at) (cell_at ops cs form i g below)

    pub denominator_at : g.den ≤ 100000
    denominator_at = subst (λ (x : Op). x.den ≤ 100000) (sym at) (small_ops ops cs form i g below)

    pub numbers_at : AreWithin (10 ^ 12) g.num
    numbers_at j = let l : unsigned_abs
        (entry g.num j) ≤ g.den = small_numerators g.num g.den g.lowest.positive cell_of j in let m = denominator_at in omega arith

    divides_at : (t : AreOverOne ops cs) → g.den ∣ t.common
    divides_at t = subst (λ (x : Op). x.den ∣ t.common) (sym at) (t.kept_divide i g below)

    module _ (j : ℕ) (h : Op) (below-right : j < length ops) (at-right : h ≡ get_or ops j h) where
      divides_right : (t : AreOverOne ops cs) → h.den ∣ t.common
      divides_right t = subst (λ (x : Op). x.den ∣ t.common) (sym at-right) (t.kept_divide j h below-right)

      pub small_pair : (m : ℕ) → IsLcm g.den h.den m → m ≤ 100000
      small_pair m l = stable_le m 100000 (over (λ t. lcm_small g.den h.den t.common m t.positive t.small (divides_at t) (divides_right t) l))

      module _ (both : Op) (is : operation both ≡ operation g ⊙ operation h) where
        divides_both : (t : AreOverOne ops cs) → both.den ∣ t.common
        divides_both t = divides_of_over both.num both.den t.common both.lowest (subst (λ (f : Operation). IsOver t.common f.vector) (sym is)
            (over_product t.common (operation g) (operation h)
            (over_of_divides g.num g.den t.common g.lowest.positive (divides_at t)) (over_of_divides h.num h.den t.common h.lowest.positive
            (divides_right t))))

        pub denominator_both : both.den ≤ 100000
        denominator_both = stable_le both.den 100000 (over (λ t. divisor_small both.den t.common t.positive t.small (divides_both t)))

        right_cell : IsInCell (operation h).vector
        right_cell = subst (λ (x : Op). IsInCell (operation x).vector) (sym at-right) (cell_at ops cs form j h below-right)

        module _ (l : ℕ) (o : Op) (below-of : l < length ops) (at-of : o ≡ get_or ops l o) where
          divides_of : (t : AreOverOne ops cs) → o.den ∣ t.common
          divides_of t = subst (λ (x : Op). x.den ∣ t.common) (sym at-of) (t.kept_divide l o below-of)

          cell-of-o : IsInCell (operation o).vector
          cell-of-o = subst (λ (x : Op). IsInCell (operation x).vector) (sym at-of) (cell_at ops cs form l o below-of)

          pub fits_shift : Fits ((operation both).vector ⊖ (operation o).vector)
          fits_shift = difference_fits both.num o.num both.den o.den both.lowest.positive o.lowest.positive
              (subst (λ (x : Op). x.den ≤ 100000) (sym at-of) (small_ops ops cs form l o below-of))
              (λ m c. stable_le m 100000 (over (λ t. lcm_small both.den o.den t.common m t.positive t.small (divides_both t) (divides_of t) c)))
              (λ k. let b = both_numbers g h both entries_at cell_of right_cell is k in let d = denominator_both in omega arith) cell-of-o

          pub small_shift : (t : Vec3) → vector_of t.num t.den ≡ (operation both).vector ⊖ (operation o).vector → AreWithin (10 ^ 12) t.num
          small_shift t same k =
              let n : unsigned_abs (entry t.num k) ≤ 29 * t.den = shift_numbers g h both entries_at cell_of right_cell is o t cell-of-o same k in
              let b : t.den ≤ 100000 = stable_le t.den 100000 (over (λ u. divisor_small t.den u.common u.positive u.small
              (divides_of_over t.num t.den u.common t.lowest (subst (IsOver u.common) (sym same) (over-sub u.common (operation both).vector
              (operation o).vector
              (over_of_divides both.num both.den u.common both.lowest.positive (divides_both u))
              (over_of_divides o.num o.den u.common o.lowest.positive (divides_of u))))))) in
              omega arith
