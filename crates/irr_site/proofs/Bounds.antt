-- Sizes of sums and differences of vectors of fractions.
--   lowest_small                     numbers in lowest terms are no greater than others of the same vector
--   fits_sum, fits_difference        a sum and a difference fit where the numbers are small
--   sum_within, difference_within    and how large they are
use Rattle.std.proofs.Common.{◌≡◌, sym, ◌∙◌, ap, subst, refl, ℕ, length, ◌+◌, ◌*◌, ◌<◌, ◌≤◌, ◌^◌, ℤ, pos, ◌+ℤ◌, ◌-ℤ◌, ◌*ℤ◌, unsigned_abs, List, [], ◌∷◌, get_or, FitsSigned, lit<, arith}
use Rattle.std.specs.Int.{w64, ◌∣◌}
use Rattle.std.proofs.lemmas.Int.{fits_signed_from_abs, unsigned_abs-mul}
use Rattle.std.proofs.Math.Logic.{∥∥₁_elim}
use native.Mathlib.Nat as Nat
use Rattle.irr_algebra.specs.Fin.{Fin, to_nat}
use Rattle.irr_algebra.specs.Fin.Fin.{first, next}
use Rattle.irr_algebra.specs.Matrix.{◌⊕◌, ◌⊖◌}
use Rattle.irr_rational.specs.Ratio.{entry}
use Rattle.irr_space.specs.Operation.{◌⊙◌, component}
use Rattle.irr_rat.specs.Lowest.{AreThreeLowest}
use Rattle.irr_rat.specs.VectorMeaning.{Fits, vector_of}
use Rattle.irr_rat.proofs.LowestForms.{lowest_divides}
use Rattle.irr_rat.proofs.Vectors.{component-vector_of, each_of_three, fits_of_numbers, vector_of-add, vector_of-sub}
use Rattle.irr_rat.specs.declared.vec3.Vec3.{Vec3}
use Rattle.irr_seitz.specs.OperationMeaning.{operation}
use Rattle.irr_seitz.specs.declared.op.Op.{Op}
use Rattle.irr_close.specs.Canonical.{AreCanonical}
use Rattle.irr_close.specs.Centring.{AreOverOne}
use Rattle.irr_close.proofs.Denominators.{IsOver, divides_of_over, over-sub, over_of_divides, over_product}
use Rattle.irr_close.proofs.Lattice.{divisor_small}
use Rattle.irr_close.proofs.Untruncated.{stable_le}
use Rattle.irr_seitz.proofs.Sizes.{abs-add, abs-mul, abs-sub}
use Rattle.irr_little.proofs.Shifts.{small_of_over}

module _ (xs ys : List ℤ) (d e : ℕ) (low : AreThreeLowest xs d) (positive : 0 < e) (same : vector_of xs d ≡ vector_of ys e)
  where
    factor : (k : ℕ) × (0 < k) × (e ≡ k * d) × ((j : Fin 3) → entry ys j ≡ pos k *ℤ entry xs j)
    factor = lowest_divides (entry xs) (entry ys) d e low positive (λ j. sym (component-vector_of xs d j)
        ∙ ap (λ v. component v j) same ∙ component-vector_of ys e j)

    pub lowest_small : (m : ℕ) → ((i : Fin 3) → unsigned_abs (entry ys i) ≤ m) → (i : Fin 3) → unsigned_abs (entry xs i) ≤ m
    lowest_small m small i =
        let k = factor.0 in
        let f : unsigned_abs (entry ys i) ≡ k * unsigned_abs (entry xs i) = ap unsigned_abs (factor.3 i)
        ∙ unsigned_abs-mul (pos k) (entry xs i) in
        let g : 1 * unsigned_abs (entry xs i) ≤ k * unsigned_abs (entry xs i) = Nat.mul-le-mul_right (unsigned_abs (entry xs i)) factor.1 in
        let h = small i in
        omega (arith, f, g, h)

    pub lowest_divisor : d ∣ e
    lowest_divisor = subst (λ n. d ∣ n) (sym factor.2) (Nat.dvd-mul_left d factor.0)

    pub lowest_denominator : d ≤ e
    lowest_denominator =
        let k = factor.0 in
        let f : e ≡ k * d = factor.2 in
        let g : 1 * d ≤ k * d = Nat.mul-le-mul_right d factor.1 in
        omega (arith, f, g)

-- over the product of the denominators
sums : (a c : List ℤ) (b d : ℕ) → List ℤ
sums a c b d = ((get_or a 0 (pos 0) *ℤ pos d) +ℤ (get_or c 0 (pos 0) *ℤ pos b))
    ∷ ((get_or a 1 (pos 0) *ℤ pos d) +ℤ (get_or c 1 (pos 0) *ℤ pos b))
    ∷ ((get_or a 2 (pos 0) *ℤ pos d) +ℤ (get_or c 2 (pos 0) *ℤ pos b)) ∷ []

differences : (a c : List ℤ) (b d : ℕ) → List ℤ
differences a c b d = ((get_or a 0 (pos 0) *ℤ pos d) -ℤ (get_or c 0 (pos 0) *ℤ pos b))
    ∷ ((get_or a 1 (pos 0) *ℤ pos d) -ℤ (get_or c 1 (pos 0) *ℤ pos b))
    ∷ ((get_or a 2 (pos 0) *ℤ pos d) -ℤ (get_or c 2 (pos 0) *ℤ pos b)) ∷ []

module _ (a c : List ℤ) (b d : ℕ) (hb : 0 < b) (hd : 0 < d) (m n : ℕ) (left : (i : Fin 3) → unsigned_abs (entry a i) ≤ m)
    (right : (i : Fin 3) → unsigned_abs (entry c i) ≤ n) where
  one_sum : (i : Fin 3) → unsigned_abs ((entry a i *ℤ pos d) +ℤ (entry c i *ℤ pos b)) ≤ m * d + n * b
  one_sum i = abs-add (entry a i *ℤ pos d) (entry c i *ℤ pos b) (m * d) (n * b)
      (abs-mul (entry a i) (pos d) m d (left i) (omega arith)) (abs-mul (entry c i) (pos b) n b (right i) (omega arith))

  one_difference : (i : Fin 3) → unsigned_abs ((entry a i *ℤ pos d) -ℤ (entry c i *ℤ pos b)) ≤ m * d + n * b
  one_difference i = abs-sub (entry a i *ℤ pos d) (entry c i *ℤ pos b) (m * d) (n * b)
      (abs-mul (entry a i) (pos d) m d (left i) (omega arith)) (abs-mul (entry c i) (pos b) n b (right i) (omega arith))

  sums_small : (i : Fin 3) → unsigned_abs (entry (sums a c b d) i) ≤ m * d + n * b
  unfolding sums to_nat
  sums_small = each_of_three (λ i. unsigned_abs (entry (sums a c b d) i) ≤ m * d + n * b) (one_sum first)
      (one_sum (next first)) (one_sum (next (next first)))

  differences_small : (i : Fin 3) → unsigned_abs (entry (differences a c b d) i) ≤ m * d + n * b
  unfolding differences to_nat
  differences_small = each_of_three (λ i. unsigned_abs (entry (differences a c b d) i) ≤ m * d + n * b)
      (one_difference first) (one_difference (next first)) (one_difference (next (next first)))

  sums_is : vector_of (sums a c b d) (b * d) ≡ vector_of a b ⊕ vector_of c d
  unfolding sums
  sums_is = vector_of-add a c (sums a c b d) b d hb hd refl refl refl

  differences_is : vector_of (differences a c b d) (b * d) ≡ vector_of a b ⊖ vector_of c d
  unfolding differences
  differences_is = vector_of-sub a c (differences a c b d) b d hb hd refl refl refl

  module _ (small : b * d < 2 ^ 32) (room : m * d + n * b < 2 ^ 63) where
    fits_at : (x : ℤ) → unsigned_abs x ≤ m * d + n * b → FitsSigned w64 x
    fits_at x h = fits_signed_from_abs w64 x (omega (arith, h, room))

    pub fits_sum : Fits (vector_of a b ⊕ vector_of c d)
    unfolding to_nat
    fits_sum = subst Fits sums_is (fits_of_numbers (sums a c b d) (b * d) (Nat.mul-pos hb hd) small
        (fits_at _ (sums_small first)) (fits_at _ (sums_small (next first))) (fits_at _ (sums_small (next (next first)))))

    pub fits_difference : Fits (vector_of a b ⊖ vector_of c d)
    unfolding to_nat
    fits_difference = subst Fits differences_is (fits_of_numbers (differences a c b d) (b * d) (Nat.mul-pos hb hd) small
        (fits_at _ (differences_small first)) (fits_at _ (differences_small (next first)))
        (fits_at _ (differences_small (next (next first)))))

-- numbers of at most p b and q d over b and d
module _ (a c : List ℤ) (b d : ℕ) (hb : 0 < b) (hd : 0 < d) (p q : ℕ) (left : (i : Fin 3) → unsigned_abs (entry a i) ≤ p * b)
    (right : (i : Fin 3) → unsigned_abs (entry c i) ≤ q * d) (xs : List ℤ) (e : ℕ) (low : AreThreeLowest xs e) where
  total : p * b * d + q * d * b ≡ (p + q) * (b * d)
  total = let f : p * b * d ≡ p * (b * d) = Nat.mul_assoc p b d in
      let g : q * d * b ≡ q * (b * d) = Nat.mul_assoc q d b ∙ ap (λ z. q * z) (Nat.mul_comm d b) in
      let h : (p + q) * (b * d) ≡ p * (b * d) + q * (b * d) = Nat.add-mul p q (b * d) in
      omega (arith, f, g, h)

  pub sum_within : vector_of xs e ≡ vector_of a b ⊕ vector_of c d → (i : Fin 3) → unsigned_abs (entry xs i) ≤ (p + q) * e
  sum_within same = small_of_over xs (sums a c b d) e (b * d) (p + q) low (Nat.mul-pos hb hd)
      (same ∙ sym (sums_is a c b d hb hd (p * b) (q * d) left right))
      (λ i. subst (λ z. unsigned_abs (entry (sums a c b d) i) ≤ z) total (sums_small a c b d hb hd (p * b) (q * d) left right i))

  pub difference_within : vector_of xs e ≡ vector_of a b ⊖ vector_of c d → (i : Fin 3) → unsigned_abs (entry xs i) ≤ (p + q) * e
  difference_within same = small_of_over xs (differences a c b d) e (b * d) (p + q) low (Nat.mul-pos hb hd)
      (same ∙ sym (differences_is a c b d hb hd (p * b) (q * d) left right))
      (λ i. subst (λ z. unsigned_abs (entry (differences a c b d) i) ≤ z) total (differences_small a c b d hb hd (p * b) (q * d) left right i))

-- the shift of a product of canonical operations, less that of another one
module _ (ops : List Op) (cs : List Vec3) (form : AreCanonical ops cs) (i j l : ℕ) (g h o : Op)
    (in-i : i < length ops) (in-j : j < length ops) (in-l : l < length ops)
    (at-i : g ≡ get_or ops i g) (at-j : h ≡ get_or ops j h) (at-l : o ≡ get_or ops l o) (t : Vec3)
    (same : vector_of t.num t.den ≡ (operation g ⊙ operation h).vector ⊖ (operation o).vector) where
  divides_common : (u : AreOverOne ops cs) → t.den ∣ u.common
  divides_common u = divides_of_over t.num t.den u.common t.lowest (subst (IsOver u.common) (sym same)
      (over-sub u.common (operation g ⊙ operation h).vector (operation o).vector
      (over_product u.common (operation g) (operation h)
      (over_of_divides g.num g.den u.common g.lowest.positive (subst (λ (x : Op). x.den ∣ u.common) (sym at-i) (u.kept_divide i g in-i)))
      (over_of_divides h.num h.den u.common h.lowest.positive (subst (λ (x : Op). x.den ∣ u.common) (sym at-j) (u.kept_divide j h in-j))))
      (over_of_divides o.num o.den u.common o.lowest.positive (subst (λ (x : Op). x.den ∣ u.common) (sym at-l) (u.kept_divide l o in-l)))))

  pub shift_denominator : t.den ≤ 100000
  shift_denominator = stable_le t.den 100000 (λ denied. ∥∥₁_elim form.denominator (λ a b. absurd a)
      (λ u. denied (divisor_small t.den u.common u.positive u.small (divides_common u))))
