-- Rows of fractions times rotations.
--   row_times                 the product over a common denominator
--   turned_row                and back by the inverse
--   row_small                 and is at most 486 times as large
--   row_lowest                it stays in lowest terms
--   inverse_within            the entries of an inverse of a small rotation
use Rattle.std.proofs.Common.{◌≡◌, sym, ◌∙◌, ap, ap₂, subst, ℕ, ◌*◌, ◌<◌, ◌≤◌, ℤ, pos, ◌+ℤ◌, ◌*ℤ◌, unsigned_abs, List, [], get_or, refl, arith}
use Rattle.std.specs.Int.{◌∣◌}
use native.Mathlib.Nat as Nat
use Rattle.irr_algebra.specs.Fin.{Fin, to_nat}
use Rattle.irr_algebra.specs.Sum.{sum}
use Rattle.irr_algebra.specs.Matrix.{Matrix, ◌·◌, unit, column}
use Rattle.irr_algebra.proofs.Indices.{to_nat-lt}
use Rattle.irr_algebra.proofs.Rings.{ring_laws}
use Rattle.irr_algebra.proofs.Matrices.{mul_assoc, unit-mul, mul-unit}
use Rattle.irr_number.specs.Integers.{integers}
use Rattle.irr_rational.specs.Integer.{integer, whole_matrix}
use Rattle.irr_rational.specs.Rational.{Rational, rationals, rational_field, ratio, IsWhole}
use Rattle.irr_rational.specs.Ratio.{entry, ratios}
use Rattle.irr_rational.proofs.Integers.{integer-mul, whole_matrix-mul, whole_matrix-unit}
use Rattle.irr_rational.proofs.WholeNumbers.{whole-integer, whole_ratio, dvd_of_whole}
use Rattle.irr_space.specs.Operation.{Operation, Rotation, WaveVector, ◌⊙◌, identity, IsInverse, wave_component, component, dot}
use Rattle.irr_lattice.proofs.Vectors.{wave-ext, whole-dot}
use Rattle.irr_rat.specs.Lowest.{AreThreeLowest}
use Rattle.irr_seitz.specs.Rotation.{rotation_of, determinant, IsWithin}
use Rattle.irr_seitz.proofs.Adjugate.{after, cofactor, adjoint, mul-adjoint}
use Rattle.irr_seitz.proofs.Sizes.{abs-sub, abs-mul, weighted_sum}
use Rattle.irr_seitz.proofs.Rotations.{within_at}
use Rattle.irr_kvec.specs.WaveMeaning.{wave_of}
use Rattle.irr_kvec.proofs.Products.{at_first, at_second, at_third, wave_component-wave_of, ratio-add_same}

-- the numerator at a place of a row times a rotation
abbrev pub row_at : List ℤ → List (List ℤ) → Fin 3 → ℤ
row_at num rot i = ((get_or num 0 (pos 0) *ℤ entry (get_or rot 0 []) i) +ℤ (get_or num 1 (pos 0) *ℤ entry (get_or rot 1 []) i)) +ℤ (get_or num 2 (pos 0) *ℤ entry (get_or rot 2 []) i)

abbrev row_term : List ℤ → List (List ℤ) → ℕ → Fin 3 → ℤ
row_term num rot k i = get_or num k (pos 0) *ℤ entry (get_or rot k []) i

ratio-mul_integer : (x y : ℤ) (d : ℕ) → rationals.mul (ratio x d) (integer rationals y) ≡ ratio (x *ℤ y) d
unfolding ratio
ratio-mul_integer x y d = swap (integer rationals x) (rational_field.inverse (integer rationals (pos d))) (integer rationals y)
    ∙ ap (λ z. rationals.mul z (rational_field.inverse (integer rationals (pos d)))) (sym (integer-mul rationals x y))
  where
    swap : (a b c : Rational) → rationals.mul (rationals.mul a b) c ≡ rationals.mul (rationals.mul a c) b
    swap a b c = simp (ring_laws, rationals)

module _ (num c : List ℤ) (rot : List (List ℤ)) (is_row : (i : Fin 3) → entry c i ≡ row_at num rot i) where
  row-terms : (d : ℕ) (i : Fin 3) → wave_component (wave_of num d · whole_matrix rationals (rotation_of rot)) i
      ≡ rationals.add (rationals.mul (ratio (get_or num 0 (pos 0)) d) (integer rationals (entry (get_or rot 0 []) i)))
      (rationals.add (rationals.mul (ratio (get_or num 1 (pos 0)) d) (integer rationals (entry (get_or rot 1 []) i)))
      (rationals.add (rationals.mul (ratio (get_or num 2 (pos 0)) d) (integer rationals (entry (get_or rot 2 []) i))) rationals.zero))
  unfolding wave_component ◌·◌ sum wave_of ratios to_nat whole_matrix rotation_of
  row-terms d i = refl

  pub row_times : (d : ℕ) → wave_of c d ≡ wave_of num d · whole_matrix rationals (rotation_of rot)
  row_times d = wave-ext (wave_of c d) (wave_of num d · whole_matrix rationals (rotation_of rot)) (λ i. wave_component-wave_of c d i ∙ ap (λ x. ratio x d) (is_row i) ∙ sym (all i))
    where
      all : (i : Fin 3) → wave_component (wave_of num d · whole_matrix rationals (rotation_of rot)) i ≡ ratio (row_at num rot i) d
      all i = row-terms d i
          ∙ ap₂ rationals.add (ratio-mul_integer (get_or num 0 (pos 0)) (entry (get_or rot 0 []) i) d) (ap₂ rationals.add (ratio-mul_integer (get_or num 1 (pos 0)) (entry (get_or rot 1 []) i) d)
          (rationals.add-zero (rationals.mul (ratio (get_or num 2 (pos 0)) d) (integer rationals (entry (get_or rot 2 []) i))) ∙ ratio-mul_integer (get_or num 2 (pos 0)) (entry (get_or rot 2 []) i) d))
          ∙ sym (rationals.add_assoc (ratio (row_term num rot 0 i) d) (ratio (row_term num rot 1 i) d) (ratio (row_term num rot 2 i) d))
          ∙ ap (λ x. rationals.add x (ratio (row_term num rot 2 i) d)) (ratio-add_same (row_term num rot 0 i) (row_term num rot 1 i) d) ∙ ratio-add_same (row_term num rot 0 i +ℤ row_term num rot 1 i) (row_term num rot 2 i) d

  pub row_small : (b : ℕ) → ((i : Fin 3) → unsigned_abs (entry num i) ≤ b) → IsWithin 162 (rotation_of rot) → (i : Fin 3) → unsigned_abs (entry c i) ≤ 486 * b
  row_small b h w i = subst (λ x. unsigned_abs x ≤ 486 * b) (sym (is_row i)) (let s = weighted_sum (get_or num 0 (pos 0)) (get_or num 1 (pos 0)) (get_or num 2 (pos 0))
      (entry (get_or rot 0 []) i) (entry (get_or rot 1 []) i) (entry (get_or rot 2 []) i) b 162
      (at_first (λ x. unsigned_abs x ≤ b) num h) (at_second (λ x. unsigned_abs x ≤ b) num h) (at_third (λ x. unsigned_abs x ≤ b) num h)
      (within_at 162 rot w 0 (to_nat i) (omega arith) (to_nat-lt i)) (within_at 162 rot w 1 (to_nat i) (omega arith) (to_nat-lt i)) (within_at 162 rot w 2 (to_nat i) (omega arith) (to_nat-lt i)) in omega arith)

  module _ (R : Rotation) (e : rotation_of rot · R ≡ unit integers 3) where
    pub row_back : (d : ℕ) → wave_of c d · whole_matrix rationals R ≡ wave_of num d
    row_back d = ap (λ (k : WaveVector). k · whole_matrix rationals R) (row_times d) ∙ mul_assoc (wave_of num d) (whole_matrix rationals (rotation_of rot)) (whole_matrix rationals R)
        ∙ ap (λ (m : Matrix rationals 3 3). wave_of num d · m) (sym (whole_matrix-mul rationals (rotation_of rot) R) ∙ ap (whole_matrix rationals) e ∙ whole_matrix-unit rationals 3)
        ∙ mul-unit (wave_of num d)

    component-product : (k : WaveVector) (i : Fin 3) → wave_component (k · whole_matrix rationals R) i ≡ dot k (column (whole_matrix rationals R) i)
    unfolding wave_component dot ◌·◌ column
    component-product k i = refl

    whole_column : (i j : Fin 3) → IsWhole (component (column (whole_matrix rationals R) i) j)
    unfolding component column whole_matrix
    whole_column i j = whole-integer (R.at j i)

    pub row_lowest : (b : ℕ) → AreThreeLowest num b → AreThreeLowest c b
    row_lowest b low = record { positive = low.positive; lowest = λ d v w. low.lowest d v (λ i. divides d (Nat.pos_of_dvd_of_pos v low.positive) w i) }
      where
        divides : (d : ℕ) → 0 < d → ((i : Fin 3) → d ∣ unsigned_abs (entry c i)) → (i : Fin 3) → d ∣ unsigned_abs (entry num i)
        divides d h w i = dvd_of_whole (entry num i) d h (subst IsWhole
            (sym (component-product (wave_of c d) i) ∙ ap (λ (k : WaveVector). wave_component k i) (row_back d) ∙ wave_component-wave_of num d i)
            (whole-dot (wave_of c d) (column (whole_matrix rationals R) i) (λ j. subst IsWhole (sym (wave_component-wave_of c d j)) (whole_ratio (entry c j) d h (w j))) (whole_column i)))

module _ (g h : Operation) (inverse : IsInverse g h) where
  pub inverse_right : g.rotation · h.rotation ≡ unit integers 3
  unfolding ◌⊙◌ identity
  inverse_right = ap (λ (f : Operation). f.rotation) inverse.right

  pub inverse_left : h.rotation · g.rotation ≡ unit integers 3
  unfolding ◌⊙◌ identity
  inverse_left = ap (λ (f : Operation). f.rotation) inverse.left

  is_adjoint : unsigned_abs (determinant g.rotation) ≡ 1 → h.rotation ≡ adjoint (determinant g.rotation) g.rotation
  is_adjoint u = sym (mul-unit h.rotation) ∙ ap (λ (m : Rotation). h.rotation · m) (sym (mul-adjoint (determinant g.rotation) g.rotation refl u))
      ∙ sym (mul_assoc h.rotation g.rotation (adjoint (determinant g.rotation) g.rotation))
      ∙ ap (λ (m : Rotation). m · adjoint (determinant g.rotation) g.rotation) inverse_left ∙ unit-mul (adjoint (determinant g.rotation) g.rotation)

  adjoint_within : (d : ℤ) → unsigned_abs d ≡ 1 → IsWithin 9 g.rotation → IsWithin 162 (adjoint d g.rotation)
  unfolding adjoint
  adjoint_within d u w i j = abs-mul d (cofactor g.rotation j i) 1 162 (omega (arith, u)) (abs-sub (g.rotation.at (after j) (after i) *ℤ g.rotation.at (after (after j)) (after (after i))) (g.rotation.at (after j) (after (after i)) *ℤ g.rotation.at (after (after j)) (after i)) 81 81
      (abs-mul (g.rotation.at (after j) (after i)) (g.rotation.at (after (after j)) (after (after i))) 9 9 (w (after j) (after i)) (w (after (after j)) (after (after i))))
      (abs-mul (g.rotation.at (after j) (after (after i))) (g.rotation.at (after (after j)) (after i)) 9 9 (w (after j) (after (after i))) (w (after (after j)) (after i))))

  pub inverse_within : unsigned_abs (determinant g.rotation) ≡ 1 → IsWithin 9 g.rotation → IsWithin 162 h.rotation
  inverse_within u w = subst (IsWithin 162) (sym (is_adjoint u)) (adjoint_within (determinant g.rotation) u w)
