-- Bases of fractions over one denominator, their determinants and inverses, and rotations in them.
--   basis-scaled            P is its numerators times 1 over the denominator
--   determinant_of_basis    its determinant is that of the numerators, over the cube of the denominator
--   singular_numerators, numerators_singular
--   inverse_basis           the inverse where the determinant is not 0
--   image_rotation          P R P^-1 has the entries of the numerators times R times the adjugate, over the determinant
--   rotation_image          and the other way
use Rattle.std.proofs.Common.{◌≡◌, sym, refl, ◌∙◌, ap, ap₂, ℕ, ◌<◌, ◌*◌, List, ℤ, pos, ◌+ℤ◌, ◌-ℤ◌, ◌*ℤ◌, neg_ℤ, unsigned_abs, mul-pos, arith}
use Rattle.irr_algebra.specs.Ring.{Ring, whole}
use Rattle.irr_algebra.specs.Field.{Field}
use Rattle.irr_algebra.specs.Fin.{Fin}
use Rattle.irr_algebra.specs.Fin.Fin.{first, next}
use Rattle.irr_algebra.specs.Matrix.{Matrix, ◌·◌, unit, scale}
use Rattle.irr_algebra.proofs.Matrices.{matrix-ext, mul_assoc, unit-mul, mul-unit, scale-mul, mul-scale, scale-scale, scale-one, scale-at}
use Rattle.irr_algebra.proofs.Rank.{square_inverse}
use Rattle.irr_algebra.proofs.Rings.{ring_laws, mul-zero, zero-mul, one-mul}
use Rattle.irr_number.specs.Integers.{integers}
use Rattle.irr_rational.specs.Integer.{integer, whole_matrix}
use Rattle.irr_rational.specs.Rational.{Rational, rationals, rational_field, ratio}
use Rattle.irr_rational.proofs.Integers.{whole_matrix-mul, whole_matrix-unit, integer_inj, integer_zero_only, integer-mul, integer-zero}
use Rattle.irr_rational.proofs.Ratios.{ratio-mul, ratio-neg, ratio-over}
use Rattle.irr_space.specs.Operation.{Rotation}
use Rattle.irr_seitz.specs.Rotation.{rotation_of}
use Rattle.irr_kvec.proofs.Products.{ratio-add_same}
use Rattle.irr_setting.specs.Determinant.{determinant_in, adjugate}
use Rattle.irr_setting.specs.Setting.{basis_of}
use Rattle.irr_setting.proofs.Cofactors.{mul-adjugate}

-- 1 over a whole number
abbrev pub over_one : ℤ → Rational
over_one d = rational_field.inverse (integer rationals d)

pub basis-scaled : (num : List (List ℤ)) (den : ℕ) → basis_of num den ≡ scale rationals (over_one (pos den)) (whole_matrix rationals (rotation_of num))
unfolding basis_of scale whole_matrix ratio
basis-scaled num den = matrix-ext (λ i j. rationals.mul_comm (integer rationals ((rotation_of num).at i j)) (over_one (pos den)))

-- a product of three
ratio-triple : (a b c : ℤ) (d : ℕ) → 0 < d → rationals.mul (rationals.mul (ratio a d) (ratio b d)) (ratio c d) ≡ ratio ((a *ℤ b) *ℤ c) ((d * d) * d)
ratio-triple a b c d h = ap (λ x. rationals.mul x (ratio c d)) (sym (ratio-mul a b d d h h)) ∙ sym (ratio-mul (a *ℤ b) c (d * d) d (mul-pos h h) h)

ratio-three : (a b c : ℤ) (e : ℕ) → rationals.add (rationals.add (ratio a e) (ratio b e)) (ratio c e) ≡ ratio ((a +ℤ b) +ℤ c) e
ratio-three a b c e = ap (λ x. rationals.add x (ratio c e)) (ratio-add_same a b e) ∙ ratio-add_same (a +ℤ b) c e

pub determinant_of_basis : (num : List (List ℤ)) (den : ℕ) → 0 < den → determinant_in rationals (basis_of num den) ≡ ratio (determinant_in integers (rotation_of num)) ((den * den) * den)
unfolding determinant_in basis_of
determinant_of_basis num den h =
    ap₂ (λ x y. rationals.add x (rationals.neg y))
    (ap₂ rationals.add (ap₂ rationals.add (part first (next first) (next (next first))) (part (next first) (next (next first)) first)) (part (next (next first)) first (next first)) ∙ ratio-three (term first (next first) (next (next first))) (term (next first) (next (next first)) first) (term (next (next first)) first (next first)) cube)
    (ap₂ rationals.add (ap₂ rationals.add (part (next (next first)) (next first) first) (part (next first) first (next (next first)))) (part first (next (next first)) (next first)) ∙ ratio-three (term (next (next first)) (next first) first) (term (next first) first (next (next first))) (term first (next (next first)) (next first)) cube)
    ∙ ap (λ x. rationals.add (ratio added cube) x) (sym (ratio-neg taken cube (mul-pos (mul-pos h h) h)))
    ∙ ratio-add_same added (neg_ℤ taken) cube
  where
    cube : ℕ
    cube = (den * den) * den

    at : Fin 3 → Fin 3 → ℤ
    at i j = (rotation_of num).at i j

    term : Fin 3 → Fin 3 → Fin 3 → ℤ
    term i j k = (at first i *ℤ at (next first) j) *ℤ at (next (next first)) k

    added : ℤ
    added = (term first (next first) (next (next first)) +ℤ term (next first) (next (next first)) first) +ℤ term (next (next first)) first (next first)

    taken : ℤ
    taken = (term (next (next first)) (next first) first +ℤ term (next first) first (next (next first))) +ℤ term first (next (next first)) (next first)

    part : (i j k : Fin 3) → rationals.mul (rationals.mul (ratio (at first i) den) (ratio (at (next first) j) den)) (ratio (at (next (next first)) k) den) ≡ ratio (term i j k) cube
    part i j k = ratio-triple (at first i) (at (next first) j) (at (next (next first)) k) den h

ratio-zero : (e : ℕ) → ratio (pos 0) e ≡ rationals.zero
unfolding ratio
ratio-zero e = ap (λ x. rationals.mul x (over_one (pos e))) (integer-zero rationals) ∙ zero-mul rationals (over_one (pos e))

zero_ratio : (a : ℤ) (e : ℕ) → 0 < e → ratio a e ≡ rationals.zero → a ≡ pos 0
zero_ratio a e h z = integer_zero_only rational_field a (sym (ratio-over a e h) ∙ ap (rationals.mul (whole rationals e)) z ∙ mul-zero rationals (whole rationals e))

pub singular_numerators : (num : List (List ℤ)) (den : ℕ) → 0 < den → determinant_in rationals (basis_of num den) ≡ rationals.zero → determinant_in integers (rotation_of num) ≡ pos 0
singular_numerators num den h e = zero_ratio (determinant_in integers (rotation_of num)) ((den * den) * den) (mul-pos (mul-pos h h) h) (sym (determinant_of_basis num den h) ∙ e)

pub numerators_singular : (num : List (List ℤ)) (den : ℕ) → 0 < den → determinant_in integers (rotation_of num) ≡ pos 0 → determinant_in rationals (basis_of num den) ≡ rationals.zero
numerators_singular num den h e = determinant_of_basis num den h ∙ ap (λ x. ratio x ((den * den) * den)) e ∙ ratio-zero ((den * den) * den)

arranged : (R : Ring) (a b c d : R.Carrier) → R.mul (R.mul a (R.mul b c)) d ≡ R.mul (R.mul b a) (R.mul d c)
arranged R a b c d = simp (ring_laws, R)

positive_not_zero : (n : ℕ) → 0 < n → pos n ≡ pos 0 → ⊥
positive_not_zero n h e = let z : n ≡ 0 = ap unsigned_abs e in absurd (let l : n < n = omega arith in omega arith)

-- the inverse by cofactors
unfoldable pub inverse_of_basis : List (List ℤ) → ℕ → Matrix rationals 3 3
inverse_of_basis num den = scale rationals (rationals.mul (integer rationals (pos den)) (over_one (determinant_in integers (rotation_of num)))) (whole_matrix rationals (adjugate (rotation_of num)))

whole_matrix-scale : {n m : ℕ} (d : ℤ) (a : Matrix integers n m) → whole_matrix rationals (scale integers d a) ≡ scale rationals (integer rationals d) (whole_matrix rationals a)
unfolding whole_matrix scale
whole_matrix-scale d a = matrix-ext (λ i j. integer-mul rationals d (a.at i j))

whole-at : (a : Rotation) (i j : Fin 3) → (whole_matrix rationals a).at i j ≡ integer rationals (a.at i j)
unfolding whole_matrix
whole-at a i j = refl

module _ (num : List (List ℤ)) (den : ℕ) (h : 0 < den) (n : ¬ (determinant_in integers (rotation_of num) ≡ pos 0)) where
  abbrev pub d : ℤ
  d = determinant_in integers (rotation_of num)

  abbrev pub N : Matrix rationals 3 3
  N = whole_matrix rationals (rotation_of num)

  abbrev pub A : Matrix rationals 3 3
  A = whole_matrix rationals (adjugate (rotation_of num))

  -- 1 over the denominator, times the denominator over the determinant
  abbrev pub factor : Rational
  factor = rationals.mul (over_one (pos den)) (rationals.mul (integer rationals (pos den)) (over_one d))

  den_nonzero : integer rationals (pos den) ≡ rationals.zero → ⊥
  den_nonzero e = let z : pos den ≡ pos 0 = integer_zero_only rational_field (pos den) e in positive_not_zero den h z

  factor-determinant : rationals.mul factor (integer rationals d) ≡ rationals.one
  factor-determinant = arranged rationals (over_one (pos den)) (integer rationals (pos den)) (over_one d) (integer rationals d)
      ∙ ap₂ rationals.mul (rational_field.mul-inverse (integer rationals (pos den)) den_nonzero) (rational_field.mul-inverse (integer rationals d) (λ e. n (integer_zero_only rational_field d e)))
      ∙ rationals.mul-one rationals.one

  sandwiched : (R : Matrix rationals 3 3) → (basis_of num den · R) · inverse_of_basis num den ≡ scale rationals factor ((N · R) · A)
  unfolding inverse_of_basis
  sandwiched R = ap (λ (P : Matrix rationals 3 3). (P · R) · scale rationals (rationals.mul (integer rationals (pos den)) (over_one d)) A) (basis-scaled num den)
      ∙ ap (λ (X : Matrix rationals 3 3). X · scale rationals (rationals.mul (integer rationals (pos den)) (over_one d)) A) (scale-mul rationals (over_one (pos den)) N R)
      ∙ scale-mul rationals (over_one (pos den)) (N · R) (scale rationals (rationals.mul (integer rationals (pos den)) (over_one d)) A)
      ∙ ap (scale rationals (over_one (pos den))) (mul-scale rationals (rationals.mul (integer rationals (pos den)) (over_one d)) (N · R) A)
      ∙ scale-scale rationals (over_one (pos den)) (rationals.mul (integer rationals (pos den)) (over_one d)) ((N · R) · A)

  product-adjugate : N · A ≡ scale rationals (integer rationals d) (unit rationals 3)
  product-adjugate = sym (whole_matrix-mul rationals (rotation_of num) (adjugate (rotation_of num))) ∙ ap (whole_matrix rationals) (mul-adjugate (rotation_of num))
      ∙ whole_matrix-scale d (unit integers 3) ∙ ap (scale rationals (integer rationals d)) (whole_matrix-unit rationals 3)

  pub inverse_basis : basis_of num den · inverse_of_basis num den ≡ unit rationals 3
  inverse_basis = ap (λ (X : Matrix rationals 3 3). X · inverse_of_basis num den) (sym (mul-unit (basis_of num den))) ∙ sandwiched (unit rationals 3)
      ∙ ap (λ (X : Matrix rationals 3 3). scale rationals factor (X · A)) (mul-unit N) ∙ ap (scale rationals factor) product-adjugate
      ∙ scale-scale rationals factor (integer rationals d) (unit rationals 3) ∙ ap (λ x. scale rationals x (unit rationals 3)) factor-determinant ∙ scale-one (unit rationals 3)

  inverse_before : inverse_of_basis num den · basis_of num den ≡ unit rationals 3
  inverse_before = square_inverse rational_field (inverse_of_basis num den) (basis_of num den) inverse_basis

  -- F is P R P^-1 exactly where the determinant times F is the numerators times R times the adjugate
  module _ (R F : Rotation) where
    turned : whole_matrix rationals ((rotation_of num · R) · adjugate (rotation_of num)) ≡ (N · whole_matrix rationals R) · A
    turned = whole_matrix-mul rationals (rotation_of num · R) (adjugate (rotation_of num)) ∙ ap (λ (X : Matrix rationals 3 3). X · A) (whole_matrix-mul rationals (rotation_of num) R)

    pub image_rotation : whole_matrix rationals F · basis_of num den ≡ basis_of num den · whole_matrix rationals R
        → (i j : Fin 3) → d *ℤ F.at i j ≡ ((rotation_of num · R) · adjugate (rotation_of num)).at i j
    image_rotation e i j = integer_inj rational_field (d *ℤ F.at i j) (((rotation_of num · R) · adjugate (rotation_of num)).at i j)
        (integer-mul rationals d (F.at i j) ∙ ap (rationals.mul (integer rationals d)) (sym (whole-at F i j) ∙ ap (λ (X : Matrix rationals 3 3). X.at i j) is
        ∙ scale-at rationals factor ((N · whole_matrix rationals R) · A) i j) ∙ sym (rationals.mul_assoc (integer rationals d) factor (((N · whole_matrix rationals R) · A).at i j))
        ∙ ap (λ x. rationals.mul x (((N · whole_matrix rationals R) · A).at i j)) (rationals.mul_comm (integer rationals d) factor ∙ factor-determinant)
        ∙ one-mul rationals (((N · whole_matrix rationals R) · A).at i j)
        ∙ ap (λ (X : Matrix rationals 3 3). X.at i j) (sym turned) ∙ whole-at ((rotation_of num · R) · adjugate (rotation_of num)) i j)
      where
        is : whole_matrix rationals F ≡ scale rationals factor ((N · whole_matrix rationals R) · A)
        is = sym (mul-unit (whole_matrix rationals F)) ∙ ap (λ (X : Matrix rationals 3 3). whole_matrix rationals F · X) (sym inverse_basis)
            ∙ sym (mul_assoc (whole_matrix rationals F) (basis_of num den) (inverse_of_basis num den)) ∙ ap (λ (X : Matrix rationals 3 3). X · inverse_of_basis num den) e
            ∙ sandwiched (whole_matrix rationals R)

    pub rotation_image : ((i j : Fin 3) → d *ℤ F.at i j ≡ ((rotation_of num · R) · adjugate (rotation_of num)).at i j)
        → whole_matrix rationals F · basis_of num den ≡ basis_of num den · whole_matrix rationals R
    rotation_image e = ap (λ (X : Matrix rationals 3 3). X · basis_of num den) is
        ∙ mul_assoc (basis_of num den · whole_matrix rationals R) (inverse_of_basis num den) (basis_of num den)
        ∙ ap (λ (X : Matrix rationals 3 3). (basis_of num den · whole_matrix rationals R) · X) inverse_before ∙ mul-unit (basis_of num den · whole_matrix rationals R)
      where
        entry_is : (i j : Fin 3) → integer rationals (F.at i j) ≡ rationals.mul factor (integer rationals (((rotation_of num · R) · adjugate (rotation_of num)).at i j))
        entry_is i j = sym (one-mul rationals (integer rationals (F.at i j))) ∙ ap (λ x. rationals.mul x (integer rationals (F.at i j))) (sym factor-determinant)
            ∙ rationals.mul_assoc factor (integer rationals d) (integer rationals (F.at i j)) ∙ ap (rationals.mul factor) (sym (integer-mul rationals d (F.at i j)) ∙ ap (integer rationals) (e i j))

        is : whole_matrix rationals F ≡ (basis_of num den · whole_matrix rationals R) · inverse_of_basis num den
        is = matrix-ext (λ i j. whole-at F i j ∙ entry_is i j ∙ ap (rationals.mul factor) (sym (whole-at ((rotation_of num · R) · adjugate (rotation_of num)) i j))
            ∙ sym (scale-at rationals factor (whole_matrix rationals ((rotation_of num · R) · adjugate (rotation_of num))) i j))
            ∙ ap (scale rationals factor) turned ∙ sym (sandwiched (whole_matrix rationals R))
