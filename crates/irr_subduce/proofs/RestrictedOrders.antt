-- Exponents, periods and orders along a change of basis.
--   power_along            the powers of the rotation of an image
--   exponent-divides       the exponent of the subgroup divides that of the group
--   restricted_reciprocal  what is in T* of the group is in that of the subgroup in its basis
--   arm_within             an order of the restricted wave vector of an arm, dividing M
use Rattle.std.proofs.Common.{◌≡◌, sym, ◌∙◌, ap, ap₂, subst, subst₂, ℕ, zero, suc, ◌<◌, ◌≤◌, ◌*◌, ◌/◌, ◌%◌, ◌⊎◌, inl, inr, refl, arith}
use Rattle.std.proofs.lemmas.Bool.{cases_lt}
use Rattle.std.proofs.lemmas.Nat.Gcd.{dvd_of_mod-eq-zero}
use Rattle.std.specs.Int.{◌∣◌}
use native.Mathlib.Nat as Nat
use Rattle.irr_algebra.specs.Ring.{whole}
use Rattle.irr_algebra.specs.Fin.Fin.{first}
use Rattle.irr_algebra.specs.Matrix.{Matrix, ◌·◌, unit}
use Rattle.irr_algebra.proofs.Matrices as M
use Rattle.irr_algebra.proofs.Matrices.{unit-mul, mul-unit, scale-mul}
use Rattle.irr_algebra.proofs.Rank.{square_inverse}
use Rattle.irr_number.specs.Integers.{integers}
use Rattle.irr_theory.specs.Extension.{matrix_power}
use Rattle.irr_rational.specs.Integer.{whole_matrix}
use Rattle.irr_rational.specs.Rational.{rationals, rational_field, IsWhole}
use Rattle.irr_rational.proofs.Integers.{whole_matrix-mul, whole_matrix-unit, integer_inj}
use Rattle.irr_space.specs.Operation.{Operation, Rotation, Vector, WaveVector, translation, dot}
use Rattle.irr_space.specs.SpaceGroup.{IsExponent, IsTranslation}
use Rattle.irr_space.specs.Reciprocal.{IsReciprocal, AreEquivalent, IsOrder, times}
use Rattle.irr_cocycle.specs.SpaceGroupLaws.{IsGroup}
use Rattle.irr_close.proofs.Returns.{power_rest}
use Rattle.irr_subduce.proofs.Periods.{order_within, equivalent_of}
use Rattle.irr_full.specs.Restriction.{IsImage, IsSubgroup}
use Rattle.irr_full.proofs.Images.{image_of_translation}

whole_matrix-injective : (R S : Rotation) → whole_matrix rationals R ≡ whole_matrix rationals S → R ≡ S
unfolding whole_matrix
whole_matrix-injective R S e = M.matrix-ext (λ i j. integer_inj rational_field (R.at i j) (S.at i j) (ap (λ (m : Matrix rationals 3 3). m.at i j) e))

whole_power : (R : Rotation) (n : ℕ) → whole_matrix rationals (matrix_power R n) ≡ matrix_power (whole_matrix rationals R) n
unfolding matrix_power
whole_power R zero = whole_matrix-unit rationals 3
whole_power R (suc n) = whole_matrix-mul rationals R (matrix_power R n) ∙ ap (λ (X : Matrix rationals 3 3). whole_matrix rationals R · X) (whole_power R n)

-- F P = P R goes over to powers
power_along : (P F R : Matrix rationals 3 3) → F · P ≡ P · R → (n : ℕ) → matrix_power F n · P ≡ P · matrix_power R n
unfolding matrix_power
power_along P F R e zero = unit-mul P ∙ sym (mul-unit P)
power_along P F R e (suc n) = M.mul_assoc F (matrix_power F n) P ∙ ap (λ (X : Matrix rationals 3 3). F · X) (power_along P F R e n) ∙ sym (M.mul_assoc F P (matrix_power R n))
    ∙ ap (λ (X : Matrix rationals 3 3). X · matrix_power R n) e ∙ M.mul_assoc P R (matrix_power R n)

dot_along : (P : Matrix rationals 3 3) (K : WaveVector) (t : Vector) → dot (K · P) t ≡ dot K (P · t)
unfolding dot
dot_along P K t = ap (λ (X : Matrix rationals 1 1). X.at first first) (M.mul_assoc K P t)

module _ (P : Matrix rationals 3 3) (p : Vector) (H G : Operation → Type 0) (group : IsGroup H) (image : Operation → Operation) (subgroup : IsSubgroup P p H G image) where
  left_inverse : subgroup.inverse · P ≡ unit rationals 3
  left_inverse = square_inverse rational_field subgroup.inverse P subgroup.basis-inverse

  -- a power of the image's rotation is the unit, so that of the rotation
  power_back : (n : ℕ) → ((f : Operation) → G f → matrix_power f.rotation n ≡ unit integers 3) → (g : Operation) → H g → matrix_power g.rotation n ≡ unit integers 3
  power_back n all g m = whole_matrix-injective (matrix_power g.rotation n) (unit integers 3)
      (whole_power g.rotation n ∙ sym (unit-mul (matrix_power (whole_matrix rationals g.rotation) n))
      ∙ ap (λ (X : Matrix rationals 3 3). X · matrix_power (whole_matrix rationals g.rotation) n) (sym left_inverse)
      ∙ M.mul_assoc subgroup.inverse P (matrix_power (whole_matrix rationals g.rotation) n)
      ∙ ap (λ (X : Matrix rationals 3 3). subgroup.inverse · X) (sym (power_along P (whole_matrix rationals (image g).rotation) (whole_matrix rationals g.rotation) (subgroup.is_image g m).rotation n)
      ∙ ap (λ (X : Matrix rationals 3 3). X · P) (sym (whole_power (image g).rotation n) ∙ ap (whole_matrix rationals) (all (image g) (subgroup.member g m)) ∙ whole_matrix-unit rationals 3)
      ∙ unit-mul P)
      ∙ left_inverse ∙ sym (whole_matrix-unit rationals 3))

  pub restricted_reciprocal : (K : WaveVector) → IsReciprocal G K → IsReciprocal H (K · P)
  restricted_reciprocal K r = record {
    is_whole = λ t m. subst IsWhole (sym (dot_along P K t)) (r.is_whole (P · t) (subst G (image_of_translation P p H G group image subgroup t m) (subgroup.member (translation t) m)));
  }

  pub restricted_multiple : (n : ℕ) (k : WaveVector) → IsReciprocal G (times n k) → IsReciprocal H (times n (k · P))
  restricted_multiple n k r = subst (IsReciprocal H) (scale-mul rationals (whole rationals n) k P) (restricted_reciprocal (times n k) r)

-- the exponent divides each number that takes all rotations to the unit
pub exponent-divides : (G : Operation → Type 0) (e n : ℕ) → IsExponent G e → ((g : Operation) → G g → matrix_power g.rotation n ≡ unit integers 3) → e ∣ n
exponent-divides G e n x h = elim (cases_lt 0 (n % e)) [
  | inl some ↦ absurd (let l : n % e < e = Nat.mod-lt n x.positive in let m : e ≤ n % e = x.least (n % e) some (λ g q. sym (power_rest g.rotation e n (x.power g q)) ∙ h g q) in omega (arith, l, m))
  | inr none ↦ dvd_of_mod-eq-zero e (omega (arith, none))
]

module _ (P : Matrix rationals 3 3) (p : Vector) (H G : Operation → Type 0) (group : IsGroup H) (image : Operation → Operation) (subgroup : IsSubgroup P p H G image) where
  -- the exponent of the subgroup divides that of the group
  pub exponent_along : (e n : ℕ) → IsExponent H e → IsExponent G n → e ∣ n
  exponent_along e n x y = exponent-divides H e n x (power_back P p H G group image subgroup n y.power)

  -- an order of a wave vector that is equivalent to that of an arm, in the basis of the subgroup
  pub order_along : ((w : WaveVector) → IsReciprocal H w ⊎ (IsReciprocal H w → ⊥)) → (e : ℕ) → IsExponent H e → (k w : WaveVector) (n N : ℕ)
      → IsExponent G n → 0 < N → IsReciprocal G (times N k) → (M : ℕ) → n * N ∣ M → AreEquivalent H w (k · P) → (m : ℕ) × IsOrder H w m × (m ∣ M)
  order_along decide e x k w n N y positive r M v near = order_within H decide w e N M x positive
      (equivalent_of H N (k · P) w near (restricted_multiple P p H G group image subgroup N k r))
      (Nat.dvd_trans (e * N) (subst₂ (λ x y. x ∣ y) (Nat.mul_comm N e) (Nat.mul_comm N n) (Nat.mul-dvd-mul_left e N (exponent_along e n x y))) v)
