-- Whole numbers in a ring R.
--   integer-pos, integer-negsuc            the definition, by sign
--   integer-zero, integer-one, integer-add, integer-mul, integer-neg
--                                          sums, products and negatives of whole numbers are those of R
--   integer_map R                          so they are a homomorphism
--   map-integer φ k                        each homomorphism takes k to k
--   integer_inj F                          over a field different whole numbers stay different
--   whole_matrix-mul, -add, -sub, -unit    matrices of whole numbers are added and multiplied as those over R
use Rattle.std.proofs.Common.{◌≡◌, sym, refl, ◌∙◌, ap, ap₂, ℕ, zero, suc, ℤ, pos, negsuc, ◌+ℤ◌, ◌*ℤ◌, neg_ℤ}
use lib.IntN.{suc_ℤ, pred_ℤ, suc-pred, +ℤ_idl, +ℤ_invr, zero-*ℤ, suc_ℤ-*ℤ, pred_ℤ-*ℤ, suc_ℤ-+ℤ, pred_ℤ-+ℤ}
use Rattle.irr_algebra.specs.Ring.{Ring, whole}
use Rattle.irr_algebra.specs.Field.{Field}
use Rattle.irr_algebra.specs.Matrix.{Matrix, ◌·◌, ◌⊕◌, ◌⊖◌, unit}
use Rattle.irr_algebra.specs.Homomorphism.{Homomorphism, map_matrix}
use Rattle.irr_algebra.proofs.Rings.{zero-add, zero-mul, neg-add_left, eq-neg_of_add-zero, eq_of_sub-zero, neg-neg, neg-zero, ring_laws}
use Rattle.irr_algebra.proofs.Whole.{whole-zero, whole-one, whole-suc}
use Rattle.irr_algebra.proofs.Fields.{whole_inj}
use Rattle.irr_algebra.proofs.Homomorphisms.{map-whole, map-neg, map_matrix-mul, map_matrix-unit}
use Rattle.irr_algebra.proofs.Matrices.{matrix-ext}
use Rattle.irr_number.specs.Integers.{integers, ℤ_steps}
use Rattle.irr_rational.specs.Integer.{integer, whole_matrix}

module _ (R : Ring) where
  open R use {zero as 𝟘, one as 𝟙, add as ◌+◌, mul as ◌*◌, neg}

  infixl 65 ◌+◌
  infixl 70 ◌*◌
  pub integer-pos : (n : ℕ) → integer R (pos n) ≡ whole R n
  unfolding integer
  integer-pos n = refl

  pub integer-negsuc : (n : ℕ) → integer R (negsuc n) ≡ neg (whole R (suc n))
  unfolding integer
  integer-negsuc n = refl

  pub integer-zero : integer R (pos 0) ≡ 𝟘
  integer-zero = integer-pos 0 ∙ whole-zero R

  pub integer-one : integer R (pos 1) ≡ 𝟙
  integer-one = integer-pos 1 ∙ whole-one R

  integer-suc : (k : ℤ) → integer R (suc_ℤ k) ≡ 𝟙 + integer R k
  unfolding integer
  integer-suc (pos n) = whole-suc R n
  integer-suc (negsuc zero) = whole-zero R ∙ sym (R.add-neg 𝟙) ∙ ap (λ a. 𝟙 + neg a) (sym (whole-one R))
  integer-suc (negsuc (suc n)) = sym (ap (λ a. 𝟙 + neg a) (whole-suc R (suc n)) ∙ simp (ring_laws, R))

  integer-pred : (k : ℤ) → integer R (pred_ℤ k) ≡ neg 𝟙 + integer R k
  integer-pred k = sym (ap (λ a. neg 𝟙 + a) (sym (ap (integer R) (suc-pred k)) ∙ integer-suc (pred_ℤ k)) ∙ neg-add_left R 𝟙 (integer R (pred_ℤ k)))

  pub integer-add : (a b : ℤ) → integer R (a +ℤ b) ≡ integer R a + integer R b
  integer-add a b = ℤ_steps (λ a. integer R (a +ℤ b) ≡ integer R a + integer R b)
      (ap (integer R) (+ℤ_idl b) ∙ sym (zero-add R (integer R b)) ∙ ap (λ x. x + integer R b) (sym integer-zero))
      (λ k h. ap (integer R) (suc_ℤ-+ℤ k b) ∙ integer-suc (k +ℤ b) ∙ ap (λ x. 𝟙 + x) h
      ∙ sym (R.add_assoc 𝟙 (integer R k) (integer R b)) ∙ ap (λ x. x + integer R b) (sym (integer-suc k)))
      (λ k h. ap (integer R) (pred_ℤ-+ℤ k b) ∙ integer-pred (k +ℤ b) ∙ ap (λ x. neg 𝟙 + x) h
      ∙ sym (R.add_assoc (neg 𝟙) (integer R k) (integer R b)) ∙ ap (λ x. x + integer R b) (sym (integer-pred k)))
      a

  pub integer-neg : (k : ℤ) → integer R (neg_ℤ k) ≡ neg (integer R k)
  integer-neg k = eq-neg_of_add-zero R (integer R k) (integer R (neg_ℤ k)) (sym (integer-add k (neg_ℤ k)) ∙ ap (integer R) (+ℤ_invr k) ∙ integer-zero)

  pub integer-mul : (a b : ℤ) → integer R (a *ℤ b) ≡ integer R a * integer R b
  integer-mul a b = ℤ_steps (λ a. integer R (a *ℤ b) ≡ integer R a * integer R b)
      (ap (integer R) (zero-*ℤ b) ∙ integer-zero ∙ sym (zero-mul R (integer R b)) ∙ ap (λ x. x * integer R b) (sym integer-zero))
      (λ k h. ap (integer R) (suc_ℤ-*ℤ k b) ∙ integer-add (k *ℤ b) b ∙ ap (λ x. x + integer R b) h
      ∙ up (integer R k) (integer R b) ∙ ap (λ x. x * integer R b) (sym (integer-suc k)))
      (λ k h. ap (integer R) (pred_ℤ-*ℤ k b) ∙ integer-add (k *ℤ b) (neg_ℤ b) ∙ ap₂ R.add h (integer-neg b)
      ∙ down (integer R k) (integer R b) ∙ ap (λ x. x * integer R b) (sym (integer-pred k)))
      a
    where
      up : (x y : R.Carrier) → x * y + y ≡ (𝟙 + x) * y
      up x y = simp (ring_laws, R)

      down : (x y : R.Carrier) → x * y + neg y ≡ (neg 𝟙 + x) * y
      down x y = simp (ring_laws, R)

  -- the whole numbers in R
  abbrev pub integer_map : Homomorphism integers R
  integer_map = record { map = integer R; map-one = integer-one; map-add = integer-add; map-mul = integer-mul }

  whole_matrix-is : {m n : ℕ} (a : Matrix integers m n) → whole_matrix R a ≡ map_matrix integer_map a
  unfolding whole_matrix map_matrix
  whole_matrix-is a = refl

  pub whole_matrix-mul : {l m n : ℕ} (a : Matrix integers l m) (b : Matrix integers m n) → whole_matrix R (a · b) ≡ whole_matrix R a · whole_matrix R b
  whole_matrix-mul a b = whole_matrix-is (a · b) ∙ map_matrix-mul integer_map a b ∙ ap₂ ◌·◌ (sym (whole_matrix-is a)) (sym (whole_matrix-is b))

  pub whole_matrix-add : {m n : ℕ} (a b : Matrix integers m n) → whole_matrix R (a ⊕ b) ≡ whole_matrix R a ⊕ whole_matrix R b
  unfolding whole_matrix ◌⊕◌
  whole_matrix-add a b = matrix-ext (λ i j. integer-add (a.at i j) (b.at i j))

  pub whole_matrix-sub : {m n : ℕ} (a b : Matrix integers m n) → whole_matrix R (a ⊖ b) ≡ whole_matrix R a ⊖ whole_matrix R b
  unfolding whole_matrix ◌⊖◌
  whole_matrix-sub a b = matrix-ext (λ i j. integer-add (a.at i j) (neg_ℤ (b.at i j)) ∙ ap (R.add (integer R (a.at i j))) (integer-neg (b.at i j)))

  pub whole_matrix-unit : (n : ℕ) → whole_matrix R (unit integers n) ≡ unit R n
  whole_matrix-unit n = whole_matrix-is (unit integers n) ∙ map_matrix-unit integer_map n

-- each homomorphism takes whole numbers to themselves
pub map-integer : {R S : Ring} (φ : Homomorphism R S) (k : ℤ) → φ.map (integer R k) ≡ integer S k
unfolding integer
map-integer φ (pos n) = map-whole φ n
map-integer {R} {S} φ (negsuc n) = map-neg φ (whole R (suc n)) ∙ ap S.neg (map-whole φ (suc n))

module _ (F : Field) where
  open F use {ring as R, zero as 𝟘, neg, add as ◌+◌}

  infixl 65 ◌+◌
  -- only the whole number 0 is 0
  pub integer_zero_only : (k : ℤ) → integer R k ≡ 𝟘 → k ≡ pos 0
  unfolding integer
  integer_zero_only (pos n) e = ap pos (whole_inj F n 0 (e ∙ sym (whole-zero R)))
  integer_zero_only (negsuc n) e = absurd (F.characteristic_zero n (sym (neg-neg R (whole R (suc n))) ∙ ap neg e ∙ neg-zero R))

  -- different whole numbers stay different
  pub integer_inj : (a b : ℤ) → integer R a ≡ integer R b → a ≡ b
  integer_inj a b e = eq_of_sub-zero integers a b (integer_zero_only (a +ℤ neg_ℤ b)
      (integer-add R a (neg_ℤ b) ∙ ap₂ R.add e (integer-neg R b) ∙ R.add-neg (integer R b)))
