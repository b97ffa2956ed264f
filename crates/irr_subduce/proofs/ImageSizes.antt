-- The sizes of images: operations whose vectors are in the cell have images with small vectors.
--   number_small       a numerator of the image's vector, over the product of the denominators
--   image_is_small     no component of the image's vector is above 100,000
use Rattle.std.proofs.Common.{◌≡◌, sym, ◌∙◌, ap, subst, refl, ℕ, ◌<◌, ◌≤◌, ◌*◌, ◌+◌, ◌^◌, List, [], ◌∷◌, ℤ, pos, ◌*ℤ◌, ◌-ℤ◌, get_or, unsigned_abs, mul-pos, arith}
use Rattle.std.proofs.lemmas.Int.{unsigned_abs-mul}
use native.Mathlib.Nat as Nat
use Rattle.irr_algebra.specs.Fin.{Fin, to_nat}
use Rattle.irr_algebra.specs.Fin.Fin.{first, next}
use Rattle.irr_algebra.proofs.Indices.{to_nat-lt}
use Rattle.irr_rational.specs.Rational.{ratio}
use Rattle.irr_rational.specs.Ratio.{entry}
use Rattle.irr_rational.proofs.Ratios.{cross_of_ratio}
use Rattle.irr_space.specs.Operation.{Vector, component}
use Rattle.irr_rat.specs.VectorMeaning.{vector_of}
use Rattle.irr_rat.proofs.Vectors.{component-vector_of, each_of_three}
use Rattle.irr_seitz.specs.OperationMeaning.{operation}
use Rattle.irr_seitz.specs.Rotation.{rotation_of, IsWithin}
use Rattle.irr_seitz.specs.declared.op.Op.{Op}
use Rattle.irr_seitz.proofs.Sizes.{abs-add, abs-sub, abs-mul}
use Rattle.irr_full.specs.Restriction.{IsImage}
use Rattle.irr_star.specs.Sizes.{HasSmallVector}
use Rattle.irr_setting.specs.Determinant.{row_dot}
use Rattle.irr_setting.specs.Setting.{basis, origin, IsSmallSetting, image_number, image_vector}
use Rattle.irr_setting.specs.declared.setting.Setting.{Setting}
use Rattle.irr_setting.proofs.ImageLaws.{made_vector, vector_is}
use Rattle.irr_setting.proofs.Numbers.{at_place, matrix_row, row_dot_small}
use Rattle.irr_side.specs.ArmTraces.{HasCellVector}

abs_pos : (n : ℕ) → unsigned_abs (pos n) ≤ n
abs_pos n = Nat.le_refl n

three : (ℕ → ℤ) → List ℤ
three f = f 0 ∷ f 1 ∷ f 2 ∷ []

three-entry : (f : ℕ → ℤ) (i : Fin 3) → entry (three f) i ≡ f (to_nat i)
unfolding three to_nat
three-entry f = each_of_three (λ i. entry (three f) i ≡ f (to_nat i)) refl refl refl

-- the two summands, over the product of the denominators
sum_bound : (a b n s d e : ℕ) → a ≤ (((10 ^ 4 * d + 10 ^ 4 * d) + 10 ^ 4 * d) * e)
    → b ≤ ((1000 * e + ((9 * (1000 * e) + 9 * (1000 * e)) + 9 * (1000 * e))) * (s * d)) → n ≤ a + b → 0 < s → n ≤ 58000 * ((s * d) * e)
sum_bound a b n s d e ha hb hn positive =
    let one : 1 * (d * e) ≤ s * (d * e) = Nat.mul-le-mul_right (d * e) positive in
    let first : ((10 ^ 4 * d + 10 ^ 4 * d) + 10 ^ 4 * d) * e ≡ 30000 * (d * e) = omega arith in
    let second : (1000 * e + ((9 * (1000 * e) + 9 * (1000 * e)) + 9 * (1000 * e))) * (s * d) ≡ 28000 * (s * (d * e)) = omega arith in
    let whole : (s * d) * e ≡ s * (d * e) = omega arith in
    omega (arith, one, first, second, whole, ha, hb, hn)

module _ (s : Setting) (small : IsSmallSetting s) (op f : Op) (within : IsWithin 9 (rotation_of f.rot)) (cell : HasCellVector op) where
  pub number_small : (i : ℕ) → i < 3 → unsigned_abs (image_number s op f.rot i) ≤ 58000 * ((s.den * op.den) * s.shift.den)
  number_small i l =
      let d = op.den in
      let e = s.shift.den in
      let moved = row_dot (get_or s.num i []) op.num in
      let turned = row_dot (get_or f.rot i []) s.shift.num in
      let p = get_or s.shift.num i (pos 0) in
      let a = abs-mul moved (pos e) ((10 ^ 4 * d + 10 ^ 4 * d) + 10 ^ 4 * d) e
      (row_dot_small (get_or s.num i []) op.num (10 ^ 4) d (matrix_row (10 ^ 4) s.num small.basis i l) cell) (abs_pos e) in
      let r = abs-sub p turned (1000 * e) ((9 * (1000 * e) + 9 * (1000 * e)) + 9 * (1000 * e))
      (at_place (λ x. unsigned_abs x ≤ 1000 * e) s.shift.num small.near i l)
      (row_dot_small (get_or f.rot i []) s.shift.num 9 (1000 * e) (matrix_row 9 f.rot within i l) small.near) in
      let b = abs-mul (p -ℤ turned) (pos (s.den * d)) (1000 * e + ((9 * (1000 * e) + 9 * (1000 * e)) + 9 * (1000 * e))) (s.den * d) r
      (abs_pos (s.den * d)) in
      sum_bound (((10 ^ 4 * d + 10 ^ 4 * d) + 10 ^ 4 * d) * e) ((1000 * e + ((9 * (1000 * e) + 9 * (1000 * e)) + 9 * (1000 * e))) * (s.den * d))
      (unsigned_abs (image_number s op f.rot i)) s.den d e (Nat.le_refl (((10 ^ 4 * d + 10 ^ 4 * d) + 10 ^ 4 * d) * e))
      (Nat.le_refl ((1000 * e + ((9 * (1000 * e) + 9 * (1000 * e)) + 9 * (1000 * e))) * (s.den * d)))
      (abs-add (moved *ℤ pos e) ((p -ℤ turned) *ℤ pos (s.den * d)) (((10 ^ 4 * d + 10 ^ 4 * d) + 10 ^ 4 * d) * e)
      ((1000 * e + ((9 * (1000 * e) + 9 * (1000 * e)) + 9 * (1000 * e))) * (s.den * d)) a b) s.positive

  module _ (image : IsImage (basis s) (origin s) (operation op) (operation f)) where
    common : ℕ
    common = (s.den * op.den) * s.shift.den

    positive : 0 < common
    unfolding common
    positive = mul-pos (mul-pos s.positive op.lowest.positive) s.shift.lowest.positive

    numbers : List ℤ
    numbers = three (image_number s op f.rot)

    same : vector_of f.num f.den ≡ vector_of numbers common
    unfolding numbers common three
    same = vector_is s (operation op) (operation f) image
        ∙ sym (made_vector s op f.rot (three (image_number s op f.rot)) common refl refl refl refl)

    cross : (i : Fin 3) → entry f.num i *ℤ pos common ≡ image_number s op f.rot (to_nat i) *ℤ pos f.den
    unfolding numbers
    cross i = cross_of_ratio (entry f.num i) (image_number s op f.rot (to_nat i)) f.den common f.lowest.positive positive
        (sym (component-vector_of f.num f.den i) ∙ ap (λ (v : Vector). component v i) same ∙ component-vector_of numbers common i
        ∙ ap (λ x. ratio x common) (three-entry (image_number s op f.rot) i))

    absolute : (i : Fin 3) → unsigned_abs (entry f.num i) * common ≡ unsigned_abs (image_number s op f.rot (to_nat i)) * f.den
    absolute i = sym (unsigned_abs-mul (entry f.num i) (pos common)) ∙ ap unsigned_abs (cross i)
        ∙ unsigned_abs-mul (image_number s op f.rot (to_nat i)) (pos f.den)

    cancelled : (x n d c : ℕ) → 0 < c → x * c ≡ n * d → n ≤ 58000 * c → x ≤ 58000 * d
    cancelled x n d c hc e l = Nat.le_of_mul-le-mul_right
        (let m : n * d ≤ 58000 * c * d = Nat.mul-le-mul_right d l in
        let whole : 58000 * c * d ≡ 58000 * d * c = omega arith in
        let done : x * c ≤ 58000 * d * c = omega (arith, m, whole, e) in done) hc

    pub image_is_small : HasSmallVector f
    unfolding common
    image_is_small i = let l = cancelled (unsigned_abs (entry f.num i)) (unsigned_abs (image_number s op f.rot (to_nat i))) f.den common positive
        (absolute i) (number_small (to_nat i) (to_nat-lt i)) in
        Nat.le_trans l (Nat.mul-le-mul_right f.den (let m : 58000 ≤ 100000 = omega arith in m))
