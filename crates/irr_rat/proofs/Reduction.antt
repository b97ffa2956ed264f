-- Vectors less their floors.
--   AreRests a s b      s are the remainders of a by b
--   euclid              a number is its quotient times the divisor and its remainder
--   ratio-rest          so a fraction less its floor is the remainder over the denominator
--   reduced_in_cell     the remainders over the denominator are in the cell
--   reduced_whole       and differ by a whole vector
use Rattle.std.proofs.Common.{◌≡◌, sym, ◌∙◌, ap, ap₂, subst, ℕ, suc, ◌<◌, ◌+◌ as ◌+ℕ◌, ◌*◌ as ◌*ℕ◌, ◌/◌, ◌%◌, List, get_or, ℤ, pos, negsuc, ◌+ℤ◌, ◌*ℤ◌, neg_ℤ, lit<, arith, mod-lt, mul_comm, suc-mul}
use Rattle.std.proofs.Math.Nat.{div-add-mod, one-mul}
use Rattle.std.proofs.lemmas.Int.{ints}
use Rattle.std.specs.Int.{int_div_euclid, int_rem_euclid}
use Rattle.irr_algebra.specs.Fin.{Fin, to_nat}
use Rattle.irr_algebra.specs.Ring.{Ring}
use Rattle.irr_algebra.specs.Matrix.{◌⊖◌}
use Rattle.irr_algebra.proofs.Rings.{neg-mul, ring_laws}
use Rattle.irr_number.specs.Integers.{integers, *ℤ-one}
use Rattle.irr_rational.specs.Integer.{integer}
use Rattle.irr_rational.specs.Rational.{Rational, rationals, ratio, IsWhole}
use Rattle.irr_rational.specs.Ratio.{entry}
use Rattle.irr_rational.specs.Order.{◌≤ℚ◌, ◌<ℚ◌}
use Rattle.irr_rational.proofs.Ratios.{ratio-add, integer-ratio}
use Rattle.irr_rational.proofs.Floors.{floor-quotient, fraction-nonneg, fraction-lt}
use Rattle.irr_space.specs.Operation.{component}
use Rattle.irr_space.specs.CanonicalOperation.{IsInCell}
use Rattle.irr_rat.specs.VectorMeaning.{vector_of}
use Rattle.irr_rat.proofs.Vectors.{component-vector_of, component-sub, each_of_three}

pub euclid : (x : ℤ) (b : ℕ) → 0 < b → x ≡ (int_div_euclid x (pos b) *ℤ pos b) +ℤ int_rem_euclid x (pos b)
euclid (pos n) b h = ap pos (sym (div-add-mod n b) ∙ ap (λ m. m +ℕ n % b) (mul_comm b (n / b)))
euclid (negsuc n) b h =
    let e : negsuc (n / b) *ℤ pos b ≡ neg_ℤ (pos (suc (n / b) *ℕ b)) = neg-mul integers (pos (suc (n / b))) (pos b) in
    let s : suc (n / b) *ℕ b ≡ (n / b) *ℕ b +ℕ b = suc-mul (n / b) b in
    let c : (n / b) *ℕ b ≡ b *ℕ (n / b) = mul_comm (n / b) b in
    let d : b *ℕ (n / b) +ℕ n % b ≡ n = div-add-mod n b in
    let m : n % b < b = mod-lt n h in
    omega (arith, ints)

pub ratio-rest : (x : ℤ) (b : ℕ) → 0 < b → ratio (int_rem_euclid x (pos b)) b ≡ rationals.add (ratio x b) (rationals.neg (integer rationals (int_div_euclid x (pos b))))
ratio-rest x b h = sym (ap (λ u. rationals.add u (rationals.neg whole_part)) split ∙ left rationals whole_part (ratio rest b))
  where
    rest : ℤ
    rest = int_rem_euclid x (pos b)

    whole_part : Rational
    whole_part = integer rationals (int_div_euclid x (pos b))

    left : (R : Ring) (u v : R.Carrier) → R.add (R.add u v) (R.neg u) ≡ v
    left R u v = ap (λ w. R.add w (R.neg u)) (R.add_comm u v) ∙ R.add_assoc v u (R.neg u) ∙ ap (R.add v) (R.add-neg u) ∙ R.add-zero v

    split : ratio x b ≡ rationals.add whole_part (ratio rest b)
    split = ap₂ ratio (euclid x b h ∙ ap (λ k. (int_div_euclid x (pos b) *ℤ pos b) +ℤ k) (sym (*ℤ-one rest))) (sym (one-mul b))
        ∙ ratio-add (int_div_euclid x (pos b)) rest 1 b (lit< tt) h
        ∙ ap (λ u. rationals.add u (ratio rest b)) (sym (integer-ratio (int_div_euclid x (pos b))))

-- s are the remainders of a by b
abbrev pub AreRests : List ℤ → List ℤ → ℕ → Type 0
AreRests a s b = (i : Fin 3) → entry s i ≡ int_rem_euclid (entry a i) (pos b)

pub rests : (a s : List ℤ) (b : ℕ) → get_or s 0 (pos 0) ≡ int_rem_euclid (get_or a 0 (pos 0)) (pos b) → get_or s 1 (pos 0) ≡ int_rem_euclid (get_or a 1 (pos 0)) (pos b)
    → get_or s 2 (pos 0) ≡ int_rem_euclid (get_or a 2 (pos 0)) (pos b) → AreRests a s b
unfolding to_nat
rests a s b ex ey ez = each_of_three (λ i. entry s i ≡ int_rem_euclid (entry a i) (pos b)) ex ey ez

component-rest : (a s : List ℤ) (b : ℕ) → 0 < b → AreRests a s b → (i : Fin 3)
    → component (vector_of s b) i ≡ rationals.add (ratio (entry a i) b) (rationals.neg (integer rationals (int_div_euclid (entry a i) (pos b))))
component-rest a s b h e i = component-vector_of s b i ∙ ap (λ k. ratio k b) (e i) ∙ ratio-rest (entry a i) b h

pub reduced_in_cell : (a s : List ℤ) (b : ℕ) → 0 < b → AreRests a s b → IsInCell (vector_of s b)
reduced_in_cell a s b h e i = subst (λ u. (rationals.zero ≤ℚ u) × (u <ℚ rationals.one)) (sym (component-rest a s b h e i))
    (fraction-nonneg (ratio (entry a i) b) (int_div_euclid (entry a i) (pos b)) (floor-quotient (entry a i) b h), fraction-lt (ratio (entry a i) b) (int_div_euclid (entry a i) (pos b)) (floor-quotient (entry a i) b h))

pub reduced_whole : (a s : List ℤ) (b : ℕ) → 0 < b → AreRests a s b → (i : Fin 3) → IsWhole (component (vector_of a b ⊖ vector_of s b) i)
reduced_whole a s b h e i = record {
  number = int_div_euclid (entry a i) (pos b);
  is = component-sub (vector_of a b) (vector_of s b) i
      ∙ ap₂ (λ u v. rationals.add u (rationals.neg v)) (component-vector_of a b i) (component-rest a s b h e i)
      ∙ left rationals (ratio (entry a i) b) (integer rationals (int_div_euclid (entry a i) (pos b)));
}
  where
    left : (R : Ring) (u v : R.Carrier) → R.add u (R.neg (R.add u (R.neg v))) ≡ v
    left R u v = simp (ring_laws, R)
