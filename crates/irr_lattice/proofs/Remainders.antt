-- Remainders of whole numbers, and wave vectors reduced by them.
--   euclid             a is its quotient times b and its remainder, which is below b
--   reduced_listed     the remainders of the numerators are the reduced wave vector
--   lowest_listed      they are in lowest terms with the numerators
use Rattle.std.proofs.Common.{◌≡◌, sym, ◌∙◌, ap, ap₂, subst, ℕ, ℤ, pos, negsuc, suc, ◌<◌, ◌+◌, ◌-◌, ◌*◌, ◌/◌, ◌%◌, ◌+ℤ◌, ◌*ℤ◌, neg_ℤ, [], arith}
use Rattle.std.proofs.lemmas.Int.{ints}
use Rattle.std.specs.Int.{◌∣◌, int_div_euclid, int_rem_euclid}
use Rattle.std.specs.Int.RustNames.{unsigned_abs}
use native.Mathlib.Nat as Nat
use Rattle.irr_algebra.specs.Fin.{Fin}
use Rattle.irr_algebra.proofs.Rings.{neg-mul}
use Rattle.irr_number.specs.Integers.{integers}
use Rattle.irr_rational.specs.Integer.{integer}
use Rattle.irr_rational.specs.Rational.{Rational, rationals, ratio, IsWhole}
use Rattle.irr_rational.specs.Order.{◌≤ℚ◌, ◌<ℚ◌}
use Rattle.irr_rational.specs.Ratio.{AreLowest}
use Rattle.irr_rational.proofs.Ratios.{ratio-add, integer-ratio, ratio_same}
use Rattle.irr_rational.proofs.WholeNumbers.{whole-integer, whole-neg}
use Rattle.irr_rational.proofs.Floors.{floor-quotient, fraction-nonneg, fraction-lt}
use Rattle.irr_space.specs.Operation.{WaveVector, wave_component}
use Rattle.irr_space.specs.SpaceGroup.{Generated}
use Rattle.irr_space.specs.Reciprocal.{IsReduced}
use Rattle.irr_lattice.proofs.Reciprocals.{reduced_in_cell, whole-equivalent}

pub euclid : (a : ℤ) (b : ℕ) → 0 < b → a ≡ (int_div_euclid a (pos b) *ℤ pos b) +ℤ int_rem_euclid a (pos b)
euclid (pos n) b h = let e : b * (n / b) + n % b ≡ n = Nat.div-add-mod n b in let c : (n / b) * b ≡ b * (n / b) = Nat.mul_comm (n / b) b in omega (arith, ints)
euclid (negsuc n) b h =
    let e : b * (n / b) + n % b ≡ n = Nat.div-add-mod n b in
    let m : n % b < b = Nat.mod-lt n h in
    let s : suc (n / b) * b ≡ b * (n / b) + b = Nat.mul_comm (suc (n / b)) b ∙ Nat.mul-suc b (n / b) in
    let f : negsuc (n / b) *ℤ pos b ≡ neg_ℤ (pos (suc (n / b) * b)) = neg-mul integers (pos (suc (n / b))) (pos b) in
    let r : b - 1 - n % b + (suc n) ≡ suc (n / b) * b = omega arith in
    omega (arith, ints)

module _ (a : ℤ) (b : ℕ) (positive : 0 < b) where
  -- a/b less its floor is the remainder over b
  pub ratio-rem : ratio (int_rem_euclid a (pos b)) b ≡ rationals.add (ratio a b) (rationals.neg (integer rationals (int_div_euclid a (pos b))))
  ratio-rem = less (ratio a b) (integer rationals (int_div_euclid a (pos b))) (ratio (int_rem_euclid a (pos b)) b) (sym parts)
    where
      less : (x q r : Rational) → rationals.add q r ≡ x → r ≡ rationals.add x (rationals.neg q)
      less x q r e = sym (rationals.add-zero r) ∙ ap (rationals.add r) (sym (rationals.add-neg q)) ∙ sym (rationals.add_assoc r q (rationals.neg q)) ∙ ap (λ y. rationals.add y (rationals.neg q)) (rationals.add_comm r q ∙ e)

      parts : ratio a b ≡ rationals.add (integer rationals (int_div_euclid a (pos b))) (ratio (int_rem_euclid a (pos b)) b)
      parts = ratio_same a ((int_div_euclid a (pos b) *ℤ pos b) +ℤ (int_rem_euclid a (pos b) *ℤ pos 1)) b (1 * b) positive (omega arith)
          (let e : a ≡ (int_div_euclid a (pos b) *ℤ pos b) +ℤ int_rem_euclid a (pos b) = euclid a b positive in
          let one : int_rem_euclid a (pos b) *ℤ pos 1 ≡ int_rem_euclid a (pos b) = integers.mul-one (int_rem_euclid a (pos b)) in
          ap₂ (λ x y. x *ℤ y) (e ∙ ap (λ z. (int_div_euclid a (pos b) *ℤ pos b) +ℤ z) (sym one)) (ap pos (omega arith)))
          ∙ ratio-add (int_div_euclid a (pos b)) (int_rem_euclid a (pos b)) 1 b (omega arith) positive
          ∙ ap (λ x. rationals.add x (ratio (int_rem_euclid a (pos b)) b)) (sym (integer-ratio (int_div_euclid a (pos b))))

  pub rem-nonneg : rationals.zero ≤ℚ ratio (int_rem_euclid a (pos b)) b
  rem-nonneg = subst (λ x. rationals.zero ≤ℚ x) (sym ratio-rem) (fraction-nonneg (ratio a b) (int_div_euclid a (pos b)) (floor-quotient a b positive))

  pub rem-below_one : ratio (int_rem_euclid a (pos b)) b <ℚ rationals.one
  rem-below_one = subst (λ x. x <ℚ rationals.one) (sym ratio-rem) (fraction-lt (ratio a b) (int_div_euclid a (pos b)) (floor-quotient a b positive))

  pub rem-whole : IsWhole (rationals.add (ratio (int_rem_euclid a (pos b)) b) (rationals.neg (ratio a b)))
  rem-whole = subst IsWhole (sym (ap (λ x. rationals.add x (rationals.neg (ratio a b))) ratio-rem ∙ left (ratio a b) (integer rationals (int_div_euclid a (pos b))))) (whole-neg (integer rationals (int_div_euclid a (pos b))) (whole-integer (int_div_euclid a (pos b))))
    where
      left : (x q : Rational) → rationals.add (rationals.add x (rationals.neg q)) (rationals.neg x) ≡ rationals.neg q
      left x q = rationals.add_assoc x (rationals.neg q) (rationals.neg x) ∙ ap (rationals.add x) (rationals.add_comm (rationals.neg q) (rationals.neg x))
          ∙ sym (rationals.add_assoc x (rationals.neg x) (rationals.neg q)) ∙ ap (λ y. rationals.add y (rationals.neg q)) (rationals.add-neg x) ∙ rationals.add_comm rationals.zero (rationals.neg q) ∙ rationals.add-zero (rationals.neg q)

module _ (k r : WaveVector) (a c : Fin 3 → ℤ) (b : ℕ) (low : AreLowest a b) (is_rem : (i : Fin 3) → c i ≡ int_rem_euclid (a i) (pos b))
    (before : (i : Fin 3) → wave_component k i ≡ ratio (a i) b) (after : (i : Fin 3) → wave_component r i ≡ ratio (c i) b) where
  is_remainder : (i : Fin 3) → wave_component r i ≡ ratio (int_rem_euclid (a i) (pos b)) b
  is_remainder i = after i ∙ ap (λ z. ratio z b) (is_rem i)

  pub remainders-reduced : IsReduced (Generated []) k r
  remainders-reduced = reduced_in_cell k r
      (whole-equivalent r k (λ i. subst IsWhole (ap₂ (λ x y. rationals.add x (rationals.neg y)) (sym (is_remainder i)) (sym (before i))) (rem-whole (a i) b low.positive)))
      (λ i. subst (λ x. rationals.zero ≤ℚ x) (sym (is_remainder i)) (rem-nonneg (a i) b low.positive))
      (λ i. subst (λ x. x <ℚ rationals.one) (sym (is_remainder i)) (rem-below_one (a i) b low.positive))

-- what divides b and the remainder divides the number
dvd_of_rem : (d : ℕ) (a : ℤ) (b : ℕ) → 0 < b → d ∣ b → d ∣ unsigned_abs (int_rem_euclid a (pos b)) → d ∣ unsigned_abs a
dvd_of_rem d (pos n) b h v w = subst (λ x. d ∣ x) (Nat.div-add-mod n b) (Nat.dvd-add d (Nat.dvd-mul_right_of_dvd d v (n / b)) w)
dvd_of_rem d (negsuc n) b h v w =
    let e : b * (n / b) + n % b ≡ n = Nat.div-add-mod n b in
    let m : n % b < b = Nat.mod-lt n h in
    let s : b * suc (n / b) ≡ b * (n / b) + b = Nat.mul-suc b (n / b) in
    let r : b * suc (n / b) - (b - 1 - n % b) ≡ suc n = omega arith in
    subst (λ x. d ∣ x) r (Nat.dvd-sub d (Nat.dvd-mul_right_of_dvd d v (suc (n / b))) w)

pub remainders-lowest : (a c : Fin 3 → ℤ) (b : ℕ) → AreLowest a b → ((i : Fin 3) → c i ≡ int_rem_euclid (a i) (pos b)) → AreLowest c b
remainders-lowest a c b low e = record { positive = low.positive; lowest = λ d v w. low.lowest d v (λ i. dvd_of_rem d (a i) b low.positive v (subst (λ z. d ∣ unsigned_abs z) (e i) (w i))) }
