-- Whole numbers among the rational numbers.
--   whole_unique                          a rational is one whole number at most
--   whole-add, whole-mul, whole-neg       sums, products and negatives of whole numbers are whole
--   mul-int_div                           a divisor times the quotient by it
--   whole_ratio, dvd_of_whole             a/b is whole exactly where b divides a
--   whole_decide                          whether a rational is whole is decided
--   whole_multiples, dvd_of_multiples     n times each a/b is whole exactly where b divides n, for as/b in lowest terms
use Rattle.std.proofs.Common.{◌≡◌, sym, ◌∙◌, ap, ap₂, subst, refl, ℕ, zero, suc, ◌<◌, ◌*◌ as ◌*ℕ◌, ◌/◌, ◌⊎◌, inl, inr, ◌↔◌, ℤ, pos, negsuc, ◌*ℤ◌, ◌+ℤ◌, neg_ℤ, arith}
use Rattle.std.specs.Int.{◌∣◌}
use Rattle.std.specs.Int.RustNames.{int_div, unsigned_abs}
use Rattle.std.proofs.lemmas.Int.{unsigned_abs-mul}
use native.Mathlib.Nat as Nat
use native.Mathlib.Decide.{dec_dvd}
use Rattle.irr_algebra.specs.Ring.{whole}
use Rattle.irr_algebra.specs.Fin.{Fin, to_nat}
use Rattle.irr_algebra.specs.Fin.Fin.{first, next}
use Rattle.irr_algebra.proofs.Rings.{mul_left_comm, mul-neg}
use Rattle.irr_algebra.proofs.Indices.{to_nat-lt}
use Rattle.irr_number.specs.Integers.{integers, *ℤ-one}
use Rattle.irr_number.proofs.LowestTerms.{dvd_of_terms}
use Rattle.irr_rational.specs.Integer.{integer}
use Rattle.irr_rational.specs.Rational.{Rational, rationals, rational_field, ratio, IsWhole}
use Rattle.irr_rational.specs.Ratio.{AreLowest}
use Rattle.irr_rational.proofs.Integers.{integer-pos, integer-add, integer-mul, integer-neg, integer_inj}
use Rattle.irr_rational.proofs.Ratios.{over-integer, over_cross, over_of_ratio, ratio-over, ratio_is, ratio_of}

-- a rational is one whole number at most
pub whole_unique : (x : Rational) (h k : IsWhole x) → h.number ≡ k.number
whole_unique x h k = integer_inj rational_field h.number k.number (sym h.is ∙ k.is)

pub whole-integer : (k : ℤ) → IsWhole (integer rationals k)
whole-integer k = record { number = k; is = refl }

pub whole-add : (x y : Rational) → IsWhole x → IsWhole y → IsWhole (rationals.add x y)
whole-add x y h k = record { number = h.number +ℤ k.number; is = ap₂ rationals.add h.is k.is ∙ sym (integer-add rationals h.number k.number) }

pub whole-mul : (x y : Rational) → IsWhole x → IsWhole y → IsWhole (rationals.mul x y)
whole-mul x y h k = record { number = h.number *ℤ k.number; is = ap₂ rationals.mul h.is k.is ∙ sym (integer-mul rationals h.number k.number) }

pub whole-neg : (x : Rational) → IsWhole x → IsWhole (rationals.neg x)
whole-neg x h = record { number = neg_ℤ h.number; is = ap rationals.neg h.is ∙ sym (integer-neg rationals h.number) }

-- d times the quotient by a divisor d is the number
pub mul-int_div : (d : ℕ) (k : ℤ) → d ∣ unsigned_abs k → pos d *ℤ int_div k (pos d) ≡ k
mul-int_div d (pos n) v = ap pos (Nat.mul-div_cancel' d v)
mul-int_div d (negsuc n) v = mul-neg integers (pos d) (pos (suc n / d)) ∙ ap (λ x. neg_ℤ (pos x)) (Nat.mul-div_cancel' d v)

-- where b divides a, a/b is the quotient
pub whole_ratio : (a : ℤ) (b : ℕ) → 0 < b → b ∣ unsigned_abs a → IsWhole (ratio a b)
whole_ratio a b h v = record {
  number = int_div a (pos b);
  is = ratio_is (integer rationals (int_div a (pos b))) a b h
      (ap (λ w. rationals.mul w (integer rationals (int_div a (pos b)))) (sym (integer-pos rationals b))
      ∙ sym (integer-mul rationals (pos b) (int_div a (pos b))) ∙ ap (integer rationals) (mul-int_div b a v));
}

-- and only there it is whole
pub dvd_of_whole : (a : ℤ) (b : ℕ) → 0 < b → IsWhole (ratio a b) → b ∣ unsigned_abs a
dvd_of_whole a b h w = subst (λ n. b ∣ n) (sym (unsigned_abs-mul w.number (pos b)) ∙ ap unsigned_abs (sym cross))
    (Nat.dvd-mul_left b (unsigned_abs w.number))
  where
    cross : a ≡ w.number *ℤ pos b
    cross = sym (*ℤ-one a) ∙ over_cross rational_field (integer rationals w.number) a w.number b 1
        (over_of_ratio (integer rationals w.number) a b h w.is) (over-integer rationals w.number)

pub whole_decide : (x : Rational) → IsWhole x ⊎ (IsWhole x → ⊥)
whole_decide x = at_ratio (ratio_of x)
  where
    at_ratio : (a : ℤ) × (b : ℕ) × (0 < b) × (ratio a b ≡ x) → IsWhole x ⊎ (IsWhole x → ⊥)
    at_ratio t = elim (dec_dvd t.1 (unsigned_abs t.0)) [
      | yes v ↦ inl (subst IsWhole t.3 (whole_ratio t.0 t.1 t.2 v))
      | no f ↦ inr (λ w. f (dvd_of_whole t.0 t.1 t.2 (subst IsWhole (sym t.3) w)))
    ]

-- n times a/b is n a over b
pub multiple_of_ratio : (n : ℕ) (a : ℤ) (b : ℕ) → 0 < b → ratio (pos n *ℤ a) b ≡ rationals.mul (whole rationals n) (ratio a b)
multiple_of_ratio n a b h = ratio_is (rationals.mul (whole rationals n) (ratio a b)) (pos n *ℤ a) b h
    (mul_left_comm rationals (whole rationals b) (whole rationals n) (ratio a b)
    ∙ ap₂ rationals.mul (sym (integer-pos rationals n)) (ratio-over a b h) ∙ sym (integer-mul rationals (pos n) a))

-- the terms at the indices below n, by number, and 0 from there on
unfoldable terms : (n : ℕ) → (Fin n → ℕ) → ℕ → ℕ
terms zero f j = 0
terms (suc n) f zero = f first
terms (suc n) f (suc j) = terms n (λ i. f (next i)) j

terms-at : {n : ℕ} (f : Fin n → ℕ) (i : Fin n) → terms n f (to_nat i) ≡ f i
unfolding terms to_nat
terms-at f first = refl
terms-at f (next i) = terms-at (λ i. f (next i)) i

terms-below : (n : ℕ) (f : Fin n → ℕ) (j : ℕ) → j < n → (i : Fin n) × (terms n f j ≡ f i)
unfolding terms
terms-below zero f j lt = absurd (omega arith)
terms-below (suc n) f zero lt = (first, refl)
terms-below (suc n) f (suc j) lt = let t : (i : Fin n) × (terms n (λ i. f (next i)) j ≡ f (next i)) = terms-below n (λ i. f (next i)) j (omega arith) in (next t.0, t.1)

-- b divides n where it divides n times each term, in lowest terms
pub dvd_of_lowest : {m : ℕ} (a : Fin m → ℤ) (b n : ℕ) → AreLowest a b → ((i : Fin m) → b ∣ n *ℕ unsigned_abs (a i)) → b ∣ n
dvd_of_lowest {m} a b n low h = dvd_of_terms m (terms m (λ i. unsigned_abs (a i))) b low.positive
    (λ c v each. low.lowest c v (λ i. subst (λ k. c ∣ k) (terms-at (λ i. unsigned_abs (a i)) i) (each (to_nat i) (to_nat-lt i))))
    n (λ j lt. let t : (i : Fin m) × (terms m (λ i. unsigned_abs (a i)) j ≡ unsigned_abs (a i)) = terms-below m (λ i. unsigned_abs (a i)) j lt in
    subst (λ k. b ∣ n *ℕ k) (sym t.1) (h t.0))

-- n times a/b is whole where b divides n
pub whole_multiple : (a : ℤ) (b n : ℕ) → 0 < b → b ∣ n → IsWhole (rationals.mul (whole rationals n) (ratio a b))
whole_multiple a b n h v = subst IsWhole (multiple_of_ratio n a b h)
    (whole_ratio (pos n *ℤ a) b h (subst (λ k. b ∣ k) (sym (unsigned_abs-mul (pos n) a)) (Nat.dvd-mul_right_of_dvd b v (unsigned_abs a))))

-- and in lowest terms only there are all whole
pub dvd_of_multiples : {m : ℕ} (a : Fin m → ℤ) (b n : ℕ) → AreLowest a b → ((i : Fin m) → IsWhole (rationals.mul (whole rationals n) (ratio (a i) b))) → b ∣ n
dvd_of_multiples a b n low h = dvd_of_lowest a b n low (λ i. subst (λ k. b ∣ k) (unsigned_abs-mul (pos n) (a i))
    (dvd_of_whole (pos n *ℤ a i) b low.positive (subst IsWhole (sym (multiple_of_ratio n (a i) b low.positive)) (h i))))

-- a denominator of numbers in lowest terms divides n exactly where n times each is whole
pub whole_multiples : {m : ℕ} (a : Fin m → ℤ) (b n : ℕ) → AreLowest a b → ((i : Fin m) → IsWhole (rationals.mul (whole rationals n) (ratio (a i) b))) ↔ (b ∣ n)
whole_multiples a b n low = (dvd_of_multiples a b n low, λ v i. whole_multiple (a i) b n low.positive v)
