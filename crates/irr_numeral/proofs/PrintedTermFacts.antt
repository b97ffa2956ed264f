-- What is known of a printed term, as it is read.
--   IsPrintedAs n den (j, c)      its numbers are within their limits, and its value is c over den times z^j
--   printed-as                    so it is where c is not 0 and within the limit, den is within its limit, and j is below n
use Rattle.std.proofs.Common.{◌≡◌, ◌≢◌, refl, sym, ◌∙◌, ap, ap₂, subst, ℕ, ℤ, pos, negsuc, zero, suc, ◌<◌, ◌≤◌, ◌*◌, ◌/◌, ◌^◌, Bool, true, false, List, [], ◌∷◌, get_or, nat_eq, if◌then◌else◌, arith, None, Some, IfSome, inr, unsigned_abs}
use Rattle.std.specs.Int.{◌∣◌}
use Rattle.std.specs.Fmt.{decimal}
use Rattle.std.specs.Str.Parse.{IsNumeral, digits_value}
use Rattle.std.proofs.lemmas.Bool.Decides.{nat_tests}
use Rattle.std.proofs.lemmas.Fmt.{first_decimal, decimal_is_IsNumeral}
use Rattle.std.proofs.lemmas.Int.{unsigned_abs-mul}
use Rattle.std.proofs.lemmas.Nat.Gcd.{le_of_dvd}
use native.Mathlib.Nat as Nat
use Rattle.irr_digits.proofs.Numerals.{digit_between}
use Rattle.irr_number.proofs.Primes.{divisor_pos}
use Rattle.irr_rational.specs.Rational.{ratio}
use Rattle.irr_rational.specs.Ratio.{IsLowest}
use Rattle.irr_rational.proofs.Ratios.{cross_of_ratio}
use Rattle.irr_rational.proofs.WholeNumbers.{dvd_of_lowest}
use Rattle.irr_canonical.specs.Coefficient.{denominator}
use Rattle.irr_text.specs.NumberText.{numerator}
use Rattle.irr_text.proofs.RationalForm.{numerator_is_lowest}
use Rattle.irr_algebra.specs.Fin.Fin.{first}
use Rattle.irr_numeral.specs.declared.limits.TheConstants.{COEFFICIENT_LIMIT, DENOMINATOR_LIMIT}
use Rattle.irr_numeral.specs.NumberLimit.{IsWithin}
use Rattle.irr_numeral.specs.TermPlaces.{HasZero}
use Rattle.irr_numeral.specs.WrittenNumber.{IsWhole, IsDenominator, IsTerm, exponent_of, exponent_value}
use Rattle.irr_numeral.specs.WrittenValue.{denominator_of, denominator_value, numerator_of, numerator_over, with_sign}
use Rattle.irr_numeral.proofs.PrintedWriting.{denominator_digits, exponent_digits, is_negative, printed, numerator-some}

pub record IsPrintedAs (n den : ℕ) (t : ℕ × ℤ) : Type 0 where
  pub is_term : IsTerm (printed den t)
  pub not_zero : ¬ (HasZero (printed den t))
  pub within : IsWithin n (printed den t)
  pub exponent : exponent_of (printed den t) ≡ t.0
  pub positive : 0 < denominator_of (printed den t)
  pub divides : denominator_of (printed den t) ∣ den
  pub absolute : numerator_over den (printed den t) ≡ unsigned_abs t.1
  pub value : ratio (numerator_of (printed den t)) (denominator_of (printed den t)) ≡ ratio t.1 den

-- Digits of a printed number.

value-decimal : (m : ℕ) → m < 2 ^ 64 → digits_value 10 (decimal m) ≡ m
value-decimal m h = (decimal_is_IsNumeral m h).1

pub whole-decimal : (m : ℕ) → 0 < m → m < 2 ^ 64 → IsWhole (decimal m)
whole-decimal m p h = whole (decimal m) (decimal_is_IsNumeral m h).0 (first_decimal m p h)
  where
    whole : (ds : List ℕ) → IsNumeral 10 ds → 48 < get_or ds 0 0 → IsWhole ds
    whole [] is big = absurd (omega (arith, is.0))
    whole (d ∷ ds) is big = let range = digit_between (d ∷ ds) 0 is.1 (omega arith) in (omega arith, range.1, is.1.1)

signed-abs : (a : ℤ) → with_sign (is_negative a) (unsigned_abs a) ≡ a
signed-abs (pos n) = refl
signed-abs (negsuc n) = refl

abs-some : (a : ℤ) → a ≢ pos 0 → 0 < unsigned_abs a
abs-some (pos zero) n = absurd (n refl)
abs-some (pos (suc m)) n = omega arith
abs-some (negsuc m) n = omega arith

one_of_eq : (b : ℕ) → nat_eq b 1 ≡ true → b ≡ 1
one_of_eq b e = grind (arith, nat_tests)

module _ (b : ℕ) (h : b < 2 ^ 64) where
  by_value : (m : Bool) → nat_eq b 1 ≡ m → denominator_value (if m then None else Some (decimal b)) ≡ b
  by_value true e = sym (one_of_eq b e)
  by_value false e = value-decimal b h

  denominator-value : denominator_value (denominator_digits b) ≡ b
  denominator-value = by_value (nat_eq b 1) refl

  by_digits : (m : Bool) → 0 < b → IfSome (if m then None else Some (decimal b)) IsDenominator
  by_digits true p = tt
  by_digits false p = inr (whole-decimal b p h)

  denominator-digits : 0 < b → IfSome (denominator_digits b) IsDenominator
  denominator-digits p = by_digits (nat_eq b 1) p

  by_limit : (m : Bool) → b ≤ DENOMINATOR_LIMIT → IfSome (if m then None else Some (decimal b)) (λ ds. digits_value 10 ds ≤ DENOMINATOR_LIMIT)
  by_limit true l = tt
  by_limit false l = let v = value-decimal b h in omega (arith, v, l)

  denominator-limit : b ≤ DENOMINATOR_LIMIT → IfSome (denominator_digits b) (λ ds. digits_value 10 ds ≤ DENOMINATOR_LIMIT)
  denominator-limit l = by_limit (nat_eq b 1) l

  denominator-not_zero : 0 < b → ¬ (denominator_digits b ≡ Some (48 ∷ []))
  denominator-not_zero p e = let z : denominator_value (denominator_digits b) ≡ 0 = ap denominator_value e in omega (arith, z, denominator-value)

module _ (j : ℕ) (h : j < 2 ^ 64) where
  exponent-value : exponent_value (exponent_digits j) ≡ j
  exponent-value = by_cases j h
    where
      by_cases : (j : ℕ) → j < 2 ^ 64 → exponent_value (exponent_digits j) ≡ j
      by_cases zero h = refl
      by_cases (suc j) h = value-decimal (suc j) h

  exponent-digits : IfSome (exponent_digits j) IsWhole
  exponent-digits = by_cases j h
    where
      by_cases : (j : ℕ) → j < 2 ^ 64 → IfSome (exponent_digits j) IsWhole
      by_cases zero h = tt
      by_cases (suc j) h = whole-decimal (suc j) (omega arith) h

  exponent-limit : (n : ℕ) → j < n → IfSome (exponent_digits j) (λ ds. digits_value 10 ds < n)
  exponent-limit n l = by_cases j h l
    where
      by_cases : (j : ℕ) → j < 2 ^ 64 → j < n → IfSome (exponent_digits j) (λ ds. digits_value 10 ds < n)
      by_cases zero h l = tt
      by_cases (suc j) h l = let v = value-decimal (suc j) h in omega (arith, v, l)

-- A coefficient in lowest terms.

cancelled : (a b k c den : ℕ) → 0 < b → b * k ≡ den → a * den ≡ c * b → a * k ≡ c
cancelled a b k c den p e f = sym (Nat.mul-div_cancel (a * k) p) ∙ ap (λ x. x / b) (sorted a b k ∙ ap (λ x. a * x) e ∙ f) ∙ Nat.mul-div_cancel c p
  where
    sorted : (a b k : ℕ) → (a * k) * b ≡ a * (b * k)
    sorted a b k = omega arith

module _ (c : ℤ) (den : ℕ) (some : c ≢ pos 0) (p : 0 < den) where
  low : IsLowest (numerator (ratio c den)) (denominator 1 (ratio c den))
  low = (numerator_is_lowest (ratio c den)).0

  cross : unsigned_abs (numerator (ratio c den)) * den ≡ unsigned_abs c * denominator 1 (ratio c den)
  cross = sym (unsigned_abs-mul (numerator (ratio c den)) (pos den))
      ∙ ap unsigned_abs (cross_of_ratio (numerator (ratio c den)) c (denominator 1 (ratio c den)) den low.positive p (numerator_is_lowest (ratio c den)).1)
      ∙ unsigned_abs-mul c (pos (denominator 1 (ratio c den)))

  lowest-divides : denominator 1 (ratio c den) ∣ den
  lowest-divides = dvd_of_lowest {m = 1} (λ i. numerator (ratio c den)) (denominator 1 (ratio c den)) den
      (record { positive = low.positive; lowest = λ d v each. low.lowest d v (each first) })
      (λ i. subst (λ k. denominator 1 (ratio c den) ∣ k) (sym cross ∙ Nat.mul_comm (unsigned_abs (numerator (ratio c den))) den)
      (Nat.dvd-mul_left (denominator 1 (ratio c den)) (unsigned_abs c)))

  absolute-over : unsigned_abs (numerator (ratio c den)) * (den / denominator 1 (ratio c den)) ≡ unsigned_abs c
  absolute-over = cancelled (unsigned_abs (numerator (ratio c den))) (denominator 1 (ratio c den)) (den / denominator 1 (ratio c den))
      (unsigned_abs c) den low.positive (Nat.mul-div_cancel' (denominator 1 (ratio c den)) lowest-divides) cross

  absolute-le : unsigned_abs (numerator (ratio c den)) ≤ unsigned_abs c
  absolute-le = subst (λ x. unsigned_abs (numerator (ratio c den)) ≤ x) absolute-over
      (Nat.le-mul_of_pos_right (unsigned_abs (numerator (ratio c den))) quotient-pos)
    where
      quotient-pos : 0 < den / denominator 1 (ratio c den)
      quotient-pos = divisor_pos (den / denominator 1 (ratio c den)) den p
          (subst (λ x. den / denominator 1 (ratio c den) ∣ x) (Nat.mul-div_cancel' (denominator 1 (ratio c den)) lowest-divides)
          (Nat.dvd-mul_left (den / denominator 1 (ratio c den)) (denominator 1 (ratio c den))))

pub printed-as : (n den j : ℕ) (c : ℤ) → c ≢ pos 0 → 0 < den → den ≤ DENOMINATOR_LIMIT → unsigned_abs c ≤ COEFFICIENT_LIMIT → j < n → n < 2 ^ 64
    → IsPrintedAs n den (j, c)
printed-as n den j c some p d l lt top =
    let low : IsLowest (numerator (ratio c den)) (denominator 1 (ratio c den)) = low c den some p in
    let le : denominator 1 (ratio c den) ≤ den = le_of_dvd p (lowest-divides c den some p) in
    let abs : unsigned_abs (numerator (ratio c den)) ≤ unsigned_abs c = absolute-le c den some p in
    let value : digits_value 10 (decimal (unsigned_abs (numerator (ratio c den)))) ≡ unsigned_abs (numerator (ratio c den)) =
    value-decimal (unsigned_abs (numerator (ratio c den))) (omega arith) in
    let below : denominator 1 (ratio c den) < 2 ^ 64 = omega arith in
    let exp : j < 2 ^ 64 = omega arith in
    let over : denominator_value (denominator_digits (denominator 1 (ratio c den))) ≡ denominator 1 (ratio c den) =
    denominator-value (denominator 1 (ratio c den)) below in
    record {
      is_term = record {
        numerator = whole-decimal (unsigned_abs (numerator (ratio c den))) (abs-some (numerator (ratio c den)) (numerator-some c den p some)) (omega arith);
        denominator = denominator-digits (denominator 1 (ratio c den)) below low.positive;
        exponent = exponent-digits j exp;
      };
      not_zero = denominator-not_zero (denominator 1 (ratio c den)) below low.positive;
      within = (omega (arith, value), denominator-limit (denominator 1 (ratio c den)) below (omega arith), exponent-limit j exp n lt);
      exponent = exponent-value j exp;
      positive = subst (λ x. 0 < x) (sym over) low.positive;
      divides = subst (λ x. x ∣ den) (sym over) (lowest-divides c den some p);
      absolute = ap₂ (λ x y. x * (den / y)) value over ∙ absolute-over c den some p;
      value = ap₂ ratio (ap (with_sign (is_negative (numerator (ratio c den)))) value ∙ signed-abs (numerator (ratio c den))) over
          ∙ (numerator_is_lowest (ratio c den)).1;
    }
