-- Runs of digits and the texts of numbers.
--   run_unique                    a text is digits and a rest that begins with no digit in one way
--   AllDigits-decimal             the text of a number has only digits
--   no_leading_zero-decimal       and no leading zero
--   decimal_of_digits             digits with no leading zero are the text of their value
--   leading_of_text               and only these are
--   decimal_unique                a text is the text of a number and a rest that begins with no digit in one way
--   signed_decimal_unique         and the same of the text of a whole number
--   digit_between                 a digit as a byte and as a number
--   digits_value-front            the value of digits one further, and that of all
--   run_more                      a run of digits and one digit more
--   run_whole                     a text of digits has no shorter run
use Rattle.std.proofs.Common.{◌≡◌, refl, sym, ◌∙◌, ap, subst, ℕ, zero, suc, ◌<◌, ◌≤◌, ◌^◌, ◌+◌, ◌-◌, ◌*◌, ℤ, pos, negsuc, List, [], ◌∷◌, ◌++◌, length, get_or, take, drop, arith, inl, inr}
use Rattle.std.proofs.lemmas.Bool.{cases_lt}
use Rattle.std.specs.Char.{digit_value}
use Rattle.std.specs.Int.{IsInRange}
use Rattle.std.specs.Fmt.{decimal, signed_decimal}
use Rattle.std.specs.Str.Parse.{AllDigits, IsNumeral, digits_value}
use Rattle.std.proofs.lemmas.Fmt.{decimal_is_IsNumeral, decimal-digits_value, decimal_injective, first_decimal, decimal_digit}
use Rattle.std.proofs.lemmas.Int.Digits.{digits_value_more, digits_more}
use Rattle.std.proofs.lemmas.Str.{digit_value_digit}
use Rattle.std.proofs.lemmas.Str.Parse.{numerals_by_value, tells_digits, digits_value-take-le, digit_at}
use Rattle.std.specs.Int.RustNames.{unsigned_abs}
use Rattle.irr_digits.specs.DigitRun.{BeginsWithDigit, HasNoLeadingZero}

-- a front of digits and the rest
pub run_unique : (xs ys s t : List ℕ) → AllDigits 10 xs → AllDigits 10 ys → ¬ (BeginsWithDigit s) → ¬ (BeginsWithDigit t) → xs ++ s ≡ ys ++ t → (xs ≡ ys) × (s ≡ t)
run_unique [] [] s t p q f g e = (refl, e)
run_unique [] (y ∷ ys) s t p q f g e = absurd (f (subst BeginsWithDigit (sym e) q.0))
run_unique (x ∷ xs) [] s t p q f g e = absurd (g (subst BeginsWithDigit e p.0))
run_unique (x ∷ xs) (y ∷ ys) s t p q f g e =
    let rest : xs ++ s ≡ ys ++ t = cc in
    let both : (xs ≡ ys) × (s ≡ t) = run_unique xs ys s t p.1 q.1 f g rest in
    let front : x ≡ y = cc in
    let whole : xs ≡ ys = both.0 in
    (cc, both.1)

pub AllDigits-decimal : (n : ℕ) → n < 2 ^ 64 → AllDigits 10 (decimal n)
AllDigits-decimal n h = (decimal_is_IsNumeral n h).0.1

pub no_leading_zero-decimal : (n : ℕ) → n < 2 ^ 64 → HasNoLeadingZero (decimal n)
no_leading_zero-decimal n h e = elim (cases_lt 0 n) [
  | inl l ↦ (let first : 48 < get_or (decimal n) 0 0 = first_decimal n l h in absurd (omega (arith, first, e)))
  | inr g ↦ (let z : n ≡ 0 = omega arith in ap length (decimal_digit n (omega arith)))
]

pub decimal_of_digits : (ds : List ℕ) → IsNumeral 10 ds → HasNoLeadingZero ds → digits_value 10 ds < 2 ^ 64 → decimal (digits_value 10 ds) ≡ ds
decimal_of_digits ds h lead small = decimal-digits_value (numerals_by_value _ tells_digits) ds h.1 h.0 lead small

pub leading_of_text : (ds : List ℕ) → digits_value 10 ds < 2 ^ 64 → decimal (digits_value 10 ds) ≡ ds → HasNoLeadingZero ds
leading_of_text ds small e = subst HasNoLeadingZero e (no_leading_zero-decimal (digits_value 10 ds) small)

pub decimal_unique : (m n : ℕ) (s t : List ℕ) → m < 2 ^ 64 → n < 2 ^ 64 → ¬ (BeginsWithDigit s) → ¬ (BeginsWithDigit t) → decimal m ++ s ≡ decimal n ++ t → (m ≡ n) × (s ≡ t)
decimal_unique m n s t hm hn f g e =
    let both : (decimal m ≡ decimal n) × (s ≡ t) = run_unique (decimal m) (decimal n) s t (AllDigits-decimal m hm) (AllDigits-decimal n hn) f g e in
    (decimal_injective m n hm hn both.0, both.1)

-- no text of a number begins with a minus
decimal-minus : (n : ℕ) (s t : List ℕ) → n < 2 ^ 64 → decimal n ++ s ≡ 45 ∷ t → ⊥
decimal-minus n s t h e = no_minus (decimal n) (decimal_is_IsNumeral n h).0 e
  where
    no_minus : (ds : List ℕ) → IsNumeral 10 ds → ds ++ s ≡ 45 ∷ t → ⊥
    no_minus [] p e = omega (arith, p.0)
    no_minus (d ∷ ds) p e = let is : 45 ≡ d = cc in let bad : digit_value 45 < 10 = subst (λ c. digit_value c < 10) (sym is) p.1.0 in omega (arith, bad)

pub signed_decimal_unique : (y z : ℤ) (s t : List ℕ) → unsigned_abs y < 2 ^ 63 → unsigned_abs z < 2 ^ 63 → ¬ (BeginsWithDigit s) → ¬ (BeginsWithDigit t) → signed_decimal y ++ s ≡ signed_decimal z ++ t → (y ≡ z) × (s ≡ t)
signed_decimal_unique (pos m) (pos n) s t hm hn f g e = let both : (m ≡ n) × (s ≡ t) = decimal_unique m n s t (omega arith) (omega arith) f g e in (ap pos both.0, both.1)
signed_decimal_unique (pos m) (negsuc n) s t hm hn f g e = absurd (decimal-minus m s (decimal (suc n) ++ t) (omega arith) e)
signed_decimal_unique (negsuc m) (pos n) s t hm hn f g e = absurd (decimal-minus n t (decimal (suc m) ++ s) (omega arith) (sym e))
signed_decimal_unique (negsuc m) (negsuc n) s t hm hn f g e =
    let tails : decimal (suc m) ++ s ≡ decimal (suc n) ++ t = cc in
    let both : (suc m ≡ suc n) × (s ≡ t) = decimal_unique (suc m) (suc n) s t (omega arith) (omega arith) f g tails in
    let same : m ≡ n = omega (arith, both.0) in
    (ap negsuc same, both.1)

-- a digit is a byte between those of 0 and 9, and its value is how far it stands behind that of 0
pub digit_between : (ds : List ℕ) (i : ℕ) → AllDigits 10 ds → i < length ds → (48 ≤ get_or ds i 0) × (get_or ds i 0 ≤ 57) × (digit_value (get_or ds i 0) + 48 ≡ get_or ds i 0)
digit_between ds i all h = let range = digit_at ds i all h in (omega (arith, range), omega (arith, range), digit_value_digit (get_or ds i 0) range)

-- the value of one digit more, which is at most that of all
pub digits_value-front : (ds : List ℕ) (i v : ℕ) → AllDigits 10 ds → v ≡ digits_value 10 (take i ds) → i < length ds
    → (digits_value 10 (take (i + 1) ds) ≡ v * 10 + (get_or ds i 0 - 48)) × (v * 10 + (get_or ds i 0 - 48) ≤ digits_value 10 ds)
digits_value-front ds i v all e h =
    let digit = digit_between ds i all h in
    let less : digit_value (get_or ds i 0) ≡ get_or ds i 0 - 48 = omega (arith, digit.2) in
    let more : digits_value 10 (take (i + 1) ds) ≡ v * 10 + (get_or ds i 0 - 48) = digits_value_more 10 ds i h ∙ ap (λ w. w * 10 + digit_value (get_or ds i 0)) (sym e) ∙ ap (λ d. v * 10 + d) less in
    (more, subst (λ w. w ≤ digits_value 10 ds) more (digits_value-take-le 10 ds (i + 1) (omega arith)))

-- where all bytes are digits the run ends at the end
pub run_whole : (ds : List ℕ) (r : ℕ) → AllDigits 10 ds → ¬ (BeginsWithDigit (drop r ds)) → length ds ≤ r
run_whole [] r p f = omega arith
run_whole (c ∷ cs) zero p f = absurd (f p.0)
run_whole (c ∷ cs) (suc r) p f = let rest : length cs ≤ r = run_whole cs r p.1 f in omega arith

-- one digit more
pub run_more : (ds : List ℕ) (i : ℕ) → i < length ds → AllDigits 10 (take i ds) → IsInRange 48 57 (get_or ds i 0) → AllDigits 10 (take (i + 1) ds)
run_more ds i h all range = digits_more 10 ds i h all (let value = digit_value_digit (get_or ds i 0) range in omega arith)
