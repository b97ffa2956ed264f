-- Numbers compared by their digits.
--   below-by_front      of as many digits, behind a smaller front
--   below-by_length     of fewer digits, where the other number has no leading zero
--   below-by_digit      by the first digit that differs
--   told-by_length, told-by_digit, told-by_all     what the tests of lengths and digits tell
use Rattle.std.proofs.Common.{◌≡◌, ◌≢◌, refl, sym, ap, ap₂, subst, ℕ, zero, suc, ◌<◌, ◌≤◌, ◌+◌, ◌*◌, List, [], ◌∷◌, length, get_or, arith, inl, inr, IsTrue, nat_lt, ◌↔◌, false}
use Rattle.std.proofs.lemmas.Bool.Decides.{nat_tests}
use Rattle.std.specs.Char.{digit_value}
use Rattle.std.specs.Str.Parse.{AllDigits, digits_value, digits_value_after}
use Rattle.std.proofs.lemmas.Bool.{cases_lt}
use Rattle.std.proofs.lemmas.Str.{digit_value_digit}
use Rattle.irr_digits.proofs.Numerals.{digit_between}
use Rattle.irr_numeral.specs.WrittenNumber.{IsExponent}
use Rattle.irr_numeral.proofs.Splits.{digits_of_whole}

pub digits_of_exponent : (ds : List ℕ) → IsExponent ds → AllDigits 10 ds
digits_of_exponent [] e = tt
digits_of_exponent (d ∷ ds) e = digits_of_whole (d ∷ ds) e

below-by_front : (n m : ℕ) (xs ys : List ℕ) → n < m → length xs ≡ length ys → AllDigits 10 xs → digits_value_after 10 n xs < digits_value_after 10 m ys
below-by_front n m [] [] h e all = h
below-by_front n m [] (y ∷ ys) h e all = absurd (omega arith)
below-by_front n m (x ∷ xs) [] h e all = absurd (omega arith)
below-by_front n m (x ∷ xs) (y ∷ ys) h e all = below-by_front (n * 10 + digit_value x) (m * 10 + digit_value y) xs ys (omega (arith, all.0)) (omega arith) all.1

-- behind a front above 0 more digits make no smaller number
below-by_more : (m : ℕ) (xs ys : List ℕ) → 0 < m → length xs ≤ length ys → AllDigits 10 xs → digits_value_after 10 0 xs < digits_value_after 10 m ys
below-by_more m [] [] h e all = h
below-by_more m (x ∷ xs) [] h e all = absurd (omega arith)
below-by_more m xs (y ∷ ys) h e all = elim (cases_lt (length xs) (suc (length ys))) [
  | inl l ↦ below-by_more (m * 10 + digit_value y) xs ys (omega arith) (omega arith) all
  | inr g ↦ below-by_front 0 m xs (y ∷ ys) h (omega arith) all
]

-- a digit that is not 0
some_digit : (d : ℕ) → 49 ≤ d → d ≤ 57 → 0 < digit_value d
some_digit d h g = let value = digit_value_digit d (omega arith, omega arith) in omega arith

pub below-by_length : (xs ys : List ℕ) → IsExponent xs → IsExponent ys → length xs < length ys → digits_value 10 xs < digits_value 10 ys
below-by_length xs [] a b h = absurd (omega arith)
below-by_length xs (y ∷ ys) a b h = below-by_more (0 * 10 + digit_value y) xs ys (omega (arith, some_digit y b.0 b.1)) (omega arith) (digits_of_exponent xs a)

value_order : (x y : ℕ) → digit_value x < 10 → digit_value y < 10 → x < y → digit_value x < digit_value y
value_order x y h g l =
    let a = digit_between (x ∷ []) 0 (h, tt) (omega arith) in
    let b = digit_between (y ∷ []) 0 (g, tt) (omega arith) in
    omega (arith, a, b)

below-at : (n : ℕ) (xs ys : List ℕ) (i : ℕ) → length xs ≡ length ys → AllDigits 10 xs → AllDigits 10 ys → i < length xs → ((k : ℕ) → k < i → get_or xs k 0 ≡ get_or ys k 0) → get_or xs i 0 < get_or ys i 0
    → digits_value_after 10 n xs < digits_value_after 10 n ys
below-at n [] ys i e a b lt same less = absurd (omega arith)
below-at n (x ∷ xs) [] i e a b lt same less = absurd (omega arith)
below-at n (x ∷ xs) (y ∷ ys) zero e a b lt same less = below-by_front (n * 10 + digit_value x) (n * 10 + digit_value y) xs ys (omega (arith, value_order x y a.0 b.0 less)) (omega arith) a.1
below-at n (x ∷ xs) (y ∷ ys) (suc i) e a b lt same less =
    let first : x ≡ y = same 0 (omega arith) in
    subst (λ d. digits_value_after 10 (n * 10 + digit_value x) xs < digits_value_after 10 (n * 10 + digit_value d) ys) first
    (below-at (n * 10 + digit_value x) xs ys i (omega arith) a.1 b.1 (omega arith) (λ k l. same (suc k) (omega arith)) less)

pub below-by_digit : (xs ys : List ℕ) (i : ℕ) → IsExponent xs → IsExponent ys → length xs ≡ length ys → i < length xs → ((k : ℕ) → k < i → get_or xs k 0 ≡ get_or ys k 0) → get_or xs i 0 < get_or ys i 0
    → digits_value 10 xs < digits_value 10 ys
below-by_digit xs ys i a b e lt same less = below-at 0 xs ys i e (digits_of_exponent xs a) (digits_of_exponent ys b) lt same less

-- digits that are all the same
pub same_digits : (xs ys : List ℕ) → length xs ≡ length ys → ((k : ℕ) → k < length xs → get_or xs k 0 ≡ get_or ys k 0) → xs ≡ ys
same_digits [] [] e same = refl
same_digits [] (y ∷ ys) e same = absurd (omega arith)
same_digits (x ∷ xs) [] e same = absurd (omega arith)
same_digits (x ∷ xs) (y ∷ ys) e same = ap₂ (λ c cs. c ∷ cs) (same 0 (omega arith)) (same_digits xs ys (omega arith) (λ k l. same (suc k) (omega arith)))

true-lt : (m n : ℕ) → IsTrue (nat_lt m n) → m < n
true-lt m n h = grind (arith, nat_tests)

lt-true : (m n : ℕ) → m < n → IsTrue (nat_lt m n)
lt-true m n h = grind (arith, nat_tests)

pub told-by_length : (xs ys : List ℕ) → IsExponent xs → IsExponent ys → length xs ≢ length ys → IsTrue (nat_lt (length xs) (length ys)) ↔ (digits_value 10 xs < digits_value 10 ys)
told-by_length xs ys a b n = (
  λ t. below-by_length xs ys a b (true-lt (length xs) (length ys) t),
  λ h. lt-true (length xs) (length ys) (elim (cases_lt (length xs) (length ys)) [
    | inl l ↦ l
    | inr g ↦ absurd (let back : digits_value 10 ys < digits_value 10 xs = below-by_length ys xs b a (omega arith) in omega arith)
  ]),
)

pub told-by_digit : (xs ys : List ℕ) (i x y : ℕ) → IsExponent xs → IsExponent ys → length xs ≡ length ys → i < length xs → ((k : ℕ) → k < i → get_or xs k 0 ≡ get_or ys k 0) → x ≡ get_or xs i 0 → y ≡ get_or ys i 0 → x ≢ y
    → IsTrue (nat_lt x y) ↔ (digits_value 10 xs < digits_value 10 ys)
told-by_digit xs ys i x y a b e lt same p q n = (
  λ t. below-by_digit xs ys i a b e lt same (let less : x < y = true-lt x y t in omega arith),
  λ h. lt-true x y (elim (cases_lt x y) [
    | inl l ↦ l
    | inr g ↦ absurd (let back : digits_value 10 ys < digits_value 10 xs = below-by_digit ys xs i b a (sym e) (omega arith) (λ k l. sym (same k l)) (omega arith) in omega arith)
  ]),
)

pub told-by_all : (xs ys : List ℕ) → length xs ≡ length ys → ((k : ℕ) → k < length xs → get_or xs k 0 ≡ get_or ys k 0) → IsTrue false ↔ (digits_value 10 xs < digits_value 10 ys)
told-by_all xs ys e same = (λ t. absurd (cc), λ h. absurd (let is : digits_value 10 xs ≡ digits_value 10 ys = ap (digits_value 10) (same_digits xs ys e same) in omega arith))
