-- Bytes and their kinds.
--   IsOfKind k c      what a byte of a kind is
--   kind-is           a byte is of its kind
--   kind-digit        the kind of 1 to 9
--   kind-of_digit     and of any digit
--   digit-nought, digit-range     bytes of these kinds are digits
use Rattle.std.proofs.Common.{◌≡◌, refl, ap, subst, ℕ, ◌<◌, ◌≤◌, Bool, true, false, sym, [], ◌∷◌, ◌&&◌, if◌then◌else◌, lit<, arith, ◌⊎◌, inl, inr, nat_eq, nat_le}
use Rattle.std.proofs.lemmas.Bool.Decides.{nat_tests}
use Rattle.std.specs.Char.{digit_value}
use Rattle.std.proofs.lemmas.Bool.{cases_lt}
use Rattle.std.proofs.lemmas.Str.{digit_value_digit}
use Rattle.irr_digits.proofs.Numerals.{digit_between}
use Rattle.irr_numeral.specs.declared.shape.Kind.{Kind}
use Rattle.irr_numeral.specs.declared.shape.Kind.TheVariants.{Minus, Plus, Slash, Star, Letter, Caret, Nought, Digit, Other}
use Rattle.irr_numeral.specs.Front.{kind_of}

abbrev pub IsOfKind : Kind → ℕ → Type 0
IsOfKind Minus c = c ≡ 45
IsOfKind Plus c = c ≡ 43
IsOfKind Slash c = c ≡ 47
IsOfKind Star c = c ≡ 42
IsOfKind Letter c = c ≡ 122
IsOfKind Caret c = c ≡ 94
IsOfKind Nought c = c ≡ 48
IsOfKind Digit c = (49 ≤ c) × (c ≤ 57)
IsOfKind Other c = Unit {0}

-- a choice by a test, by cases
by_test : {A : Type 0} (P : A → Type 0) (b : Bool) (x y : A) → (b ≡ true → P x) → (b ≡ false → P y) → P (if b then x else y)
by_test P true x y f g = f refl
by_test P false x y f g = g refl

pub kind-is : (c : ℕ) → IsOfKind (kind_of c) c
kind-is c = let P : Kind → Type 0 = λ k. IsOfKind k c in
    by_test P _ _ _ (same 45) (λ _. by_test P _ _ _ (same 43) (λ _. by_test P _ _ _ (same 47) (λ _. by_test P _ _ _ (same 42) (λ _. by_test P _ _ _ (same 122) (λ _. by_test P _ _ _ (same 94)
    (λ _. by_test P _ _ _ (same 48) (λ _. by_test P _ _ _ between (λ _. tt))))))))
  where
    same : (n : ℕ) → nat_eq c n ≡ true → c ≡ n
    same n h = grind (arith, nat_tests)

    between : nat_le 49 c && nat_le c 57 ≡ true → (49 ≤ c) × (c ≤ 57)
    between h = (grind (arith, nat_tests), grind (arith, nat_tests))

pub kind-digit : (c : ℕ) → 49 ≤ c → c ≤ 57 → kind_of c ≡ Digit
kind-digit c h g = grind (arith, nat_tests)

digit-above : (c : ℕ) → digit_value c < 10 → 48 ≤ c
digit-above c h = (digit_between (c ∷ []) 0 (h, tt) (omega arith)).0

digit-below : (c : ℕ) → digit_value c < 10 → c ≤ 57
digit-below c h = (digit_between (c ∷ []) 0 (h, tt) (omega arith)).1

-- the kind of a digit
pub kind-of_digit : (c : ℕ) → digit_value c < 10 → (kind_of c ≡ Nought) ⊎ (kind_of c ≡ Digit)
kind-of_digit c h = elim (cases_lt 48 c) [
  | inl l ↦ inr (kind-digit c (omega arith) (omega (arith, digit-below c h)))
  | inr g ↦ (let is : c ≡ 48 = omega (arith, digit-above c h) in inl (ap kind_of is))
]

pub digit-nought : (c : ℕ) → c ≡ 48 → digit_value c < 10
digit-nought c e = subst (λ d. digit_value d < 10) (sym e) (lit< tt)

pub digit-range : (c : ℕ) → (49 ≤ c) × (c ≤ 57) → digit_value c < 10
digit-range c h = let value = digit_value_digit c (omega arith, omega arith) in omega arith
