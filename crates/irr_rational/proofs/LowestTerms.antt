-- Rational numbers in lowest terms, one by one and over a common denominator.
--   lowest_unique, are_lowest_unique      there is one form at most
--   lowest_form, common_lowest_form       and each number, or list of numbers, has one
--   lowest_decide, are_lowest_decide      whether a form is in lowest terms is decided
--   lowest_of_gcd, gcd_of_lowest          a over b is in lowest terms exactly where 1 is their greatest common divisor
--   lowest_quotients                      a and b over their greatest common divisor are in lowest terms
use Rattle.std.proofs.Common.{◌≡◌, sym, ◌∙◌, ap, ap₂, subst, ℕ, zero, suc, ◌<◌, ◌≤◌, ◌*◌ as ◌*ℕ◌, ◌/◌, ◌⊎◌, inl, inr, ℤ, pos, lit<, arith, mul-pos}
use Rattle.std.proofs.lemmas.Bool.{cases_lt}
use Rattle.std.proofs.lemmas.Int.{unsigned_abs-mul}
use Rattle.std.specs.Int.{◌∣◌, IsGcd}
use Rattle.std.specs.Int.RustNames.{int_div, unsigned_abs}
use native.Mathlib.Nat as Nat
use native.Mathlib.Decide.{dec_dvd, dec_lt}
use Rattle.irr_algebra.specs.Ring.{whole}
use Rattle.irr_algebra.specs.Fin.{Fin}
use Rattle.irr_algebra.specs.Fin.Fin.{first, next}
use Rattle.irr_algebra.proofs.Whole.{whole-mul}
use Rattle.irr_algebra.proofs.Indices.{all_or_one}
use Rattle.irr_number.proofs.Primes.{cofactor, divisor_pos, find_below, strong_induction}
use Rattle.irr_rational.specs.Rational.{Rational, rationals, rational_field, ratio, IsWhole}
use Rattle.irr_rational.specs.Ratio.{AreLowest, IsLowest}
use Rattle.irr_rational.proofs.Integers.{integer-pos, integer_inj}
use Rattle.irr_rational.proofs.Ratios.{over_of_ratio, ratio-over, ratio_is, ratio_of, ratio-scale}
use Rattle.irr_rational.proofs.WholeNumbers.{dvd_of_multiples, mul-int_div, whole-integer, whole-mul as whole-product, whole_decide}

-- one number as a list of one

are_lowest_of_lowest : (a : ℤ) (b : ℕ) → IsLowest a b → AreLowest {n = 1} (λ i. a) b
are_lowest_of_lowest a b h = record { positive = h.positive; lowest = λ d v each. h.lowest d v (each first) }

lowest_of_are_lowest : (a : Fin 1 → ℤ) (b : ℕ) → AreLowest a b → IsLowest (a first) b
lowest_of_are_lowest a b h = record { positive = h.positive; lowest = λ d v w. h.lowest d v (elim [ first ↦ w | next i ↦ elim i [ ] ]) }

-- d times c/d is the whole number c
whole_at_denominator : (x : Rational) (c : ℤ) (d : ℕ) → 0 < d → ratio c d ≡ x → IsWhole (rationals.mul (whole rationals d) x)
whole_at_denominator x c d h e = record { number = c; is = over_of_ratio x c d h e }

-- the denominators of one list in lowest terms divide each other
denominator-dvd : {n : ℕ} (a c : Fin n → ℤ) (b d : ℕ) → AreLowest a b → 0 < d → ((i : Fin n) → ratio (a i) b ≡ ratio (c i) d) → b ∣ d
denominator-dvd a c b d low h e = dvd_of_multiples a b d low (λ i. whole_at_denominator (ratio (a i) b) (c i) d h (sym (e i)))

-- a list has one form in lowest terms at most
pub are_lowest_unique : {n : ℕ} (a c : Fin n → ℤ) (b d : ℕ) → AreLowest a b → AreLowest c d → ((i : Fin n) → ratio (a i) b ≡ ratio (c i) d) → (b ≡ d) × ((i : Fin n) → a i ≡ c i)
are_lowest_unique {n} a c b d h k e = (same, numerators)
  where
    same : b ≡ d
    same = Nat.dvd_antisymm (denominator-dvd a c b d h k.positive e) (denominator-dvd c a d b k h.positive (λ i. sym (e i)))

    numerators : (i : Fin n) → a i ≡ c i
    numerators i = integer_inj rational_field (a i) (c i)
        (sym (ratio-over (a i) b h.positive) ∙ ap₂ (λ m x. rationals.mul (whole rationals m) x) same (e i) ∙ ratio-over (c i) d k.positive)

pub lowest_unique : (a c : ℤ) (b d : ℕ) → IsLowest a b → IsLowest c d → ratio a b ≡ ratio c d → (b ≡ d) × (a ≡ c)
lowest_unique a c b d h k e = let t : (b ≡ d) × (Fin 1 → a ≡ c) = are_lowest_unique (λ i. a) (λ i. c) b d (are_lowest_of_lowest a b h) (are_lowest_of_lowest c d k) (λ i. e) in (t.0, t.1 first)

-- n times each is whole
IsCommon : {n : ℕ} → (Fin n → Rational) → ℕ → Type 0
IsCommon {n} f b = (0 < b) × ((i : Fin n) → IsWhole (rationals.mul (whole rationals b) (f i)))

common-times : (d b : ℕ) (x : Rational) → IsWhole (rationals.mul (whole rationals b) x) → IsWhole (rationals.mul (whole rationals (d *ℕ b)) x)
common-times d b x h = subst IsWhole (sym (rationals.mul_assoc (whole rationals d) (whole rationals b) x) ∙ ap (λ w. rationals.mul w x) (sym (whole-mul rationals d b)))
    (whole-product (whole rationals d) (rationals.mul (whole rationals b) x) (subst IsWhole (integer-pos rationals d) (whole-integer (pos d))) h)

-- numbers have a common denominator
common_denominator : (n : ℕ) (f : Fin n → Rational) → (b : ℕ) × IsCommon f b
unfolding IsCommon
common_denominator zero f = (1, (lit< tt, λ i. elim i [ ]))
common_denominator (suc n) f = with_first (ratio_of (f first)) (common_denominator n (λ i. f (next i)))
  where
    with_first : (a : ℤ) × (b : ℕ) × (0 < b) × (ratio a b ≡ f first) → (b : ℕ) × IsCommon (λ i. f (next i)) b → (b : ℕ) × IsCommon f b
    with_first s t = (
      s.1 *ℕ t.0,
      (
        mul-pos s.2 t.1.0,
        elim [
          | first ↦ subst (λ m. IsWhole (rationals.mul (whole rationals m) (f first))) (Nat.mul_comm t.0 s.1) (common-times t.0 s.1 (f first) (whole_at_denominator (f first) s.0 s.1 s.2 s.3))
          | next i ↦ common-times s.1 t.0 (f (next i)) (t.1.1 i)
        ],
      ),
    )

common_decide : (n : ℕ) (f : Fin n → Rational) (b : ℕ) → Dec (IsCommon f b)
unfolding IsCommon
common_decide n f b = elim (dec_lt 0 b) [
  | no g ↦ no (λ h. g h.0)
  | yes p ↦ (elim (all_or_one n (λ i. IsWhole (rationals.mul (whole rationals b) (f i))) (λ i. IsWhole (rationals.mul (whole rationals b) (f i)) → ⊥) (λ i. whole_decide (rationals.mul (whole rationals b) (f i)))) [
    | inl h ↦ yes (p, h)
    | inr t ↦ no (λ h. t.1 (h.1 t.0))
  ])
]

-- the least number of which P holds
least : (P : ℕ → Type 0) → ((k : ℕ) → Dec (P k)) → (n : ℕ) → P n → (m : ℕ) × P m × ((k : ℕ) → k < m → P k → ⊥)
least P dec = strong_induction (λ n. P n → (m : ℕ) × P m × ((k : ℕ) → k < m → P k → ⊥)) (λ n ih p. elim (find_below P dec n) [
  | inl t ↦ ih t.0 t.1 t.2
  | inr none ↦ (n, p, none)
])

-- over the least common denominator they are in lowest terms
least_is_lowest : {n : ℕ} (f : Fin n → Rational) (b : ℕ) (h : IsCommon f b) → ((k : ℕ) → k < b → IsCommon f k → ⊥) → (a : Fin n → ℤ) × AreLowest a b × ((i : Fin n) → ratio (a i) b ≡ f i)
unfolding IsCommon
least_is_lowest {n} f b h none = (a, record { positive = h.0; lowest = lowest }, λ i. ratio_is (f i) (a i) b h.0 (h.1 i).is)
  where
    a : Fin n → ℤ
    a i = (h.1 i).number

    lowest : (d : ℕ) → d ∣ b → ((i : Fin n) → d ∣ unsigned_abs (a i)) → d ≡ 1
    lowest d v each = at_cofactor (cofactor d b v)
      where
        d-pos : 0 < d
        d-pos = divisor_pos d b h.0 v

        at_cofactor : (c : ℕ) × (b ≡ d *ℕ c) → d ≡ 1
        at_cofactor t = elim (cases_lt t.0 b) [
          | inl less ↦ absurd (none t.0 less (c-pos, smaller))
          | inr ge ↦ one ge
        ]
          where
            c-pos : 0 < t.0
            c-pos = divisor_pos t.0 b h.0 (subst (λ k. t.0 ∣ k) (sym t.1) (Nat.dvd-mul_left t.0 d))

            smaller : (i : Fin n) → IsWhole (rationals.mul (whole rationals t.0) (f i))
            smaller i = whole_at_denominator (f i) (int_div (a i) (pos d)) t.0 c-pos
                (sym (ratio-scale (int_div (a i) (pos d)) t.0 d c-pos d-pos)
                ∙ ap₂ ratio (mul-int_div d (a i) (each i)) (sym t.1)
                ∙ ratio_is (f i) (a i) b h.0 (h.1 i).is)

            one : b ≤ t.0 → d ≡ 1
            one ge = elim (cases_lt 1 d) [
              | inl big ↦ absurd (let m : 1 *ℕ t.0 < d *ℕ t.0 = Nat.mul-lt-mul_of_pos_right big c-pos in let e : b ≡ d *ℕ t.0 = t.1 in omega arith)
              | inr small ↦ (let p : 0 < d = d-pos in omega arith)
            ]

-- each list of numbers has a common form in lowest terms
pub common_lowest_form : (n : ℕ) (f : Fin n → Rational) → (a : Fin n → ℤ) × (b : ℕ) × AreLowest a b × ((i : Fin n) → ratio (a i) b ≡ f i)
common_lowest_form n f = at_least (let t : (b : ℕ) × IsCommon f b = common_denominator n f in least (IsCommon f) (common_decide n f) t.0 t.1)
  where
    at_least : (b : ℕ) × IsCommon f b × ((k : ℕ) → k < b → IsCommon f k → ⊥) → (a : Fin n → ℤ) × (b : ℕ) × AreLowest a b × ((i : Fin n) → ratio (a i) b ≡ f i)
    at_least t = let s : (a : Fin n → ℤ) × AreLowest a t.0 × ((i : Fin n) → ratio (a i) t.0 ≡ f i) = least_is_lowest f t.0 t.1 t.2 in (s.0, t.0, s.1, s.2)

-- and each number has a form in lowest terms
pub lowest_form : (x : Rational) → (a : ℤ) × (b : ℕ) × IsLowest a b × (ratio a b ≡ x)
lowest_form x = at_form (common_lowest_form 1 (λ i. x))
  where
    at_form : (a : Fin 1 → ℤ) × (b : ℕ) × AreLowest a b × ((i : Fin 1) → ratio (a i) b ≡ x) → (a : ℤ) × (b : ℕ) × IsLowest a b × (ratio a b ≡ x)
    at_form t = (t.0 first, t.1, lowest_of_are_lowest t.0 t.1 t.2, t.3 first)

-- whether numbers are in lowest terms is decided
pub are_lowest_decide : (n : ℕ) (a : Fin n → ℤ) (b : ℕ) → AreLowest a b ⊎ (AreLowest a b → ⊥)
are_lowest_decide n a b = elim (dec_lt 0 b) [ no g ↦ inr (λ h. g h.positive) | yes p ↦ by_search p (find_below IsCommonDivisor decide (suc b)) ]
  where
    IsCommonDivisor : ℕ → Type 0
    IsCommonDivisor d = (1 < d) × (d ∣ b) × ((i : Fin n) → d ∣ unsigned_abs (a i))

    divides_each : (d : ℕ) → ((i : Fin n) → d ∣ unsigned_abs (a i)) ⊎ ((i : Fin n) × (d ∣ unsigned_abs (a i) → ⊥))
    divides_each d = all_or_one n (λ i. d ∣ unsigned_abs (a i)) (λ i. d ∣ unsigned_abs (a i) → ⊥) (λ i. elim (dec_dvd d (unsigned_abs (a i))) [ yes v ↦ inl v | no g ↦ inr g ])

    decide : (d : ℕ) → Dec (IsCommonDivisor d)
    decide d = elim (dec_lt 1 d) [
      | no g ↦ no (λ t. g t.0)
      | yes l ↦ (elim (dec_dvd d b) [
        | no g ↦ no (λ t. g t.1)
        | yes v ↦ (elim (divides_each d) [ inl h ↦ yes (l, v, h) | inr t ↦ no (λ s. t.1 (s.2 t.0)) ])
      ])
    ]

    by_search : 0 < b → ((d : ℕ) × (d < suc b) × IsCommonDivisor d) ⊎ ((d : ℕ) → d < suc b → ¬ (IsCommonDivisor d)) → AreLowest a b ⊎ (AreLowest a b → ⊥)
    by_search p (inl t) = inr (λ h. absurd (let e : t.0 ≡ 1 = h.lowest t.0 t.2.1 t.2.2 in let l : 1 < t.0 = t.2.0 in omega arith))
    by_search p (inr none) = inl (record {
      positive = p;
      lowest = λ d v each. elim (cases_lt 1 d) [
        | inl big ↦ absurd (none d (let l : d ≤ b = Nat.le_of_dvd p v in omega arith) (big, v, each))
        | inr small ↦ (let l : 0 < d = divisor_pos d b p v in omega arith)
      ];
    })

pub lowest_decide : (a : ℤ) (b : ℕ) → IsLowest a b ⊎ (IsLowest a b → ⊥)
lowest_decide a b = elim (are_lowest_decide 1 (λ i. a) b) [ inl h ↦ inl (lowest_of_are_lowest (λ i. a) b h) | inr g ↦ inr (λ h. g (are_lowest_of_lowest a b h)) ]

-- lowest terms by the greatest common divisor

pub lowest_of_gcd : (a : ℤ) (b : ℕ) → 0 < b → IsGcd (unsigned_abs a) b 1 → IsLowest a b
lowest_of_gcd a b h g = record { positive = h; lowest = λ d v w. Nat.dvd_antisymm (g.2 d w v) (Nat.one-dvd d) }

pub gcd_of_lowest : (a : ℤ) (b : ℕ) → IsLowest a b → IsGcd (unsigned_abs a) b 1
gcd_of_lowest a b h = (Nat.one-dvd (unsigned_abs a), Nat.one-dvd b, λ d v w. subst (λ k. k ∣ 1) (sym (h.lowest d w v)) (Nat.one-dvd 1))

-- a and b over their greatest common divisor g
pub lowest_quotients : (a : ℤ) (b g : ℕ) → 0 < b → IsGcd (unsigned_abs a) b g → IsLowest (int_div a (pos g)) (b / g) × (ratio (int_div a (pos g)) (b / g) ≡ ratio a b)
lowest_quotients a b g h k = (
  record { positive = c-pos; lowest = lowest },
  sym (ratio-scale (int_div a (pos g)) (b / g) g c-pos g-pos) ∙ ap₂ ratio (mul-int_div g a k.0) (Nat.mul-div_cancel' g k.1),
)
  where
    g-pos : 0 < g
    g-pos = divisor_pos g b h k.1

    c-pos : 0 < b / g
    c-pos = divisor_pos (b / g) b h (subst (λ n. b / g ∣ n) (Nat.mul-div_cancel' g k.1) (Nat.dvd-mul_left (b / g) g))

    lowest : (d : ℕ) → d ∣ b / g → d ∣ unsigned_abs (int_div a (pos g)) → d ≡ 1
    lowest d v w = Nat.dvd_antisymm (Nat.dvd_of_mul-dvd-mul_left d g-pos (subst (λ n. g *ℕ d ∣ n) (sym (Nat.mul-one g)) (k.2 (g *ℕ d)
        (subst (λ n. g *ℕ d ∣ n) (sym (unsigned_abs-mul (pos g) (int_div a (pos g))) ∙ ap unsigned_abs (mul-int_div g a k.0)) (Nat.mul-dvd-mul_left d g w))
        (subst (λ n. g *ℕ d ∣ n) (Nat.mul-div_cancel' g k.1) (Nat.mul-dvd-mul_left d g v))))) (Nat.one-dvd d)
