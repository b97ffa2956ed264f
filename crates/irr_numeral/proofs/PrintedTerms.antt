-- The printed form of a number, term by term.
--   term-printed          a term is printed as the parts of its coefficient in lowest terms
--   written den t         the text of the term t over den
--   pieces-terms          the pieces of a number's text are those of its terms that are not zero
--   nonzero-terms         no such term is zero
--   sum-none, sum-plus, sum-other     a text of terms with their signs, as a sum
--   number_text-terms     the text of a number from its terms
use Rattle.std.proofs.Common.{◌≡◌, ◌≢◌, refl, sym, ◌∙◌, ap, ap₂, ℕ, ℤ, pos, negsuc, zero, suc, ◌<◌, ◌*ℤ◌, ◌≤ℤ◌, Bool, true, false, List, [], ◌∷◌, ◌++◌, append-nil, length, get_or, take, drop, nat_eq, if◌then◌else◌, arith, All}
use Rattle.std.proofs.lemmas.Int.{ints}
use Rattle.std.specs.Prelude.{codes}
use Rattle.std.proofs.lemmas.Bool.Decides.{nat_tests}
use Rattle.std.proofs.Math.Nat.{eq-one_of_dvd-one}
use Rattle.std.proofs.lemmas.List.Elements.{All-append}
use Rattle.std.specs.Fmt.{decimal, signed_decimal}
use Rattle.std.specs.List.{flat_map}
use Rattle.std.proofs.lemmas.List.Concat.{flat_map-append}
use Rattle.irr_number.specs.Number.{Number}
use Rattle.irr_rational.specs.Rational.{rationals, ratio}
use Rattle.irr_rational.specs.Ratio.{IsLowest}
use Rattle.irr_rational.proofs.Orders.{ratio-zero, le_of_ratio, le_of_eq}
use Rattle.irr_canonical.specs.Coefficient.{canonical, denominator, coefficient}
use Rattle.irr_text.specs.NumberText.{numerator, fraction_text, signed_fraction, power_text, behind, term_text, pieces_below, sum_text, number_text}
use Rattle.irr_text.proofs.RationalForm.{numerator-lowest, denominator-lowest}
use Rattle.irr_cyc.specs.Terms.{term, nonzero_terms}
use Rattle.irr_numeral.specs.PrintedTerm.{plus_text, printed_power}

-- a fraction of the value 0 has the numerator 0
pub zero_of_ratio : (c : ℤ) (d : ℕ) → 0 < d → ratio c d ≡ rationals.zero → c ≡ pos 0
zero_of_ratio c d h e =
    let same : ratio c d ≡ ratio (pos 0) 1 = e ∙ sym (ratio-zero 1 (omega arith)) in
    let low : (c *ℤ pos 1) ≤ℤ (pos 0 *ℤ pos d) = le_of_ratio c (pos 0) d 1 h (omega arith) (le_of_eq (ratio c d) (ratio (pos 0) 1) same) in
    let high : (pos 0 *ℤ pos d) ≤ℤ (c *ℤ pos 1) = le_of_ratio (pos 0) c 1 d (omega arith) h (le_of_eq (ratio (pos 0) 1) (ratio c d) (sym same)) in
    omega (arith, ints)

same_power : (j : ℕ) → printed_power j ≡ power_text j
unfolding power_text
same_power zero = refl
same_power (suc j) = ap (λ b. if b then [] else (codes "*z^" ++ decimal (suc j))) tested
  where
    tested : nat_eq (suc j) 0 ≡ false
    tested = grind (arith, nat_tests)

-- a sign and digits, with the power behind them
parts : (num : ℤ) (d : ℕ) (ys : List ℕ) → num ≢ pos 0 → (plus_text num ++ fraction_text num d) ++ ys ≡ behind ys (signed_fraction num d)
unfolding behind signed_fraction
parts (pos zero) d ys n = absurd (n refl)
parts (pos (suc n)) d ys h = refl
parts (negsuc n) d ys h = by_den (nat_eq d 1)
  where
    by_den : (b : Bool) → (if b then signed_decimal (negsuc n) else (signed_decimal (negsuc n) ++ 47 ∷ decimal d)) ++ ys ≡ behind ys (if b then signed_decimal (negsuc n) else (signed_decimal (negsuc n) ++ 47 ∷ decimal d))
    by_den true = refl
    by_den false = refl

pub term-printed : (c : ℤ) (den j : ℕ) (num : ℤ) (d : ℕ) → c ≢ pos 0 → 0 < den → IsLowest num d → ratio num d ≡ ratio c den → (plus_text num ++ fraction_text num d) ++ printed_power j ≡ term_text (ratio c den) j
unfolding term_text
term-printed c den j num d some positive low e =
    parts num d (printed_power j) nonzero ∙ ap (λ ys. behind ys (signed_fraction num d)) (same_power j)
    ∙ ap₂ (λ a b. behind (power_text j) (signed_fraction a b)) (sym (numerator-lowest num d low) ∙ ap numerator e) (sym (denominator-lowest num d low) ∙ ap (denominator 1) e)
  where
    nonzero : num ≢ pos 0
    nonzero z = some (zero_of_ratio c den positive (sym e ∙ ap (λ a. ratio a d) z ∙ ratio-zero d low.positive))

-- the text of a term (j, c) over den
abbrev pub written : ℕ → ℕ × ℤ → List ℕ
written den t = term_text (ratio t.1 den) t.0

-- 0 has no text
term_text-zero : (den j : ℕ) → 0 < den → term_text (ratio (pos 0) den) j ≡ []
unfolding term_text behind signed_fraction
term_text-zero den j h = ap (λ a. behind (power_text j) (signed_fraction a (denominator 1 (ratio (pos 0) den)))) none
  where
    none : numerator (ratio (pos 0) den) ≡ pos 0
    none = ap numerator (ratio-zero den h ∙ sym (ratio-zero 1 (omega arith))) ∙ numerator-lowest (pos 0) 1 (record { positive = omega arith; lowest = λ e v w. eq-one_of_dvd-one v })

term-written : (den j : ℕ) (c : ℤ) → 0 < den → flat_map (written den) (term j c) ≡ term_text (ratio c den) j
unfolding term
term-written den j (pos zero) h = sym (term_text-zero den j h)
term-written den j (pos (suc n)) h = append-nil (term_text (ratio (pos (suc n)) den) j)
term-written den j (negsuc n) h = append-nil (term_text (ratio (negsuc n) den) j)

pub pieces-terms : (den n : ℕ) (f : ℕ → ℤ) → 0 < den → pieces_below n (λ j. term_text (ratio (f j) den) j) ≡ flat_map (written den) (nonzero_terms n f)
unfolding pieces_below nonzero_terms
pieces-terms den zero f h = refl
pieces-terms den (suc n) f h = ap₂ (λ x y. x ++ y) (pieces-terms den n f h) (sym (term-written den n (f n) h)) ∙ sym (flat_map-append (written den) (nonzero_terms n f) (term n (f n)))

pub denominator-pos : (n : ℕ) (x : Number n) → 0 < denominator n x
unfolding denominator
denominator-pos n x = (canonical n x).den_pos

pub number_text-terms : (n : ℕ) (x : Number n) → number_text n x ≡ sum_text (flat_map (written (denominator n x)) (nonzero_terms n (canonical n x).num.at))
unfolding number_text coefficient
number_text-terms n x = ap sum_text (pieces-terms (denominator n x) n (canonical n x).num.at (denominator-pos n x))

-- a text of signed terms as a sum
pub sum-none : (xs : List ℕ) → xs ≡ [] → xs ++ (48 ∷ []) ≡ sum_text xs
unfolding sum_text
sum-none [] e = refl
sum-none (x ∷ xs) e = absurd (cc)

pub sum-plus : (xs : List ℕ) (d : ℕ) → 0 < length xs → get_or xs 0 d ≡ 43 → take 0 xs ++ drop 1 xs ≡ sum_text xs
unfolding sum_text
sum-plus [] d h e = absurd (omega arith)
sum-plus (x ∷ xs) d h e = ap (λ c. if nat_eq c 43 then xs else (c ∷ xs)) (sym e)

pub sum-other : (xs : List ℕ) (d : ℕ) → 0 < length xs → get_or xs 0 d ≢ 43 → xs ≡ sum_text xs
unfolding sum_text
sum-other [] d h n = absurd (omega arith)
sum-other (x ∷ xs) d h n = let other : nat_eq x 43 ≡ false = different x n in ap (λ b. if b then xs else (x ∷ xs)) (sym other)
  where
    different : (x : ℕ) → x ≢ 43 → nat_eq x 43 ≡ false
    different x n = grind (arith, nat_tests)

-- no term is zero
abbrev pub IsSome_term : ℕ × ℤ → Type 0
IsSome_term t = t.1 ≢ pos 0

nonzero-term : (j : ℕ) (c : ℤ) → All IsSome_term (term j c)
unfolding term
nonzero-term j (pos zero) k d h = absurd (omega arith)
nonzero-term j (pos (suc n)) zero d h = λ e. cc
nonzero-term j (pos (suc n)) (suc k) d h = absurd (omega arith)
nonzero-term j (negsuc n) zero d h = λ e. cc
nonzero-term j (negsuc n) (suc k) d h = absurd (omega arith)

pub nonzero-terms : (n : ℕ) (f : ℕ → ℤ) → All IsSome_term (nonzero_terms n f)
unfolding nonzero_terms
nonzero-terms zero f = λ k d h. absurd (omega arith)
nonzero-terms (suc n) f = All-append IsSome_term (nonzero_terms n f) (term n (f n)) (nonzero-terms n f) (nonzero-term n (f n))
