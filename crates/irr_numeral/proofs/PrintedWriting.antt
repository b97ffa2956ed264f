-- The term that a printed coefficient and its power of z are, as it is read.
--   printed den (j, c)      the term of c over den times z^j
--   text-written            its text
--   number-spelled          the text of a number is spelled by these terms
--   IsPrintedAs             what is known of such a term, with numbers below a bound
--   printed-as              and where it holds
use Rattle.std.proofs.Common.{◌≡◌, ◌≢◌, refl, sym, ◌∙◌, ap, ap₂, ℕ, ℤ, pos, negsuc, zero, suc, ◌<◌, Bool, true, false, List, [], ◌∷◌, ◌++◌, append_assoc, map, nat_eq, if◌then◌else◌, arith, All, Option, None, Some, unsigned_abs}
use Rattle.std.specs.Fmt.{decimal}
use Rattle.std.specs.List.{flat_map}
use Rattle.irr_number.specs.Number.{Number}
use Rattle.irr_rational.specs.Rational.{ratio}
use Rattle.irr_rational.proofs.Orders.{ratio-zero}
use Rattle.irr_canonical.specs.Coefficient.{canonical, denominator}
use Rattle.irr_cyc.specs.Terms.{nonzero_terms}
use Rattle.irr_text.specs.NumberText.{numerator, signed_fraction, power_text, behind, term_text, sum_text, number_text}
use Rattle.irr_text.proofs.RationalForm.{numerator_is_lowest}
use Rattle.irr_numeral.specs.WrittenNumber.{WrittenTerm, quotient_text, exponent_text, unsigned_text, first_sign, later_sign, spelled_later, spelled}
use Rattle.irr_numeral.proofs.PrintedTerms.{written, zero_of_ratio, nonzero-terms, number_text-terms, denominator-pos}

-- the digits of a denominator and of an exponent, none for 1 and for 0
abbrev pub denominator_digits : ℕ → Option (List ℕ)
denominator_digits b = if nat_eq b 1 then None else Some (decimal b)

abbrev pub exponent_digits : ℕ → Option (List ℕ)
exponent_digits zero = None
exponent_digits (suc j) = Some (decimal (suc j))

abbrev pub is_negative : ℤ → Bool
is_negative (pos n) = false
is_negative (negsuc n) = true

-- a over b times z^j
abbrev pub written_as : ℤ → ℕ → ℕ → WrittenTerm
written_as a b j = record {
  negative = is_negative a;
  numerator = decimal (unsigned_abs a);
  denominator = denominator_digits b;
  exponent =
      exponent_digits j;
}

abbrev pub printed : ℕ → ℕ × ℤ → WrittenTerm
printed den t = written_as (numerator (ratio t.1 den)) (denominator 1 (ratio t.1 den)) t.0

-- Texts.

power-text : (j : ℕ) → power_text j ≡ exponent_text (exponent_digits j)
unfolding power_text
power-text zero = refl
power-text (suc j) = refl

plain-text : (m : Bool) (ds es ys : List ℕ) → (if m then ds else (ds ++ 47 ∷ es)) ++ ys ≡ ds ++ (quotient_text (if m then None else Some es) ++ ys)
plain-text true ds es ys = refl
plain-text false ds es ys = append_assoc ds (47 ∷ es) ys

minus-text : (m : Bool) (ds es ys : List ℕ) → behind ys (if m then (45 ∷ ds) else ((45 ∷ ds) ++ 47 ∷ es)) ≡ 45 ∷
    (ds ++ (quotient_text (if m then None else Some es) ++ ys))
unfolding behind
minus-text true ds es ys = refl
minus-text false ds es ys = ap (λ l. 45 ∷ l) (append_assoc ds (47 ∷ es) ys)

fraction-written : (a : ℤ) (b : ℕ) (ys : List ℕ) → a ≢ pos 0 → behind ys (signed_fraction a b) ≡ later_sign (is_negative a) ∷
    (decimal (unsigned_abs a) ++ (quotient_text (denominator_digits b) ++ ys))
unfolding behind signed_fraction
fraction-written (pos zero) b ys n = absurd (n refl)
fraction-written (pos (suc n)) b ys h = ap (λ l. 43 ∷ l) (plain-text (nat_eq b 1) (decimal (suc n)) (decimal b) ys)
fraction-written (negsuc n) b ys h = minus-text (nat_eq b 1) (decimal (suc n)) (decimal b) ys

pub numerator-some : (c : ℤ) (den : ℕ) → 0 < den → c ≢ pos 0 → numerator (ratio c den) ≢ pos 0
numerator-some c den positive some z =
    let low = numerator_is_lowest (ratio c den) in
    some (zero_of_ratio c den positive (sym low.1 ∙ ap (λ a. ratio a (denominator 1 (ratio c den))) z
    ∙ ratio-zero (denominator 1 (ratio c den)) low.0.positive))

text-written : (den : ℕ) (t : ℕ × ℤ) → 0 < den → t.1 ≢ pos 0 → written den t ≡ later_sign (printed den t).negative ∷ unsigned_text (printed den t)
unfolding term_text
text-written den t positive some = ap (λ ys. behind ys (signed_fraction (numerator (ratio t.1 den)) (denominator 1 (ratio t.1 den)))) (power-text t.0)
    ∙ fraction-written (numerator (ratio t.1 den)) (denominator 1 (ratio t.1 den)) (exponent_text (exponent_digits t.0))
    (numerator-some t.1 den positive some)

pieces-spelled : (den : ℕ) (ts : List (ℕ × ℤ)) → 0 < den → All (λ t. t.1 ≢ pos 0) ts → flat_map (written den) ts ≡ spelled_later (map (printed den) ts)
pieces-spelled den [] positive some = refl
pieces-spelled den (t ∷ ts) positive some = ap₂ (λ x y. x ++ y) (text-written den t positive (some 0 t (omega arith)))
    (pieces-spelled den ts positive (λ k d lt. some (suc k) d (omega arith)))

sum-spelled : (ts : List WrittenTerm) → sum_text (spelled_later ts) ≡ spelled ts
unfolding sum_text
sum-spelled [] = refl
sum-spelled (t ∷ ts) = by_sign t.negative
  where
    by_sign : (m : Bool) → sum_text (later_sign m ∷ (unsigned_text t ++ spelled_later ts)) ≡ first_sign m ++ (unsigned_text t ++ spelled_later ts)
    by_sign true = refl
    by_sign false = refl

pub number-spelled : (n : ℕ) (x : Number n) → spelled (map (printed (denominator n x)) (nonzero_terms n (canonical n x).num.at)) ≡ number_text n x
number-spelled n x = sym (number_text-terms n x ∙ ap sum_text (pieces-spelled (denominator n x) (nonzero_terms n (canonical n x).num.at)
    (denominator-pos n x) (nonzero-terms n (canonical n x).num.at))
    ∙ sum-spelled (map (printed (denominator n x)) (nonzero_terms n (canonical n x).num.at)))
