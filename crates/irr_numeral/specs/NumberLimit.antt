-- The limits on the numbers of a text.
--   IsWithin n t             the numbers of the term t are within their limits, the exponent below the order n
--   IsFirstBeyond n q t p    p is the place of the first number of t that passes its limit, where t's numerator begins at q
--   IsBeyondAt n ts p        the same of the first such number of the terms ts
use Rattle.std.specs.Prelude.{ℕ, ◌≡◌, ◌+◌, ◌<◌, ◌≤◌, ◌⊎◌, List, ◌∷◌, ◌++◌, length, All, IfSome}
use Rattle.std.specs.Str.Parse.{digits_value}
use Rattle.irr_numeral.specs.declared.limits.TheConstants.{COEFFICIENT_LIMIT, DENOMINATOR_LIMIT}
use Rattle.irr_numeral.specs.WrittenNumber.{WrittenTerm, quotient_text}
use Rattle.irr_numeral.specs.TermPlaces.{numerator_place}

abbrev pub IsSmallNumerator : WrittenTerm → Type 0
IsSmallNumerator t = digits_value 10 t.numerator ≤ COEFFICIENT_LIMIT

abbrev pub IsSmallDenominator : WrittenTerm → Type 0
IsSmallDenominator t = IfSome t.denominator (λ ds. digits_value 10 ds ≤ DENOMINATOR_LIMIT)

abbrev pub IsSmallExponent : ℕ → WrittenTerm → Type 0
IsSmallExponent n t = IfSome t.exponent (λ ds. digits_value 10 ds < n)

abbrev pub IsWithin : ℕ → WrittenTerm → Type 0
IsWithin n t = IsSmallNumerator t × IsSmallDenominator t × IsSmallExponent n t

abbrev pub IsFirstBeyond : ℕ → ℕ → WrittenTerm → ℕ → Type 0
IsFirstBeyond n q t p =
    (¬ (IsSmallNumerator t) × (p ≡ q))
    ⊎ ((IsSmallNumerator t × ¬ (IsSmallDenominator t) × (p ≡ q + length t.numerator + 1))
    ⊎ (IsSmallNumerator t × IsSmallDenominator t × ¬ (IsSmallExponent n t) × (p ≡ q + length (t.numerator ++ quotient_text t.denominator) + 3)))

pub record IsBeyondAt (n : ℕ) (ts : List WrittenTerm) (p : ℕ) : Type 0 where
  pub before : List WrittenTerm
  pub term : WrittenTerm
  pub after : List WrittenTerm
  pub parts : ts ≡ before ++ (term ∷ after)
  pub others : All (IsWithin n) before
  pub beyond : IsFirstBeyond n (numerator_place before term) term p
