-- Where the numbers of a text's terms begin, counted in bytes from 0, behind the terms before them.
--   numerator_place before t, denominator_place before t, exponent_place before t
--   written_term w      the term that the program's value w stands for
--   ArePlaced ws        each term has the place of its numerator
--   HasZero t           the denominator of t is 0
--   IsZeroAt ts p       the first denominator that is 0 begins at p
--   IsUnorderedAt ts p  the first exponent that is not above the one before it begins at p
use Rattle.std.specs.Prelude.{ℕ, ◌≡◌, ◌+◌, ◌<◌, ◌≤◌, List, [], ◌∷◌, ◌++◌, length, take, map, slice_index_or, Some, All}
use Rattle.std.specs.Option.{option_copied}
use Rattle.irr_numeral.specs.declared.terms.Written.{Written}
use Rattle.irr_numeral.specs.WrittenNumber.{WrittenTerm, first_sign, spelled, quotient_text, exponent_of, AreIncreasing}

abbrev pub numerator_place : List WrittenTerm → WrittenTerm → ℕ
numerator_place [] t = length (first_sign t.negative)
numerator_place (s ∷ before) t = length (spelled (s ∷ before)) + 1

-- behind the numerator and the slash
abbrev pub denominator_place : List WrittenTerm → WrittenTerm → ℕ
denominator_place before t = numerator_place before t + length t.numerator + 1

-- behind the coefficient and *z^
abbrev pub exponent_place : List WrittenTerm → WrittenTerm → ℕ
exponent_place before t = numerator_place before t + length (t.numerator ++ quotient_text t.denominator) + 3

abbrev pub written_term : Written → WrittenTerm
written_term w = record { negative = w.negative; numerator = w.numerator.now; denominator = option_copied w.denominator; exponent = option_copied w.exponent }

abbrev pub ArePlaced : List Written → Type 0
ArePlaced ws = (k : ℕ) (d : Written) → k < length ws → (slice_index_or ws k d).place ≡ numerator_place (map written_term (take k ws)) (written_term (slice_index_or ws k d))

-- p is the place of the first exponent that is not above the one before it
pub record IsUnorderedAt (ts : List WrittenTerm) (p : ℕ) : Type 0 where
  pub before : List WrittenTerm
  pub last : WrittenTerm
  pub term : WrittenTerm
  pub after : List WrittenTerm
  pub parts : ts ≡ before ++ (last ∷ term ∷ after)
  pub ordered : AreIncreasing (before ++ (last ∷ []))
  pub unordered : exponent_of term ≤ exponent_of last
  pub place : p ≡ exponent_place (before ++ (last ∷ [])) term

abbrev pub HasZero : WrittenTerm → Type 0
HasZero t = t.denominator ≡ Some (48 ∷ [])

-- p is the place of the first denominator that is 0
pub record IsZeroAt (ts : List WrittenTerm) (p : ℕ) : Type 0 where
  pub before : List WrittenTerm
  pub term : WrittenTerm
  pub after : List WrittenTerm
  pub parts : ts ≡ before ++ (term ∷ after)
  pub others : All (λ t. ¬ (HasZero t)) before
  pub zero : HasZero term
  pub place : p ≡ denominator_place before term
