-- The number that a text's terms stand for, and the least common denominator of their coefficients, as they are written.
--   denominator_of t            the denominator of t, 1 where none is written
--   numerator_of t              the numerator of t with its sign
--   written_value n ts          each coefficient times its power of z, added up: a number of order n
--   IsCommonDenominator ts d    d is the least positive number that each denominator divides
--   written_size d ts           the sum of the absolute numerators over the denominator d
--   IsSmallTerm t               the numbers of t are above 0 and within their limits, the exponent aside
--   AreSmall ts                 the common denominator, and the size over it, are within their limits
--   IsMeasured text d s         the text has terms whose least common denominator is d, over which their size is s, both within their limits
--   IsReadAs n text x           the text has terms within all limits, with increasing exponents and no denominator 0, and x is their number
use Rattle.std.specs.Prelude.{ℕ, ℤ, pos, neg_ℤ, ◌≡◌, ◌<◌, ◌≤◌, ◌*◌, ◌/◌, Bool, if◌then◌else◌, List, [], ◌∷◌, Option, None, Some, All, sum_by}
use Rattle.std.specs.Int.{◌∣◌}
use Rattle.std.specs.Str.Parse.{digits_value}
use Rattle.irr_number.specs.Lift.{lift_of}
use Rattle.irr_number.specs.Number.{Number, numbers, root_power}
use Rattle.irr_rational.specs.Rational.{ratio}
use Rattle.irr_numeral.specs.declared.limits.TheConstants.{COEFFICIENT_LIMIT, DENOMINATOR_LIMIT}
use Rattle.irr_numeral.specs.WrittenNumber.{WrittenTerm, IsTerm, AreTerms, AreIncreasing, exponent_of, spelled}
use Rattle.irr_numeral.specs.TermPlaces.{HasZero}
use Rattle.irr_numeral.specs.NumberLimit.{IsSmallNumerator, IsSmallDenominator, IsWithin}

abbrev pub denominator_value : Option (List ℕ) → ℕ
denominator_value None = 1
denominator_value (Some ds) = digits_value 10 ds

abbrev pub denominator_of : WrittenTerm → ℕ
denominator_of t = denominator_value t.denominator

-- n, or -n where the sign is negative
abbrev pub with_sign : Bool → ℕ → ℤ
with_sign negative n = if negative then neg_ℤ (pos n) else pos n

abbrev pub numerator_of : WrittenTerm → ℤ
numerator_of t = with_sign t.negative (digits_value 10 t.numerator)

abbrev pub term_value : (n : ℕ) → WrittenTerm → Number n
term_value n t = (numbers n).mul (lift_of 1 n (ratio (numerator_of t) (denominator_of t))) (root_power n (exponent_of t))

unfoldable pub written_value : (n : ℕ) → List WrittenTerm → Number n
written_value n [] = (numbers n).zero
written_value n (t ∷ ts) = (numbers n).add (term_value n t) (written_value n ts)

pub record IsCommonDenominator (ts : List WrittenTerm) (d : ℕ) : Type 0 where
  pub positive : 0 < d
  pub common : All (λ t. denominator_of t ∣ d) ts
  pub least : (m : ℕ) → All (λ t. denominator_of t ∣ m) ts → d ∣ m

-- the absolute numerator of t over the denominator d
abbrev pub numerator_over : ℕ → WrittenTerm → ℕ
numerator_over d t = digits_value 10 t.numerator * (d / denominator_of t)

abbrev pub written_size : ℕ → List WrittenTerm → ℕ
written_size d ts = sum_by (numerator_over d) ts

-- the numbers of a term are above 0 and within their limits, the exponent aside
abbrev pub IsSmallTerm : WrittenTerm → Type 0
IsSmallTerm t = IsTerm t × ¬ (HasZero t) × IsSmallNumerator t × IsSmallDenominator t

pub record AreSmall (ts : List WrittenTerm) : Type 0 where
  pub denominator : ℕ
  pub common : IsCommonDenominator ts denominator
  pub denominator_within : denominator ≤ DENOMINATOR_LIMIT
  pub size_within : written_size denominator ts ≤ COEFFICIENT_LIMIT

pub record IsMeasured (text : List ℕ) (denominator size : ℕ) : Type 0 where
  pub terms : List WrittenTerm
  pub are_terms : AreTerms terms
  pub spells : spelled terms ≡ text
  pub common : IsCommonDenominator terms denominator
  pub denominator_within : denominator ≤ DENOMINATOR_LIMIT
  pub size_is : size ≡ written_size denominator terms
  pub size_within : size ≤ COEFFICIENT_LIMIT

pub record IsReadAs (n : ℕ) (text : List ℕ) (x : Number n) : Type 0 where
  pub terms : List WrittenTerm
  pub are_terms : AreTerms terms
  pub spells : spelled terms ≡ text
  pub increasing : AreIncreasing terms
  pub not_zero : All (λ t. ¬ (HasZero t)) terms
  pub within : All (IsWithin n) terms
  pub small : AreSmall terms
  pub value : x ≡ written_value n terms
