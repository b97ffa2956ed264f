-- The texts of numbers, as they are read (this project's own):
--     value = 0 | [-] term { sign term },  term = coef | coef *z^ whole,  coef = whole | whole / denom,
--     whole = 1..9 { digit },  denom = 0 | whole
--   WrittenTerm            a term as it is written: its sign and the digits of its numbers
--   spelled ts             the text of the terms ts; 0 is the text of none
--   IsWhole, IsDenominator     digits of a whole number above 0; and 0 too
--   AreTerms ts            the numbers are such, and each term but the first has an exponent
--   IsNumber text          some terms spell the text
--   IsExponent ds          the digits of an exponent, none where none is written
--   exponent_of t          the exponent, 0 where none is written
--   AreIncreasing ts       the exponents increase from term to term
use Rattle.std.specs.Prelude.{ℕ, ◌≡◌, ◌≤◌, Bool, List, [], ◌∷◌, ◌++◌, Option, None, Some, IfSome, IsSome, if◌then◌else◌, ◌⊎◌, map}
use Rattle.std.specs.List.Sorted.{IsStrictlyIncreasing}
use Rattle.std.specs.Str.Parse.{AllDigits, digits_value}

pub record WrittenTerm : Type 0 where
  pub negative : Bool
  pub numerator : List ℕ
  pub denominator : Option (List ℕ)
  pub exponent : Option (List ℕ)

-- one digit or more, and the first is not 0
abbrev pub IsWhole : List ℕ → Type 0
IsWhole [] = ⊥
IsWhole (d ∷ ds) = (49 ≤ d) × (d ≤ 57) × AllDigits 10 ds

abbrev pub IsDenominator : List ℕ → Type 0
IsDenominator ds = (ds ≡ 48 ∷ []) ⊎ IsWhole ds

pub record IsTerm (t : WrittenTerm) : Type 0 where
  pub numerator : IsWhole t.numerator
  pub denominator : IfSome t.denominator IsDenominator
  pub exponent : IfSome t.exponent IsWhole

-- terms behind the first: each has an exponent
abbrev pub AreLater : List WrittenTerm → Type 0
AreLater [] = Unit {0}
AreLater (t ∷ ts) = IsTerm t × IsSome t.exponent × AreLater ts

abbrev pub AreTerms : List WrittenTerm → Type 0
AreTerms [] = Unit {0}
AreTerms (t ∷ ts) = IsTerm t × AreLater ts

-- a slash and the denominator
abbrev pub quotient_text : Option (List ℕ) → List ℕ
quotient_text None = []
quotient_text (Some ds) = 47 ∷ ds

-- *z^ and the exponent
abbrev pub exponent_text : Option (List ℕ) → List ℕ
exponent_text None = []
exponent_text (Some ds) = 42 ∷ 122 ∷ 94 ∷ ds

-- a term without its sign
abbrev pub unsigned_text : WrittenTerm → List ℕ
unsigned_text t = t.numerator ++ (quotient_text t.denominator ++ exponent_text t.exponent)

-- the sign of a first term, and of a later one
abbrev pub first_sign : Bool → List ℕ
first_sign negative = if negative then (45 ∷ []) else []

abbrev pub later_sign : Bool → ℕ
later_sign negative = if negative then 45 else 43

abbrev pub spelled_later : List WrittenTerm → List ℕ
spelled_later [] = []
spelled_later (t ∷ ts) = later_sign t.negative ∷ (unsigned_text t ++ spelled_later ts)

abbrev pub spelled : List WrittenTerm → List ℕ
spelled [] = 48 ∷ []
spelled (t ∷ ts) = first_sign t.negative ++ (unsigned_text t ++ spelled_later ts)

pub record IsNumber (text : List ℕ) : Type 0 where
  pub terms : List WrittenTerm
  pub are_terms : AreTerms terms
  pub spells : spelled terms ≡ text

-- the digits of an exponent, none where none is written
abbrev pub IsExponent : List ℕ → Type 0
IsExponent [] = Unit {0}
IsExponent (d ∷ ds) = IsWhole (d ∷ ds)

-- the exponent of a term, 0 where none is written
abbrev pub exponent_value : Option (List ℕ) → ℕ
exponent_value None = 0
exponent_value (Some ds) = digits_value 10 ds

abbrev pub exponent_of : WrittenTerm → ℕ
exponent_of t = exponent_value t.exponent

abbrev pub AreIncreasing : List WrittenTerm → Type 0
AreIncreasing ts = IsStrictlyIncreasing (map exponent_of ts)
