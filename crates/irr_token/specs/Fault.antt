-- What may be wrong with the numbers of a text, which are taken in the order in which they stand.
--   Limited              a number, and the greatest value that it may have
--   AreNotZero ns        no number of ns is 0
--   IsFirstZero ns p     the first number of ns that is 0 begins at the place p
--   AreWithin ls         each number of ls is within its limit
--   IsFirstBeyond ls p   the first number of ls that is beyond its limit begins at the place p
--   denominators q       the denominator of q, if it has one
--   limited m q          the numbers of q, the numerator with the limit m
use Rattle.std.specs.Prelude.{ℕ, ◌≡◌, ◌<◌, ◌≤◌, ◌⊎◌, List, [], ◌∷◌, Option, None, Some}
use Rattle.irr_token.specs.declared.faults.TheConstants.{DENOMINATOR_LIMIT}
use Rattle.irr_token.specs.Token.{PlacedNumber, value_of}
use Rattle.irr_token.specs.Quotient.{WrittenQuotient}

pub record Limited : Type 0 where
  pub limit : ℕ
  pub number : PlacedNumber

abbrev pub AreNotZero : List PlacedNumber → Type 0
AreNotZero [] = Unit {0}
AreNotZero (n ∷ ns) = (0 < value_of n) × AreNotZero ns

abbrev pub IsFirstZero : List PlacedNumber → ℕ → Type 0
IsFirstZero [] p = ⊥
IsFirstZero (n ∷ ns) p = ((value_of n ≡ 0) × (p ≡ n.place)) ⊎ ((0 < value_of n) × IsFirstZero ns p)

abbrev pub AreWithin : List Limited → Type 0
AreWithin [] = Unit {0}
AreWithin (l ∷ ls) = (value_of l.number ≤ l.limit) × AreWithin ls

abbrev pub IsFirstBeyond : List Limited → ℕ → Type 0
IsFirstBeyond [] p = ⊥
IsFirstBeyond (l ∷ ls) p = ((l.limit < value_of l.number) × (p ≡ l.number.place)) ⊎ ((value_of l.number ≤ l.limit) × IsFirstBeyond ls p)

abbrev pub present : Option PlacedNumber → List PlacedNumber
present None = []
present (Some n) = n ∷ []

abbrev pub denominators : WrittenQuotient → List PlacedNumber
denominators q = present q.denominator

abbrev pub present_limited : Option PlacedNumber → List Limited
present_limited None = []
present_limited (Some n) = record { limit = DENOMINATOR_LIMIT; number = n } ∷ []

abbrev pub limited : ℕ → WrittenQuotient → List Limited
limited m q = record { limit = m; number = q.numerator } ∷ present_limited q.denominator
