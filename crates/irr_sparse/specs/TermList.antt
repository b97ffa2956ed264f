-- Lists of terms (j, c) for c z^j.
--   coefficient_at ts i, exponent_at ts i    the parts of the term at a place
--   IsTerm N b j c       c z^j may stand in a list: j is at least b, below N and in the basis, and c is not 0
--   AreTerms N b ts      terms by increasing exponents, from b on
--   IsIncreasing ts      the exponents increase
--   total ts             the sum of the absolute coefficients
--   IsLowest ts d        only 1 divides d and each coefficient
--   row_sum N k s f ts   the terms of ts, each times k z^s, with z^f for z
use Rattle.std.specs.Prelude.{ℕ, ℤ, suc, pos, ◌≡◌, ◌≢◌, ◌<◌, ◌≤◌, ◌+◌, ◌*◌, ◌*ℤ◌, List, [], ◌∷◌, length, slice_index_or, sum_by, ⊤}
use Rattle.std.specs.Int.{◌∣◌}
use Rattle.std.specs.Int.RustNames.{unsigned_abs}
use Rattle.std.specs.Coded.{×_prop, Unit-prop, le_prop}
use native.Mathlib.Nat as Nat
use lib.IntN.{ℤ_set}
use Rattle.irr_number.specs.Basis.{InBasis}
use Rattle.irr_number.specs.Number.{Number, numbers, root_power}
use Rattle.irr_rational.specs.Integer.{integer}

-- the coefficient of the term at place i, 0 past the end
abbrev pub coefficient_at : List (ℕ × ℤ) → ℕ → ℤ
coefficient_at ts i = (slice_index_or ts i (0, pos 0)).1

-- the exponent of the term at place i, 0 past the end
abbrev pub exponent_at : List (ℕ × ℤ) → ℕ → ℕ
exponent_at ts i = (slice_index_or ts i (0, pos 0)).0

-- c z^j may stand in a list of terms whose exponents begin at b
pub record IsTerm (N b j : ℕ) (c : ℤ) : Type 0 where
  pub from : b ≤ j
  pub below : j < N
  pub basis : InBasis N j
  pub nonzero : c ≢ pos 0

pub IsTerm-prop : (N b j : ℕ) (c : ℤ) → IsProp (IsTerm N b j c)
IsTerm-prop N b j c = hlevel (le_prop, ℤ_set, Nat.ℕ_set)

-- terms in the basis by increasing exponents, from b on
unfoldable pub AreTerms : (N b : ℕ) → List (ℕ × ℤ) → Type 0
AreTerms N b [] = ⊤
AreTerms N b (t ∷ ts) = IsTerm N b t.0 t.1 × AreTerms N (suc t.0) ts

pub AreTerms-prop : (N b : ℕ) (ts : List (ℕ × ℤ)) → IsProp (AreTerms N b ts)
unfolding AreTerms
AreTerms-prop N b [] = Unit-prop
AreTerms-prop N b (t ∷ ts) = ×_prop (IsTerm-prop N b t.0 t.1) (AreTerms-prop N (suc t.0) ts)

-- the exponents increase
abbrev pub IsIncreasing : List (ℕ × ℤ) → Type 0
IsIncreasing ts = (i k : ℕ) → i < k → k < length ts → exponent_at ts i < exponent_at ts k

-- the sum of the absolute coefficients
abbrev pub total : List (ℕ × ℤ) → ℕ
total ts = sum_by (λ t. unsigned_abs t.1) ts

-- only 1 divides d and each coefficient
abbrev pub IsLowest : List (ℕ × ℤ) → ℕ → Type 0
IsLowest ts d = (c : ℕ) → c ∣ d → ((i : ℕ) → i < length ts → c ∣ unsigned_abs (coefficient_at ts i)) → c ≡ 1

-- k c z^(s + f j) for each term c z^j, added up
unfoldable pub row_sum : (N : ℕ) (k : ℤ) (s f : ℕ) → List (ℕ × ℤ) → Number N
row_sum N k s f [] = (numbers N).zero
row_sum N k s f (t ∷ ts) = (numbers N).add ((numbers N).mul (integer (numbers N) (k *ℤ t.1)) (root_power N (s + f * t.0))) (row_sum N k s f ts)
