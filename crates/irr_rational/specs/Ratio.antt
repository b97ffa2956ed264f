-- Lowest terms: how a program keeps rational numbers, one by one and over a common denominator.
--   AreLowest as b     the whole numbers as over b: b is positive, and only 1 divides b and each of as
--   IsLowest a b       the same of one whole number a
--   entry xs i         the whole number at place i of a list
--   ratios xs b        the whole numbers of a list over b, by place
use Rattle.std.specs.Prelude.{ℕ, ℤ, ◌≡◌, ◌<◌, List, slice_index_or, pos}
use Rattle.std.specs.Int.{◌∣◌}
use Rattle.std.specs.Int.RustNames.{unsigned_abs}
use Rattle.irr_algebra.specs.Fin.{Fin, to_nat}
use Rattle.irr_rational.specs.Rational.{Rational, ratio}

-- only 1 divides b and each a
pub record AreLowest {n : ℕ} (a : Fin n → ℤ) (b : ℕ) : Type 0 where
  pub positive : 0 < b
  pub lowest : (d : ℕ) → d ∣ b → ((i : Fin n) → d ∣ unsigned_abs (a i)) → d ≡ 1

-- a over b in lowest terms
pub record IsLowest (a : ℤ) (b : ℕ) : Type 0 where
  pub positive : 0 < b
  pub lowest : (d : ℕ) → d ∣ b → d ∣ unsigned_abs a → d ≡ 1

-- the entry at a place of a list of whole numbers, 0 past its end
abbrev pub entry : {n : ℕ} → List ℤ → Fin n → ℤ
entry xs i = slice_index_or xs (to_nat i) (pos 0)

-- the entries of a list over b
unfoldable pub ratios : {n : ℕ} → List ℤ → ℕ → Fin n → Rational
ratios xs b i = ratio (entry xs i) b
