-- How the dense numbers keep coefficients: as many as the order, in the basis, in lowest terms.
--   at xs j            the coefficient at z^j
--   IsLowest xs d      only 1 divides d and each coefficient
--   IsForm xs d        xs over d is a canonical form
use Rattle.std.specs.Prelude.{ℕ, ℤ, ◌≡◌, ◌<◌, ◌≤◌, List, length, slice_index_or, pos}
use Rattle.std.specs.Int.{◌∣◌}
use Rattle.std.specs.Int.RustNames.{unsigned_abs}
use Rattle.irr_canonical.specs.Reduction.{IsInBasis}
use Rattle.irr_cyc.specs.declared.orders.TheConstants.{ORDER_LIMIT}

-- the coefficient at z^j, 0 past the end
abbrev pub at : List ℤ → ℕ → ℤ
at xs j = slice_index_or xs j (pos 0)

-- only 1 divides d and each coefficient
abbrev pub IsLowest : List ℤ → ℕ → Type 0
IsLowest xs d = (c : ℕ) → c ∣ d → ((j : ℕ) → j < length xs → c ∣ unsigned_abs (at xs j)) → c ≡ 1

-- the coefficients are the canonical form of a number, over d
pub record IsForm (xs : List ℤ) (d : ℕ) : Type 0 where
  pub some : 0 < length xs
  pub few : length xs ≤ ORDER_LIMIT
  pub positive : 0 < d
  pub in_basis : IsInBasis (length xs) (at xs)
  pub lowest : IsLowest xs d
