-- Counts of faults, reads and writes, each of 64 bits.
--   one_more n                 the count after one more: it stays at the greatest value of 64 bits
--   Rose old new               the count rose: it is greater, or stands at that greatest value
--   NeverFalls old new         the count did not fall, and still has 64 bits
--   CountsOne old new          a count, where it is told, counted one
--   CountsAtMost n old new     a count, where it is told, counted at most n
use Rattle.std.specs.Prelude.{◌≡◌, ℕ, ◌+◌, ◌-◌, ◌^◌, ◌<◌, ◌≤◌, min, ◌⊎◌, ⊤, Option, None, Some}

-- one more than n, or the greatest value of 64 bits, at which a count stays
abbrev pub one_more : ℕ → ℕ
one_more n = min (n + 1) (2 ^ 64 - 1)

-- the count is greater than it was, or stands at the greatest value of 64 bits
abbrev pub Rose : ℕ → ℕ → Type 0
Rose old new = (old < new) ⊎ (new ≡ 2 ^ 64 - 1)

-- the count is not less than it was, and has 64 bits if it had
abbrev pub NeverFalls : ℕ → ℕ → Type 0
NeverFalls old new = (old ≤ new) × (old < 2 ^ 64 → new < 2 ^ 64)

-- the count is told or not as it was, and where it is, it counted one
abbrev pub CountsOne : Option ℕ → Option ℕ → Type 0
CountsOne None None = ⊤
CountsOne (Some old) (Some new) = new ≡ one_more old
CountsOne _ _ = ⊥

-- the count is told or not as it was, and where it is, it counted at most n
abbrev pub CountsAtMost : ℕ → Option ℕ → Option ℕ → Type 0
CountsAtMost n None None = ⊤
CountsAtMost n (Some old) (Some new) = new ≤ old + n
CountsAtMost n _ _ = ⊥
