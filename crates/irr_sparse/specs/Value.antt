-- The number that terms over a denominator stand for.
--   value_of N ts d      the sum of the terms over d, and 0 where d is 0
use Rattle.std.specs.Prelude.{ℕ, ℤ, zero, suc, List}
use Rattle.std.proofs.Math.Nat.{zero-lt-suc}
use Rattle.irr_number.specs.Number.{Number, number, numbers}
use Rattle.irr_canonical.specs.Coefficient.{over}
use Rattle.irr_cyc.specs.Terms.{terms_at}

-- the sum of the terms over d
unfoldable pub value_of : (N : ℕ) → List (ℕ × ℤ) → ℕ → Number N
value_of N ts zero = (numbers N).zero
value_of N ts (suc d) = number N (over N (terms_at ts) (suc d) (zero-lt-suc d))
