-- Coefficients brought to the basis, prime by prime.
--   IsTop N p t           z^t is the one power in its class modulo N/p that the basis leaves out at the prime p
--   IsReducedAt N p f g   g is f where each coefficient loses that of the top power in its class modulo N/p
--   IsFreeAt N p f        f has no coefficient at the top powers of p
--   IsFreeBelow N k f     f has no coefficient at the top powers of the primes below k
--   IsInBasis N f         f has coefficients in the basis alone
use Rattle.std.specs.Prelude.{ℕ, ℤ, ◌≡◌, ◌<◌, ◌-◌, ◌/◌, ◌%◌, ◌^◌, pos, ◌-ℤ◌}
use Rattle.irr_number.specs.Basis.{InBasis, IsHighestPower}
use Rattle.irr_number.specs.Prime.{IsPrime}

-- with p^m the highest power of p that divides N, the whole part of (t mod p^m) / p^(m-1) is p - 1
pub record IsTop (N p t : ℕ) : Type 0 where
  pub exponent : ℕ
  pub positive : 0 < exponent
  pub highest : IsHighestPower p exponent N
  pub digit : (t % p ^ exponent) / p ^ (exponent - 1) ≡ p - 1

-- z^t times the sum of the p-th roots of 1, taken away as often as z^t occurs, for each top power z^t
abbrev pub IsReducedAt : (N p : ℕ) (f g : ℕ → ℤ) → Type 0
IsReducedAt N p f g = (i t : ℕ) → i < N → t < N → IsTop N p t → t % (N / p) ≡ i % (N / p) → g i ≡ f i -ℤ f t

-- no coefficient at a top power of p
abbrev pub IsFreeAt : (N p : ℕ) (f : ℕ → ℤ) → Type 0
IsFreeAt N p f = (t : ℕ) → t < N → IsTop N p t → f t ≡ pos 0

-- no coefficient at a top power of a prime below k
abbrev pub IsFreeBelow : (N k : ℕ) (f : ℕ → ℤ) → Type 0
IsFreeBelow N k f = (p : ℕ) → IsPrime p → p < k → IsFreeAt N p f

-- no coefficient outside the basis
abbrev pub IsInBasis : (N : ℕ) (f : ℕ → ℤ) → Type 0
IsInBasis N f = (j : ℕ) → j < N → ¬ (InBasis N j) → f j ≡ pos 0
