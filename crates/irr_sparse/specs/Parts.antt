-- The primes of an order.
--   AreParts N xs            each is a prime divisor of N with its power, over the prime
--   IsFreeOutside N xs j     z^j is no top power of a prime that is not listed
--   weight xs                the product of the primes
use Rattle.std.specs.Prelude.{ℕ, ◌≢◌, ◌*◌, List, [], ◌∷◌, All}
use Rattle.irr_number.specs.Prime.{IsPrime}
use Rattle.irr_canonical.specs.Reduction.{IsTop}
use Rattle.irr_cyc.specs.Part.{IsPart}
use Rattle.irr_sparse.specs.declared.parts.Part.{Part}

-- each is the part of a prime in N
abbrev pub AreParts : (N : ℕ) → List Part → Type 0
AreParts N xs = All (λ (x : Part). IsPart N x.prime x.base) xs

-- where z^j is a top power of a prime, the prime is listed
abbrev pub IsFreeOutside : (N : ℕ) → List Part → ℕ → Type 0
IsFreeOutside N xs j = (q : ℕ) → IsPrime q → IsTop N q j → All (λ (x : Part). x.prime ≢ q) xs → ⊥

-- the product of the primes
unfoldable pub weight : List Part → ℕ
weight [] = 1
weight (x ∷ xs) = x.prime * weight xs
