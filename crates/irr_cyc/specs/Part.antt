-- The part of a prime in a number.
--   IsPart N p b       b times p is the highest power of the prime p that divides N
use Rattle.std.specs.Prelude.{ℕ, ◌≡◌, ◌*◌, ◌^◌}
use Rattle.std.specs.Int.{◌∣◌}
use Rattle.irr_number.specs.Prime.{IsPrime}

-- N is b p times a number that the prime p does not divide, and b is a power of p
pub record IsPart (N p b : ℕ) : Type 0 where
  pub prime : IsPrime p
  pub exponent : ℕ
  pub power : b ≡ p ^ exponent
  pub rest : ℕ
  pub equal : N ≡ b * p * rest
  pub other : ¬ (p ∣ rest)
