-- Sums of powers of z with signs, over a denominator.
--   SignedPower              z^j or -z^j
--   signed_power N p         the number that it is
--   signed_sum N ps          the sum of a list of them
--   IsRootSum N s d x        x is a sum of at most s powers of z with signs, over d
use Rattle.std.specs.Prelude.{ℕ, ◌≡◌, ◌<◌, ◌≤◌, Bool, true, false, List, [], ◌∷◌, length}
use Rattle.irr_algebra.specs.Ring.{whole}
use Rattle.irr_number.specs.Number.{Number, numbers, root_power}

-- a power of z, or the negative of one
pub record SignedPower : Type 0 where
  pub negative : Bool
  pub exponent : ℕ

-- x, or -x where the sign is negative
unfoldable pub with_sign : (N : ℕ) → Bool → Number N → Number N
with_sign N true x = (numbers N).neg x
with_sign N false x = x

-- z^j or -z^j
abbrev pub signed_power : (N : ℕ) → SignedPower → Number N
signed_power N p = with_sign N p.negative (root_power N p.exponent)

-- powers with signs, added up
unfoldable pub signed_sum : (N : ℕ) → List SignedPower → Number N
signed_sum N [] = (numbers N).zero
signed_sum N (p ∷ ps) = (numbers N).add (signed_power N p) (signed_sum N ps)

-- d times x is a sum of at most s powers of z with signs
pub record IsRootSum (N s d : ℕ) (x : Number N) : Type 0 where
  pub positive : 0 < d
  pub powers : List SignedPower
  pub few : length powers ≤ s
  pub multiple : (numbers N).mul (whole (numbers N) d) x ≡ signed_sum N powers
