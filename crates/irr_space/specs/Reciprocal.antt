-- Wave vectors modulo the reciprocal lattice T* of the translations T of a group G (Bradley and Cracknell, section 3.2).
--   IsReciprocal G K         K is in T*: K.t is whole for each t of T
--   AreEquivalent G a b      a and b differ by a vector of T*
--   IsReduced G k r          r is the lexicographically least of the wave vectors that are equivalent to k and have no negative component
--   IsPeriod G k q           q is the least positive number with qk in T*
--   IsOrder G k n            n = eq, with the exponent e of G and the period q of k
--   IsPhase s n k t x        z^x = exp(2 pi i s k.t), for z = exp(2 pi i/n): the only place where the sign s of the phase stands
use Rattle.std.specs.Prelude.{ℕ, ℤ, ◌≡◌, ◌<◌, ◌≤◌, ◌*◌, ◌+ℤ◌, ◌*ℤ◌, pos, negsuc}
use Rattle.irr_algebra.specs.Fin.{Fin}
use Rattle.irr_algebra.specs.Matrix.{◌⊖◌, scale}
use Rattle.irr_algebra.specs.Ring.{whole}
use Rattle.irr_rational.specs.Integer.{integer}
use Rattle.irr_rational.specs.Rational.{rationals, IsWhole}
use Rattle.irr_rational.specs.Order.{◌≤ℚ◌, IsAtMost}
use Rattle.irr_space.specs.Operation.{Operation, Vector, WaveVector, dot, wave_component}
use Rattle.irr_space.specs.SpaceGroup.{IsTranslation, IsExponent}

pub record IsReciprocal (G : Operation → Type 0) (K : WaveVector) : Type 0 where
  pub is_whole : (t : Vector) → IsTranslation G t → IsWhole (dot K t)

abbrev pub AreEquivalent : (G : Operation → Type 0) → WaveVector → WaveVector → Type 0
AreEquivalent G a b = IsReciprocal G (a ⊖ b)

-- no component is negative
abbrev pub HasNoNegative : WaveVector → Type 0
HasNoNegative k = (i : Fin 3) → rationals.zero ≤ℚ wave_component k i

pub record IsReduced (G : Operation → Type 0) (k r : WaveVector) : Type 0 where
  pub equivalent : AreEquivalent G r k
  pub no_negative : HasNoNegative r
  pub least : (w : WaveVector) → AreEquivalent G w k → HasNoNegative w → IsAtMost (wave_component r) (wave_component w)

-- n times k
abbrev pub times : ℕ → WaveVector → WaveVector
times n k = scale rationals (whole rationals n) k

pub record IsPeriod (G : Operation → Type 0) (k : WaveVector) (q : ℕ) : Type 0 where
  pub positive : 0 < q
  pub reciprocal : IsReciprocal G (times q k)
  pub least : (n : ℕ) → 0 < n → IsReciprocal G (times n k) → q ≤ n

pub record IsOrder (G : Operation → Type 0) (k : WaveVector) (n : ℕ) : Type 0 where
  pub exponent : ℕ
  pub period : ℕ
  pub is_exponent : IsExponent G exponent
  pub is_period : IsPeriod G k period
  pub is_product : n ≡ exponent * period

-- the sign of the phase, exp(-2 pi i k.t) or exp(2 pi i k.t)
pub data Sign : Type 0 where
  minus : Sign
  plus : Sign

unfoldable pub sign_number : Sign → ℤ
sign_number minus = negsuc 0
sign_number plus = pos 1

-- x is s n k.t modulo n, from 0 to n - 1
pub record IsPhase (s : Sign) (n : ℕ) (k : WaveVector) (t : Vector) (x : ℕ) : Type 0 where
  pub below : x < n
  pub turns : ℤ
  pub congruent : rationals.mul (integer rationals (sign_number s *ℤ pos n)) (dot k t) ≡ integer rationals (pos x +ℤ (turns *ℤ pos n))
