-- Subgroups whose quotient is commutative and of a given exponent, as sets of places.
--   IsClosed T P             P is a subgroup
--   power T g n              the n-th power
--   commutator T i j         i j i^-1 j^-1
--   HasQuotient T K H p      K is a subgroup of H that has its p-th powers and commutators
--   Cover T K p g i          i is in the coset of one of the powers of g below the p-th
use Rattle.std.specs.Prelude.{ℕ, ◌<◌}
use Rattle.irr_algebra.specs.Fin.{Fin}
use Rattle.irr_space.specs.PhaseTable.{PhaseTable, place_power}
use Rattle.irr_chain.specs.NormalSubgroup.{IsCoset}

-- a set of places with the unit, its products and its opposites
pub record IsClosed {h : ℕ} (T : PhaseTable h) (P : Fin h → Type 0) : Type 0 where
  pub unit : P T.start
  pub products : (i j : Fin h) → P i → P j → P (T.product i j)
  pub opposites : (i : Fin h) → P i → P (T.opposite i)

-- the n-th power of a place
abbrev pub power : {h : ℕ} (T : PhaseTable h) → Fin h → ℕ → Fin h
power T g n = place_power T.start T.product g n

-- i j i^-1 j^-1
abbrev pub commutator : {h : ℕ} (T : PhaseTable h) → Fin h → Fin h → Fin h
commutator T i j = T.product (T.product i j) (T.product (T.opposite i) (T.opposite j))

-- K is a subgroup of H that has the p-th powers and the commutators of H
pub record HasQuotient {h : ℕ} (T : PhaseTable h) (K H : Fin h → Type 0) (p : ℕ) : Type 0 where
  pub closed : IsClosed T K
  pub within : (i : Fin h) → K i → H i
  pub powers : (i : Fin h) → H i → K (power T i p)
  pub commutators : (i j : Fin h) → H i → H j → K (commutator T i j)

-- i is in the coset of a power of g below the p-th
abbrev pub Cover : {h : ℕ} (T : PhaseTable h) (K : Fin h → Type 0) → ℕ → Fin h → Fin h → Type 0
Cover T K p g i = (e : ℕ) × (e < p) × IsCoset T K (power T g e) i
