-- Small representations (Bradley and Cracknell, sections 3.7 and 3.8), complete lists of them, and their canonical order.
-- A small representation over order M of a table of phases is a `Representation` of irr_theory on `phases_over`:
-- matrices D(i) of numbers of order M with D(start) = 1 and D(i)D(j) = z^x(i,j) D(l(i,j)).
--   over T M v A             the matrices of A as numbers of order M
--   IsCompleteList T L       the members are irreducible and inequivalent, and are all, over each order that N divides
--   IsNumberBefore n x y     x stands before y: at the first exponent at which their coefficients in the basis differ, that of x is greater
--   row T A                  the traces of A, by place
--   IsRowBefore n f g        the order of rows: by the first entries, the later number first, then at the first place at which
--                            they differ, the earlier number first
--   IsInOrder T L            the rows of L stand in this order
use Rattle.std.specs.Prelude.{ℕ, ◌≡◌, ◌<◌, ◌⊎◌}
use Rattle.std.specs.Int.{◌∣◌}
use Rattle.irr_algebra.specs.Fin.{Fin, to_nat}
use Rattle.irr_algebra.specs.Matrix.{trace}
use Rattle.irr_algebra.specs.Action.{IsIrreducible, Equivalent}
use Rattle.irr_number.specs.Number.{Number}
use Rattle.irr_number.specs.Lift.{lift}
use Rattle.irr_theory.specs.FactorSystem.{Representation}
use Rattle.irr_theory.specs.Representations.{Representations}
use Rattle.irr_theory.specs.Scalars.{map_family}
use Rattle.irr_rational.specs.Order.{◌<ℚ◌}
use Rattle.irr_canonical.specs.Coefficient.{coefficient}
use Rattle.irr_space.specs.PhaseTable.{PhaseTable, phases_at, phases_over}

-- the same matrices over the numbers of order M
abbrev pub over : {h : ℕ} (T : PhaseTable h) (M : ℕ) (v : T.order ∣ M) {d : ℕ} → Representation (phases_at T) d → Representation (phases_over T M v) d
over T M v A = map_family (lift T.order M T.order_positive v) A

pub record IsCompleteList {h : ℕ} (T : PhaseTable h) (L : Representations (phases_at T)) : Type 0 where
  pub positive : (m : Fin L.count) → 0 < L.size m
  pub irreducible : (M : ℕ) (v : T.order ∣ M) → 0 < M → (m : Fin L.count) → IsIrreducible (over T M v (L.member m)).at
  pub inequivalent : (m n : Fin L.count) → ¬ (m ≡ n) → ¬ (Equivalent (L.member m).at (L.member n).at)
  pub all : (M : ℕ) (v : T.order ∣ M) → 0 < M → (d : ℕ) (A : Representation (phases_over T M v) d) → 0 < d → IsIrreducible A.at
      → (m : Fin L.count) × Equivalent A.at (over T M v (L.member m)).at

-- at the first exponent at which they differ, the coefficient of x is greater
pub record IsNumberBefore (n : ℕ) (x y : Number n) : Type 0 where
  pub exponent : ℕ
  pub below : exponent < n
  pub before : (j : ℕ) → j < exponent → coefficient n x j ≡ coefficient n y j
  pub greater : coefficient n y exponent <ℚ coefficient n x exponent

-- the traces of a representation
unfoldable pub row : {h : ℕ} (T : PhaseTable h) {d : ℕ} → Representation (phases_at T) d → Fin h → Number T.order
row T A i = trace (A.at i)

-- at the first place at which they differ, the number of f stands first
pub record IsRowAhead {h : ℕ} (n : ℕ) (f g : Fin h → Number n) : Type 0 where
  pub place : Fin h
  pub before : (i : Fin h) → to_nat i < to_nat place → f i ≡ g i
  pub ahead : IsNumberBefore n (f place) (g place)

-- of rows with different first entries the one whose first entry comes later, which for traces is the smaller dimension
abbrev pub IsRowBefore : {h : ℕ} (n : ℕ) (start : Fin h) (f g : Fin h → Number n) → Type 0
IsRowBefore n start f g = IsNumberBefore n (g start) (f start) ⊎ ((f start ≡ g start) × IsRowAhead n f g)

pub record IsInOrder {h : ℕ} (T : PhaseTable h) (L : Representations (phases_at T)) : Type 0 where
  pub ordered : (m n : Fin L.count) → to_nat m < to_nat n → IsRowBefore T.order T.start (row T (L.member m)) (row T (L.member n))
