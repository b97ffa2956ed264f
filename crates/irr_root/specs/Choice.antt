-- The choice of one extension of a simple family.
--   IsChoice order value M T K members p g d positions row    a step, a simple family on the members, of d rows, that is equivalent to its
--                            conjugate, with the row of its traces, and the number of each member by its place; over the numbers of order M
--   IsSumAt c n m x          x is the sum of the family's character that is t(n) t(m)^(p-1) up to whole numbers, for the traces t of each extension
--   IsTarget c n m r         r is d^(p-1) times it
--   IsTraceAt c s n m r      r is what the trace at g n then is where that at g m is s: h^(p-1) r s^(p-1) = d^(p-1) x
--   HasMatrices step D f     the family f of the program has the matrices of D
--   AreChosen c xs           the numbers are the traces at g n, for each member n, of one extension
use Rattle.std.specs.Prelude.{ℕ, ◌≡◌, ◌≤◌, ◌-◌, List, length, slice_index}
use Rattle.irr_algebra.specs.Ring.{whole}
use Rattle.irr_algebra.specs.Fin.{Fin, to_nat}
use Rattle.irr_algebra.specs.Matrix.{trace}
use Rattle.irr_number.specs.Number.{Number, numbers}
use Rattle.irr_theory.specs.FactorSystem.{Representation}
use Rattle.irr_clifford.specs.FromTraces.{AreExtensionTraces}
use Rattle.irr_clifford.specs.Roots.{number_power}
use Rattle.irr_space.specs.PhaseTable.{PhaseTable}
use Rattle.irr_cyc.specs.declared.scalars.Scalar.{Ghosts}
use Rattle.irr_rep.specs.declared.family.Family.{Family}
use Rattle.irr_rep.specs.Family.{HasShape, matrix_at}
use Rattle.irr_char.specs.Characters.{IsRowOf}
use Rattle.irr_root.specs.CyclicStep.{coset_place, HasTraces, inner_phases, IsCyclicStep, IsSimpleFixed, step_subgroup}
use Rattle.irr_root.specs.ProductSum.{IsProductSum, MeetsProduct}

-- the position of a place is its number where it is a member
pub record IsChoice {S : Type 0} {h k : ℕ} (order : S → ℕ) (value : (n : ℕ) → S
    → Number n) (M : ℕ) (T : PhaseTable h) (K : PhaseTable k) (members : List ℕ)
    (p g d : ℕ) (positions : List ℕ) (row : List S) : Type 0 where
  pub step : IsCyclicStep T K members p g M
  pub family : Representation (inner_phases step) d
  pub fixed : IsSimpleFixed step family
  pub traces : HasTraces step order value family row
  pub position : Fin h → Fin k
  pub placed : (a : Fin h) → slice_index positions (to_nat a) ≡ to_nat (position a)
  pub at_member : (n : Fin k) → position (step.part.place n) ≡ n
  pub all_placed : length positions ≡ h
  pub members_few : k ≤ 48

-- the size and the matrices
pub record HasMatrices {S : Type 0} {G : Ghosts S} {h k : ℕ} {T : PhaseTable h} {K : PhaseTable k} {members : List ℕ} {p g M : ℕ}
    (step : IsCyclicStep T K members p g M)
    {d : ℕ} (D : Representation (inner_phases step) d) (f : Family S G) : Type 0 where
  pub size : f.dim ≡ d
  pub shape : HasShape M k d f.mats.items
  pub matrices : (i : Fin k) → matrix_at M d f.mats.items i ≡ D.at i

module _ {S : Type 0} {h k : ℕ} {order : S → ℕ} {value : (n : ℕ) → S → Number n} {M : ℕ} {T : PhaseTable h} {K : PhaseTable k} {members : List ℕ}
    {p g d : ℕ} {positions : List ℕ} {row : List S} (c : IsChoice order value M T K members p g d positions row) where
  -- the sum of the character
  abbrev pub IsSumAt : (n m : Fin k) → Number M → Type 0
  IsSumAt n m x = IsProductSum (step_subgroup c.step) c.step.quotient.index (λ i. trace (c.family.at i)) c.position (coset_place c.step n)
      (coset_place c.step m) x

  -- d^(p-1) times the sum
  pub record IsTarget (n m : Fin k) (r : Number M) : Type 0 where
    pub total : Number M
    pub is_sum : IsSumAt n m total
    pub product : r ≡ (numbers M).mul (number_power (numbers M) (whole (numbers M) d) (p - 1)) total

  -- h^(p-1) r s^(p-1) is d^(p-1) times the sum
  pub record IsTraceAt (s : Number M) (n m : Fin k) (r : Number M) : Type 0 where
    pub total : Number M
    pub is_sum : IsSumAt n m total
    pub meets : MeetsProduct (numbers M) (whole (numbers M) k) (whole (numbers M) d) (p - 1) r s total

  -- the traces of one extension, by member
  pub record AreChosen (xs : List S) : Type 0 where
    pub trace_at : Fin k → Number M
    pub extension : AreExtensionTraces c.step.quotient c.family trace_at
    pub is_row : IsRowOf order value M trace_at xs
