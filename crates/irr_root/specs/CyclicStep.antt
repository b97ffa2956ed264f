-- A subgroup of a group of places with one element more, for the traces of an extension.
--   IsCyclicStep T K members p g M       the members, with the table K, are a normal subgroup of the places of T, with a cyclic quotient
--                                        of order p, 2 or 3, that g generates; over the numbers of order M
--   coset_place step n                   the place g n
--   IsSimpleFixed step D                 a simple representation on the members, equivalent to its conjugate by g
--   HasTraces order value step D row     the row has its traces; at most 48 rows
--   AreNumbered step positions           the list has at the place of each member its number
--   ArePowerExponents step D n es        the eigenvalues that each extension has at the p-th power of g n, as powers of z by their exponents
use Rattle.std.specs.Prelude.{ℕ, ◌≡◌, ◌<◌, ◌≤◌, ◌*◌, ◌/◌, ◌⊎◌, List, length, slice_index}
use Rattle.std.specs.Int.{◌∣◌}
use Rattle.irr_algebra.specs.Fin.{Fin, to_nat}
use Rattle.irr_algebra.specs.Action.{Equivalent, IsSimple}
use Rattle.irr_algebra.specs.Matrix.{trace}
use Rattle.irr_number.specs.Number.{Number, numbers, root_power}
use Rattle.irr_theory.specs.FactorSystem.{FactorSystem, Representation}
use Rattle.irr_eigen.specs.Eigenspace.{Occurs}
use Rattle.irr_eigen.specs.Power.{power}
use Rattle.irr_eigen.specs.Step.{at_place, lifted_power, Subtable, top_matrix}
use Rattle.irr_clifford.specs.Subgroup.{Subgroup}
use Rattle.irr_clifford.specs.Cyclic.{conjugate, CyclicQuotient}
use Rattle.irr_extension.specs.Exponents.{times_in}
use Rattle.irr_space.specs.PhaseTable.{PhaseTable, phases_over}
use Rattle.irr_char.specs.Characters.{IsRowOf}
use Rattle.irr_level.specs.Part.{as_subgroup}

-- the members are listed by their places in T, and numbered by their places in K
pub record IsCyclicStep {h k : ℕ} (T : PhaseTable h) (K : PhaseTable k) (members : List ℕ) (p g M : ℕ) : Type 0 where
  pub positive : 0 < M
  pub two_or_three : (p ≡ 2) ⊎ (p ≡ 3)
  pub divides : T.order ∣ M
  pub inner_divides : K.order ∣ M
  pub same_order : K.order ≡ T.order
  pub part : Subtable (phases_over K M inner_divides) (phases_over T M divides)
  pub quotient : CyclicQuotient (as_subgroup part)
  pub index : quotient.index ≡ p
  pub generator : to_nat quotient.generator ≡ g
  pub count : length members ≡ k
  pub member : (i : Fin k) → slice_index members (to_nat i) ≡ to_nat (part.place i)

module _ {h k : ℕ} {T : PhaseTable h} {K : PhaseTable k} {members : List ℕ} {p g M : ℕ} (step : IsCyclicStep T K members p g M) where
  -- the phases of the larger group
  abbrev pub outer_phases : FactorSystem (numbers M)
  outer_phases = phases_over T M step.divides

  -- those of the subgroup
  abbrev pub inner_phases : FactorSystem (numbers M)
  inner_phases = phases_over K M step.inner_divides

  -- the subgroup
  abbrev pub step_subgroup : Subgroup outer_phases
  step_subgroup = as_subgroup step.part

  -- g n
  abbrev pub coset_place : Fin k → Fin h
  coset_place n = T.product step.quotient.generator (step.part.place n)

  -- a one-dimensional space of intertwiners with itself; as many rows as its square is members, or less
  pub record IsSimpleFixed {d : ℕ} (D : Representation inner_phases d) : Type 0 where
    pub positive : 0 < d
    pub few : d * d ≤ k
    pub simple : IsSimple D.at
    pub fixed : Equivalent (conjugate step.quotient D) D.at

  -- the row has the traces of D
  pub record HasTraces {S : Type 0} (order : S → ℕ) (value : (n : ℕ) → S
      → Number n) {d : ℕ} (D : Representation inner_phases d) (row : List S) : Type 0 where
    pub few : d ≤ 48
    pub is_row : IsRowOf order value M (λ (n : Fin k). trace (D.at n)) row

  -- the number of each member, by its place
  abbrev pub AreNumbered : List ℕ → Type 0
  AreNumbered positions = (n : Fin k) → slice_index positions (to_nat (step.part.place n)) ≡ to_nat n

  -- the p-th power of g n is the member `top` with a phase; each z^a below the order is an eigenvalue there as often as a is in the list
  pub record ArePowerExponents {d : ℕ} (D : Representation inner_phases d) (n : Fin k) (es : List ℕ) : Type 0 where
    pub top : Fin k
    pub place-top : step.part.place top ≡ (lifted_power (at_place outer_phases (coset_place n)) step.quotient.index).place
    pub occurs : (a : ℕ) → a < T.order
        → Occurs (top_matrix outer_phases D (coset_place n) step.quotient.index top) (power (numbers M) (root_power M (M / T.order)) a)
        (times_in a es)
