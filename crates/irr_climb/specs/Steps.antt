-- One level of a chain with what a step up needs (`Step`).
--   IsStep M step            over the numbers of order M: the smaller table is a subgroup of the larger one, at the step's members, with
--                            a cyclic quotient whose generator, exponents and parts are the step's
--   small step, large step   the factor systems of the two tables
--   IsStepOf T level outer M step    the step is that of a level of a chain of T
--   AreTurns step L turns    the conjugate of each member of L is equivalent to the one that its turn names
--   IsFixedFamily step D f   f is D, a simple family that is equivalent to its conjugate
--   AreExtensions step D fs  fs are the extensions of D by the multiples of one matrix by the roots of one
--   IsInducedFamily step D f f is induced from D
--   AreFamiliesOver step L turn l fs     fs are the families over the member l of L
use Rattle.std.specs.Prelude.{ℕ, ◌≡◌, ◌<◌, ◌≤◌, ◌*◌, ◌⊎◌, List, length, slice_index}
use Rattle.std.specs.Int.{◌∣◌}
use Rattle.irr_algebra.specs.Fin.{Fin, to_nat}
use Rattle.irr_algebra.specs.Matrix.{Matrix, scale}
use Rattle.irr_algebra.specs.Pair.{times}
use Rattle.irr_algebra.specs.Action.{Equivalent, IsSimple}
use Rattle.irr_number.specs.Number.{numbers}
use Rattle.irr_theory.specs.FactorSystem.{FactorSystem, Representation}
use Rattle.irr_theory.specs.Representations.{Representations}
use Rattle.irr_eigen.specs.Step.{Subtable}
use Rattle.irr_clifford.specs.Cyclic.{conjugate, CyclicQuotient, IsExtension, IsInduced, StandsForGenerator}
use Rattle.irr_clifford.specs.Roots.{RootsOfOne}
use Rattle.irr_ascent.specs.Joined.{listed}
use Rattle.irr_ascent.specs.Over.{AreOver}
use Rattle.irr_space.specs.PhaseTable.{PhaseTable, phases_over}
use Rattle.irr_cyc.specs.declared.scalars.Scalar.{Ghosts}
use Rattle.irr_rep.specs.declared.family.Family.{Family}
use Rattle.irr_rep.specs.Subgroup.{IsRestriction}
use Rattle.irr_rep.specs.Twisted.{phase_table, place_count}
use Rattle.irr_chain.specs.declared.series.Level.{Level}
use Rattle.irr_chain.specs.Series.{IsLevel}
use Rattle.irr_level.specs.Part.{ArePositions, as_subgroup}
use Rattle.irr_climb.specs.declared.step.Step.{Step}
use Rattle.irr_climb.specs.Families.{AreRead, IsRead}
use Rattle.irr_climb.specs.Sizes.{IsSized}

-- the smaller table as a subgroup with cyclic quotient of the larger one, place by place
pub record IsStep (M : ℕ) (step : Step) : Type 0 where
  pub positive : 0 < M
  pub inner_divides : (phase_table step.inner).order ∣ M
  pub outer_divides : (phase_table step.outer).order ∣ M
  pub part : Subtable (phases_over (phase_table step.inner) M inner_divides) (phases_over (phase_table step.outer) M outer_divides)
  pub quotient : CyclicQuotient (as_subgroup part)
  pub two_or_three : (quotient.index ≡ 2) ⊎ (quotient.index ≡ 3)
  pub same_order : (phase_table step.inner).order ≡ (phase_table step.outer).order
  -- the numbers of the step
  pub index : step.index ≡ quotient.index
  pub generator : step.generator ≡ to_nat quotient.generator
  pub members_count : length step.members.items ≡ place_count step.inner
  pub exponents_count : length step.exponents.items ≡ place_count step.outer
  pub parts_count : length step.parts.items ≡ place_count step.outer
  pub members : (i : Fin (place_count step.inner)) → slice_index step.members.items (to_nat i) ≡ to_nat (part.place i)
  pub exponents : (x : Fin (place_count step.outer)) → slice_index step.exponents.items (to_nat x) ≡ to_nat (quotient.exponent x)
  pub parts : (x : Fin (place_count step.outer)) → slice_index step.parts.items (to_nat x) ≡ to_nat (quotient.part x)

-- the factor system of the smaller table
abbrev pub small : {M : ℕ} {step : Step} → IsStep M step → FactorSystem (numbers M)
small {M} {step} is = phases_over (phase_table step.inner) M is.inner_divides

-- and that of the larger one
abbrev pub large : {M : ℕ} {step : Step} → IsStep M step → FactorSystem (numbers M)
large {M} {step} is = phases_over (phase_table step.outer) M is.outer_divides

-- the step of a level: the two tables are restrictions of T to the level's members and to what the level generates
pub record IsStepOf {h : ℕ} (T : PhaseTable h) (level : Level) (outer : List ℕ) (M : ℕ) (step : Step) : Type 0 where
  pub is_level : IsLevel T level outer
  pub divides : T.order ∣ M
  pub inner_table : IsRestriction T level.members.items (phase_table step.inner)
  pub outer_table : IsRestriction T outer (phase_table step.outer)
  pub is_step : IsStep M step
  pub positions : ArePositions level.members.items outer is_step.part.place
  pub level_index : is_step.quotient.index ≡ level.p
  pub level_generator : slice_index outer (to_nat is_step.quotient.generator) ≡ level.g

-- the turns of the members of a list
pub record AreTurns {M : ℕ} {step : Step} (is : IsStep M step) (L : Representations (small is)) (turns : List ℕ) : Type 0 where
  pub turn : Fin L.count → Fin L.count
  pub turns_to : (l : Fin L.count) → Equivalent (conjugate is.quotient (L.member l)) (L.member (turn l)).at
  pub count : length turns ≡ L.count
  pub listed_turn : (l : Fin L.count) → slice_index turns (to_nat l) ≡ to_nat (turn l)

-- the family f of the program is D, which is simple and equivalent to its conjugate
pub record IsFixedFamily {S : Type 0} {G : Ghosts S} {M : ℕ} {step : Step} (is : IsStep M step) {d : ℕ} (D : Representation (small is) d)
    (f : Family S G) : Type 0 where
  pub read : IsRead M (small is) D f
  pub sized : IsSized M (place_count step.inner) f
  pub positive : 0 < d
  pub few : d * d ≤ place_count step.inner
  pub simple : IsSimple D.at
  pub fixed : Equivalent (conjugate is.quotient D) D.at

-- the families are the extensions of D by u times each root of one
pub record AreExtensions {S : Type 0} {G : Ghosts S} {M : ℕ} {step : Step} (is : IsStep M step) {d : ℕ} (D : Representation (small is) d)
    (fs : List (Family S G)) : Type 0 where
  pub matrix : Matrix (numbers M) d d
  pub stands : StandsForGenerator is.quotient D matrix
  pub roots : RootsOfOne (numbers M) is.quotient.index
  pub extension : Fin is.quotient.index → Representation (large is) d
  pub extends : (a : Fin is.quotient.index) → IsExtension is.quotient D (scale (numbers M) (roots.root a) matrix) (extension a)
  pub read : AreRead M (large is) (listed d extension) fs

-- the family is induced from D
pub record IsInducedFamily {S : Type 0} {G : Ghosts S} {M : ℕ} {step : Step} (is : IsStep M step) {d : ℕ} (D : Representation (small is) d)
    (f : Family S G) : Type 0 where
  pub family : Representation (large is) (times is.quotient.index d)
  pub induced : IsInduced is.quotient D family
  pub read : IsRead M (large is) family f

-- the families are those over a member of a list
pub record AreFamiliesOver {S : Type 0} {G : Ghosts S} {M : ℕ} {step : Step} (is : IsStep M step) (L : Representations (small is))
    (turn : Fin L.count → Fin L.count) (l : Fin L.count) (fs : List (Family S G)) : Type 0 where
  pub list : Representations (large is)
  pub over : AreOver is.quotient L turn l list
  pub read : AreRead M (large is) list fs
