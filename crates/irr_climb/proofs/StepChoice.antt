-- The choice of the traces of an extension, for a step of the climb.
--   cyclic_step              the two tables of a step, with its members, index and generator
--   simple_fixed             a simple family that is equivalent to its conjugate
--   has_matrices             the family of the program
--   choice_asks, choice_gives    what the choice of an extension asks for and gives, where the list of members is that of the step
use Rattle.std.specs.Prelude.{ℕ, ◌≡◌, ◌⊎◌, List}
use Rattle.std.proofs.Common.{sym, subst}
use Rattle.irr_algebra.specs.Fin.{Fin}
use Rattle.irr_number.specs.Number.{Number}
use Rattle.irr_theory.specs.FactorSystem.{Representation}
use Rattle.irr_clifford.specs.FromTraces.{AreExtensionTraces}
use Rattle.irr_cyc.specs.declared.scalars.Scalar.{Ghosts}
use Rattle.irr_rep.specs.declared.family.Family.{Family}
use Rattle.irr_rep.specs.Twisted.{phase_table, place_count}
use Rattle.irr_char.specs.Characters.{IsRowOf}
use Rattle.irr_root.specs.Choice.{HasMatrices}
use Rattle.irr_root.specs.CyclicStep.{inner_phases, IsCyclicStep, IsSimpleFixed}
use Rattle.irr_climb.specs.declared.step.Step.{Step}
use Rattle.irr_climb.specs.Steps.{IsFixedFamily, IsStep, small}

abbrev pub cyclic_step : {M : ℕ} {step : Step} (is : IsStep M step)
    → IsCyclicStep (phase_table step.outer) (phase_table step.inner) step.members.items step.index step.generator M
cyclic_step is = record {
  positive = is.positive;
  two_or_three = subst (λ p. (p ≡ 2) ⊎ (p ≡ 3)) (sym is.index) is.two_or_three;
  divides = is.outer_divides;
  inner_divides = is.inner_divides;
  same_order = is.same_order;
  part = is.part;
  quotient = is.quotient;
  index = sym is.index;
  generator = sym is.generator;
  count = is.members_count;
  member = is.members;
}

module _ {S : Type 0} {G : Ghosts S} {M : ℕ} {step : Step} (is : IsStep M step) {d : ℕ} (D : Representation (small is) d)
    (f : Family S G) (fixed : IsFixedFamily is D f) where
  simple_fixed : IsSimpleFixed (cyclic_step is) D
  simple_fixed = record { positive = fixed.positive; few = fixed.few; simple = fixed.simple; fixed = fixed.fixed }

  has_matrices : HasMatrices (cyclic_step is) D f
  has_matrices = record { size = fixed.read.size; shape = fixed.read.shape; matrices = fixed.read.matrices }

  -- a step with these members, and the family on them
  abbrev pub Asked : List ℕ → Type 0
  Asked members = (n : ℕ) × (c : IsCyclicStep (phase_table step.outer) (phase_table step.inner) members step.index step.generator n)
      × (e : ℕ) × (B : Representation (inner_phases c) e) × IsSimpleFixed c B × HasMatrices c B f

  -- for each such step and family the traces of an extension
  abbrev pub Given : List ℕ → List S → Type 0
  Given members traces = (n : ℕ) (c : IsCyclicStep (phase_table step.outer) (phase_table step.inner) members step.index step.generator n)
      (e : ℕ) (B : Representation (inner_phases c) e) → IsSimpleFixed c B → HasMatrices c B f
      → (t : Fin (place_count step.inner) → Number n) × AreExtensionTraces c.quotient B t × IsRowOf G.order_of G.value n t traces

  pub choice_asks : (members : List ℕ) → members ≡ step.members.items → Asked members
  choice_asks members e = subst Asked (sym e) (M, cyclic_step is, d, D, simple_fixed, has_matrices)

  pub choice_gives : (members : List ℕ) (traces : List S) → members ≡ step.members.items → Given members traces
      → (t : Fin (place_count step.inner) → Number M) × AreExtensionTraces is.quotient D t × IsRowOf G.order_of G.value M t traces
  choice_gives members traces e given = subst (λ ms. Given ms traces) e given M (cyclic_step is) d D simple_fixed has_matrices
