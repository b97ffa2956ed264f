-- The families over the first members.
use Rattle.std.proofs.Common.{ℕ}
use Rattle.irr_theory.specs.Representations.{IsFull, Representations}
use Rattle.irr_rep.specs.Twisted.{phase_table, place_count}
use Rattle.irr_climb.specs.Families.{AreRead}
use Rattle.irr_climb.specs.Sizes.{AreSized}
use Rattle.irr_climb.specs.Steps.{AreTurns, IsStepOf, small}
use Rattle.irr_climb.proofs.FamilyLists.{AreFirst}
use Rattle.irr_climb.proofs.climb.climb.Given as goal

abbrev pub invariant-loop-l : goal.invariant-loop-l
invariant-loop-l g l = record {
  first : (M : ℕ) (is : IsStepOf (phase_table l.t) l.level l.outer M l.step) (L : Representations (small is.is_step)) → IsFull L
      → AreRead M (small is.is_step) L l.families → (turns : AreTurns is.is_step L l.turns.items) → AreSized M (place_count l.step.inner) l.families
      → AreFirst is.is_step L turns.turn l.l l.climbed.items;
  sized : AreSized (phase_table l.t).order (place_count l.step.outer) l.climbed.items;
}
