-- The matrices at the first places.
use Rattle.std.proofs.Common.{ℕ}
use Rattle.irr_algebra.specs.Pair.{times}
use Rattle.irr_theory.specs.FactorSystem.{Representation}
use Rattle.irr_clifford.specs.Formulas.{induced_matrix}
use Rattle.irr_climb.specs.Families.{IsRead}
use Rattle.irr_climb.specs.Steps.{IsStep, small}
use Rattle.irr_climb.proofs.ExtensionLists.{MatricesSoFar}
use Rattle.irr_climb.proofs.step.Step.induced.Given as goal

abbrev pub invariant-loop-x : goal.invariant-loop-x
invariant-loop-x g l = (is : IsStep l.order.n l.self) (d : ℕ) (D : Representation (small is) d) → IsRead l.order.n (small is) D l.family
    → MatricesSoFar l.order.n (times is.quotient.index d) (induced_matrix is.quotient D) l.x l.mats.items
