-- The matrices so far.
use Rattle.std.proofs.Common.{ℕ}
use Rattle.irr_algebra.specs.Fin.{Fin}
use Rattle.irr_algebra.specs.Matrix.{Matrix}
use Rattle.irr_number.specs.Number.{numbers}
use Rattle.irr_star.specs.Sizes.{IsSmallFamily}
use Rattle.irr_star.proofs.FamilyItems.{MatricesSoFar}
use Rattle.irr_star.proofs.copies.family.Given as goal

abbrev pub invariant-loop-k : goal.invariant-loop-k
invariant-loop-k g l = (M h d : ℕ) (D : Fin h → Matrix (numbers M) d d) → IsSmallFamily M D l.f
    → MatricesSoFar M d D l.k l.mats.items
