-- The matrices at the first places.
use Rattle.std.proofs.Common.{ℕ, ◌≡◌}
use Rattle.irr_algebra.specs.Fin.{Fin}
use Rattle.irr_algebra.specs.Matrix.{scale}
use Rattle.irr_number.specs.Number.{numbers}
use Rattle.irr_theory.specs.FactorSystem.{Representation}
use Rattle.irr_rep.specs.Twisted.{place_count}
use Rattle.irr_climb.specs.Extensions.{exponent_root}
use Rattle.irr_climb.specs.Families.{IsRead}
use Rattle.irr_climb.specs.Steps.{IsStep, large}
use Rattle.irr_climb.proofs.ExtensionLists.{MatricesSoFar}
use Rattle.irr_climb.proofs.extensions.others.other_extension.Given as goal

abbrev pub invariant-loop-x : goal.invariant-loop-x
invariant-loop-x g l = (is : IsStep l.order.n l.step) (d : ℕ) (E K : Representation (large is) d) → IsRead l.order.n (large is) E l.first
    → ((p : Fin (place_count l.step.outer)) → K.at p ≡ scale (numbers l.order.n) (exponent_root is l.a p) (E.at p))
    → MatricesSoFar l.order.n d K.at l.x l.mats.items
