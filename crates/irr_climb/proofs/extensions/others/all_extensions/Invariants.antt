-- The first extensions, with the first of all in front.
use Rattle.std.proofs.Common.{◌∷◌}
use Rattle.irr_climb.specs.Extensions.{HasExtension}
use Rattle.irr_climb.specs.Steps.{large}
use Rattle.irr_climb.proofs.ExtensionLists.{FamiliesSoFar}
use Rattle.irr_climb.proofs.ExtensionRoots.{other}
use Rattle.irr_climb.proofs.extensions.others.all_extensions.Given as goal

abbrev pub invariant-loop-a : goal.invariant-loop-a
invariant-loop-a g l = (e : HasExtension l.order.n l.step l.family l.traces)
    → FamiliesSoFar l.order.n (large e.is) (other e.is e.D e.E e.at-member) l.a (l.first ∷ l.extensions.items)
