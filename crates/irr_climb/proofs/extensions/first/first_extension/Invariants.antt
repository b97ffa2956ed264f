-- The matrices at the first places.
use Rattle.irr_climb.specs.Extensions.{HasExtension}
use Rattle.irr_climb.proofs.ExtensionLists.{MatricesSoFar}
use Rattle.irr_climb.proofs.extensions.first.first_extension.Given as goal

abbrev pub invariant-loop-x : goal.invariant-loop-x
invariant-loop-x g l = (e : HasExtension l.order.n l.step l.family l.traces) → MatricesSoFar l.order.n e.d e.E.at l.x l.mats.items
