-- The items at the first places are taken.
use Rattle.irr_climb.proofs.Rearranging.{AreTaken}
use Rattle.irr_climb.proofs.order.rearranged.Given as goal

abbrev pub invariant-loop-place : goal.invariant-loop-place
invariant-loop-place g l = AreTaken l.fn.items.items l.places l.place-index l.slots.items l.taken.items
