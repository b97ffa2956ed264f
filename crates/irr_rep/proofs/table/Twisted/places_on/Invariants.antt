-- The places so far are those of the members so far.
use Rattle.std.proofs.Common.{◌≡◌, map, take, slice_index}
use Rattle.irr_rep.specs.Twisted.{operation_places}
use Rattle.irr_rep.proofs.table.Twisted.places_on.Given as goal

abbrev pub invariant-loop-i : goal.invariant-loop-i
invariant-loop-i l = l.places.items ≡ map (slice_index (operation_places l.self)) (take l.i-index l.members)
