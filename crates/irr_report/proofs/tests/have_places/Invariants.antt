-- The representations so far.
use Rattle.std.proofs.Common.{All, take}
use Rattle.irr_report.specs.Content.{HasPlaces}
use Rattle.irr_report.proofs.tests.have_places.Given as goal

abbrev pub invariant-loop-t : goal.invariant-loop-t
invariant-loop-t g l = All (HasPlaces l.order l.places) (take l.t-index l.reps)
