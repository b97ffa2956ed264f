-- The places so far are those of the site group so far.
use Rattle.irr_rat.specs.VectorMeaning.{vector}
use Rattle.irr_little.specs.Places.{AreListed}
use Rattle.irr_site.specs.Points.{IsSitePlace}
use Rattle.irr_site.proofs.operations.site_places.Given as goal

abbrev pub invariant-loop-place : goal.invariant-loop-place
invariant-loop-place l = AreListed (IsSitePlace l.group (vector l.x)) l.place l.places.items
