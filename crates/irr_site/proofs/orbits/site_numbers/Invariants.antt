-- The sites so far.
use Rattle.irr_space.specs.Operation.{Vector}
use Rattle.irr_site.specs.Points.{AreSitePlaces}
use Rattle.irr_site.proofs.SiteSearch.{SearchSoFar}
use Rattle.irr_site.proofs.orbits.site_numbers.Given as goal

abbrev pub invariant-loop-j : goal.invariant-loop-j
invariant-loop-j l = (x : Vector) → AreSitePlaces l.group x l.places → SearchSoFar l.group x l.j l.sites.items
