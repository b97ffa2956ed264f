-- What is left at the sites so far.
use Rattle.std.proofs.Common.{ℕ, ◌≡◌, ◌<◌, length, get_or}
use Rattle.std.specs.Prelude.{Option}
use Rattle.irr_algebra.specs.Fin.{Fin, to_nat}
use Rattle.irr_rat.specs.VectorMeaning.{vector}
use Rattle.irr_seitz.specs.OperationMeaning.{operation}
use Rattle.irr_seitz.specs.PhaseMeaning.{sign_of}
use Rattle.irr_seitz.specs.declared.op.Op.{Op}
use Rattle.irr_kvec.specs.WaveMeaning.{wave_vector}
use Rattle.irr_close.specs.StandsFor.{stands_for}
use Rattle.irr_orbit.specs.Site.{Orbit}
use Rattle.irr_site.specs.Orbits.{HasPlaces, HasSites}
use Rattle.irr_site.specs.Rests.{IsRestAt}
use Rattle.irr_site.specs.declared.rest.Rest.{Rest}
use Rattle.irr_site.proofs.rests.rests.Given as goal

abbrev pub invariant-loop-site : goal.invariant-loop-site
invariant-loop-site l = (length l.rests.items ≡ l.site-index)
    × ((O : Orbit (stands_for l.group) (vector l.x)) → HasPlaces l.group l.numbers.places.items O
    → HasSites l.group l.numbers.sites.items O → (d : Op) (a : Fin O.sites) (e : Option Rest) → to_nat a < l.site-index
    → IsRestAt (sign_of l.group.phase) (wave_vector l.k) l.order O (operation (get_or l.group.ops.items l.op d)) a
    (get_or l.rests.items (to_nat a) e))
