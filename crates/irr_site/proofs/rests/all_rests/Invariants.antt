-- What is left of the operations so far.
use Rattle.std.proofs.Common.{ℕ, ◌≡◌, ◌<◌, length, get_or, Vec}
use Rattle.std.specs.Global.{Global}
use Rattle.std.specs.Prelude.{Option}
use Rattle.irr_algebra.specs.Fin.{Fin, to_nat}
use Rattle.irr_rat.specs.VectorMeaning.{vector}
use Rattle.irr_seitz.specs.PhaseMeaning.{sign_of}
use Rattle.irr_seitz.specs.declared.op.Op.{Op}
use Rattle.irr_kvec.specs.WaveMeaning.{wave_vector}
use Rattle.irr_rep.specs.Twisted.{operation_places, place_count}
use Rattle.irr_close.specs.StandsFor.{stands_for}
use Rattle.irr_little.specs.Table.{listed_operations}
use Rattle.irr_orbit.specs.Site.{Orbit}
use Rattle.irr_site.specs.Orbits.{HasPlaces, HasSites}
use Rattle.irr_site.specs.Rests.{AreRests}
use Rattle.irr_site.specs.declared.rest.Rest.{Rest}
use Rattle.irr_site.proofs.rests.all_rests.Given as goal

abbrev pub invariant-loop-i : goal.invariant-loop-i
invariant-loop-i l = (length l.rows.items ≡ l.i)
    × ((O : Orbit (stands_for l.group) (vector l.x)) → HasPlaces l.group l.numbers.places.items O
    → HasSites l.group l.numbers.sites.items O → (d : Op) (i : Fin (place_count l.t)) (e : Vec (Option Rest) Global) → to_nat i < l.i
    → AreRests (sign_of l.group.phase) (wave_vector l.k) l.order O
    (listed_operations l.group (place_count l.t) (operation_places l.t) d i) (get_or l.rows.items (to_nat i) e).items)
