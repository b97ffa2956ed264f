-- The points so far.
use Rattle.std.proofs.Common.{ℕ, ◌≡◌, ◌<◌, length, get_or, slice_index}
use Rattle.irr_rat.specs.VectorMeaning.{vector}
use Rattle.irr_rat.specs.declared.vec3.Vec3.{Vec3}
use Rattle.irr_seitz.specs.OperationMeaning.{operation}
use Rattle.irr_seitz.specs.declared.op.Op.{Op}
use Rattle.irr_orbit.specs.Site.{image}
use Rattle.irr_site.specs.Orbits.{IsBroughtIn}
use Rattle.irr_site.proofs.orbits.site_points.Given as goal

abbrev pub invariant-loop-site : goal.invariant-loop-site
invariant-loop-site l = (length l.points.items ≡ l.site-index)
    × ((i : ℕ) (e : Vec3) (d : Op) → i < l.site-index
    → IsBroughtIn (image (operation (get_or l.group.ops.items (slice_index l.sites i) d)) (vector l.x)) (vector (get_or l.points.items i e)))
