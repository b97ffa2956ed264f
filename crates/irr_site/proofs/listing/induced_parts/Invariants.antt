-- The families of the representations so far.
use Rattle.std.proofs.Common.{ℕ, ◌≡◌, ◌<◌, length, get_or}
use Rattle.irr_algebra.specs.Fin.{Fin, to_nat}
use Rattle.irr_space.specs.Operation.{Vector, WaveVector}
use Rattle.irr_close.specs.declared.group.Group.{Group}
use Rattle.irr_site.specs.Families.{Frame}
use Rattle.irr_site.specs.FamilyParts.{IsInducedPart}
use Rattle.irr_site.specs.declared.part.SiteParts.{SiteParts}
use Rattle.irr_site.proofs.listing.induced_parts.Given as goal

abbrev pub invariant-loop-i : goal.invariant-loop-i
invariant-loop-i g l = (length l.induced.items ≡ l.i)
    × ((group : Group) (x : Vector) (k : WaveVector) (f : Frame g.S.Scalar.order_of g.S.Scalar.value group x k l.order.n l.t l.small
    l.rows l.characters l.sites) (m : Fin f.characters.list.count) (e : SiteParts) → to_nat m < l.i
    → IsInducedPart f m (get_or l.induced.items (to_nat m) e))
