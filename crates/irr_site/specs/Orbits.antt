-- The orbit of a point in the program: numbers of the operations that carry it to its sites, and of its site group.
--   AreSiteNumbers group x xs     xs are the numbers of the operations that carry x to its sites
--   IsBroughtIn x r               r is the point of the unit cell that differs from x by a whole vector
--   AreSitePoints group x xs ps   ps are the sites for the numbers xs, brought into the cell
--   fixing_at group x xs d        the operations that fix x, with the rotations of the numbers xs
--   HasPlaces group xs O          the operations of the site group of O have the rotations of the numbers xs
--   HasSites group xs O           the carriers of O have the numbers xs
use Rattle.std.specs.Prelude.{ℕ, ◌≡◌, ◌<◌, List, length, slice_index, slice_index_or}
use Rattle.irr_algebra.specs.Fin.{Fin, to_nat}
use Rattle.irr_algebra.specs.Matrix.{◌⊖◌}
use Rattle.irr_rational.specs.Rational.{IsWhole}
use Rattle.irr_space.specs.Operation.{Operation, Vector, component}
use Rattle.irr_space.specs.CanonicalOperation.{IsInCell}
use Rattle.irr_rat.specs.VectorMeaning.{vector}
use Rattle.irr_rat.specs.declared.vec3.Vec3.{Vec3}
use Rattle.irr_seitz.specs.OperationMeaning.{operation}
use Rattle.irr_seitz.specs.declared.op.Op.{Op}
use Rattle.irr_close.specs.Canonical.{numbered}
use Rattle.irr_close.specs.StandsFor.{stands_for}
use Rattle.irr_close.specs.declared.group.Group.{Group}
use Rattle.irr_orbit.specs.Site.{AreSites, Orbit, carrier, image}
use Rattle.irr_site.specs.Points.{fixing}
use Rattle.irr_site.specs.Products.{rotation_at}

pub record AreSiteNumbers (group : Group) (x : Vector) (xs : List ℕ) : Type 0 where
  pub number : Fin (length xs) → Fin (length group.ops.items)
  pub number_is : (a : Fin (length xs)) → to_nat (number a) ≡ slice_index xs (to_nat a)
  pub are_sites : (d : Op) → AreSites (stands_for group) x (numbered group.ops.items d) number

pub record IsBroughtIn (x r : Vector) : Type 0 where
  pub in_cell : IsInCell r
  pub whole : (i : Fin 3) → IsWhole (component (x ⊖ r) i)

pub record AreSitePoints (group : Group) (x : Vector) (xs : List ℕ) (points : List Vec3) : Type 0 where
  pub count : length points ≡ length xs
  pub each : (i : ℕ) (e : Vec3) (d : Op) → i < length xs
      → IsBroughtIn (image (operation (slice_index_or group.ops.items (slice_index xs i) d)) x)
      (vector (slice_index_or points i e))

abbrev pub fixing_at : (group : Group) (x : Vector) {h : ℕ} (xs : List ℕ) → Op → Fin h → Operation
fixing_at group x xs d i = fixing (operation (slice_index_or group.ops.items (slice_index xs (to_nat i)) d)) x

pub record HasPlaces (group : Group) {x : Vector} (xs : List ℕ) (O : Orbit (stands_for group) x) : Type 0 where
  pub count : O.places ≡ length xs
  pub rotation : (l : Fin O.places) (d : Op)
      → (O.operation l).rotation ≡ rotation_at group (slice_index xs (to_nat l)) d

pub record HasSites (group : Group) {x : Vector} (xs : List ℕ) (O : Orbit (stands_for group) x) : Type 0 where
  pub count : O.sites ≡ length xs
  pub carrier_is : (a : Fin O.sites) (d : Op)
      → carrier O a ≡ operation (slice_index_or group.ops.items (slice_index xs (to_nat a)) d)
