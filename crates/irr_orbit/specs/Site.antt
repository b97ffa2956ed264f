-- Points, their site groups, and the sites of a point under a group G (International Tables A, site-symmetry groups
-- and orbits).
--   image g x                 gx, the point Rx + v for g = (R|v)
--   DifferBy G t x y          x is y + t, with t in T
--   AreTogether G x y         x and y differ by a vector of T
--   IsInSiteGroup G x g       g is in G, and gx = x
--   IsSiteNumbering G x ops   ops are the operations of the site group of x, each once, in the order of their
--                             rotations
--   AreSites G x ops number   ops are all canonical operations of G, and number the numbers of those that carry x to
--                             its sites
--   Orbit G x                 the canonical operations of G, the sites of x, and the operations of its site group
--   carrier O a, site O a     h_a, and the a-th site x_a = h_a x
use Rattle.std.specs.Prelude.{ℕ, ◌≡◌, ◌<◌, ◌≤◌}
use Rattle.irr_algebra.specs.Fin.{Fin, to_nat}
use Rattle.irr_algebra.specs.Matrix.{◌·◌, ◌⊕◌}
use Rattle.irr_rational.specs.Integer.{whole_matrix}
use Rattle.irr_rational.specs.Rational.{rationals}
use Rattle.irr_space.specs.Operation.{Operation, Vector}
use Rattle.irr_space.specs.SpaceGroup.{IsTranslation}
use Rattle.irr_space.specs.CanonicalOperation.{IsNumbering, IsNumberedBefore}

-- x goes to Rx + v
unfoldable pub image : Operation → Vector → Vector
image g x = g.vector ⊕ (whole_matrix rationals g.rotation · x)

pub record DifferBy (G : Operation → Type 0) (t x y : Vector) : Type 0 where
  pub is_translation : IsTranslation G t
  pub is_sum : x ≡ t ⊕ y

abbrev pub AreTogether : (G : Operation → Type 0) → Vector → Vector → Type 0
AreTogether G x y = (t : Vector) × DifferBy G t x y

pub record IsInSiteGroup (G : Operation → Type 0) (x : Vector) (g : Operation) : Type 0 where
  pub member : G g
  pub keeps : image g x ≡ x

-- an operation of the site group has its rotation alone, but need not be the canonical one of this rotation
pub record IsSiteNumbering (G : Operation → Type 0) (x : Vector) {h : ℕ} (ops : Fin h → Operation) : Type 0 where
  pub member : (i : Fin h) → IsInSiteGroup G x (ops i)
  pub all : (g : Operation) → IsInSiteGroup G x g → (i : Fin h) × (ops i ≡ g)
  pub ordered : (i j : Fin h) → to_nat i < to_nat j → IsNumberedBefore (ops i).rotation (ops j).rotation

-- each is the next canonical operation that carries x to a point that is together with no earlier site: no two sites
-- are together,
-- and the image of x by each canonical operation is together with a site of no greater number
pub record AreSites (G : Operation → Type 0) (x : Vector) {c n : ℕ} (ops : Fin c → Operation) (number : Fin n
    → Fin c) : Type 0 where
  pub ordered : (a b : Fin n) → to_nat a < to_nat b → to_nat (number a) < to_nat (number b)
  pub apart : (a b : Fin n) → to_nat a < to_nat b
      → AreTogether G (image (ops (number b)) x) (image (ops (number a)) x) → ⊥
  pub all : (i : Fin c) → (a : Fin n) × (to_nat (number a) ≤ to_nat i)
      × AreTogether G (image (ops i) x) (image (ops (number a)) x)

pub record Orbit (G : Operation → Type 0) (x : Vector) : Type 0 where
  -- the canonical operations of G
  pub count : ℕ
  pub canonical : Fin count → Operation
  pub canonical_numbering : IsNumbering G (λ _. Unit {0}) canonical
  pub sites : ℕ
  pub number : Fin sites → Fin count
  pub are_sites : AreSites G x canonical number
  -- those of the site group
  pub places : ℕ
  pub operation : Fin places → Operation
  pub numbering : IsSiteNumbering G x operation

abbrev pub carrier : {G : Operation → Type 0} {x : Vector} (O : Orbit G x) → Fin O.sites → Operation
carrier O a = O.canonical (O.number a)

abbrev pub site : {G : Operation → Type 0} {x : Vector} (O : Orbit G x) → Fin O.sites → Vector
site {x = x} O a = image (O.canonical (O.number a)) x
