-- What holds of the sites in a group of operations holds in each with the same operations.
--   orbit_along       the orbit of a point
--   sites_along       what the sites of a point bring to a wave vector
use Rattle.std.proofs.Common.{◌↔◌, ℕ}
use Rattle.irr_algebra.specs.Fin.{Fin}
use Rattle.irr_algebra.specs.Matrix.{Matrix}
use Rattle.irr_algebra.specs.Pair.{times}
use Rattle.irr_number.specs.Number.{numbers}
use Rattle.irr_space.specs.Operation.{Operation, Vector, WaveVector, translation}
use Rattle.irr_space.specs.Reciprocal.{Sign}
use Rattle.irr_close.proofs.Along.{numbering_along as all_along}
use Rattle.irr_check.proofs.Along.{numbering_along, table_along}
use Rattle.irr_orbit.specs.Site.{AreSites, AreTogether, DifferBy, IsInSiteGroup, IsSiteNumbering, Orbit}
use Rattle.irr_orbit.specs.SiteFamily.{IsDisplacement, IsInduced}
use Rattle.irr_site.specs.SiteContent.{IsSitesOf, SitesContent}

module _ (G H : Operation → Type 0) (same : (g : Operation) → G g ↔ H g) where
  differ_along : (t x y : Vector) → DifferBy G t x y → DifferBy H t x y
  differ_along t x y d = record { is_translation = (same (translation t)).0 d.is_translation; is_sum = d.is_sum }

  together_along : (x y : Vector) → AreTogether G x y → AreTogether H x y
  together_along x y t = (t.0, differ_along t.0 x y t.1)

  in_site_group_along : (x : Vector) (g : Operation) → IsInSiteGroup G x g → IsInSiteGroup H x g
  in_site_group_along x g s = record { member = (same g).0 s.member; keeps = s.keeps }

module _ (G H : Operation → Type 0) (same : (g : Operation) → G g ↔ H g) where
  back : (g : Operation) → H g ↔ G g
  back g = ((same g).1, (same g).0)

  pub site_numbering_along : (x : Vector) {h : ℕ} (ops : Fin h → Operation) → IsSiteNumbering G x ops → IsSiteNumbering H x ops
  site_numbering_along x ops n = record {
    member = λ i. in_site_group_along G H same x (ops i) (n.member i);
    all = λ g s. n.all g (in_site_group_along H G back x g s);
    ordered = n.ordered;
  }

  pub numbers_along : (x : Vector) {c n : ℕ} (ops : Fin c → Operation) (number : Fin n → Fin c) → AreSites G x ops number
      → AreSites H x ops number
  numbers_along x ops number s = record {
    ordered = s.ordered;
    apart = λ a b l t. s.apart a b l (together_along H G back _ _ t);
    all = λ i. let r = s.all i in (r.0, r.1, together_along G H same _ _ r.2);
  }

  abbrev pub orbit_along : {x : Vector} → Orbit G x → Orbit H x
  orbit_along {x} O = record {
    count = O.count;
    canonical = O.canonical;
    canonical_numbering = all_along G H same O.count O.canonical O.canonical_numbering;
    sites = O.sites;
    number = O.number;
    are_sites = numbers_along x O.canonical O.number O.are_sites;
    places = O.places;
    operation = O.operation;
    numbering = site_numbering_along x O.operation O.numbering;
  }

  induced_along : (s : Sign) (k : WaveVector) (M : ℕ) {x : Vector} (O : Orbit G x) {d : ℕ} (r : Fin O.places → Matrix (numbers M) d d)
      (g : Operation) (m : Matrix (numbers M) (times O.sites d) (times O.sites d)) → IsInduced s k M O r g m
      → IsInduced s k M (orbit_along O) r g m
  induced_along s k M O r g m is = record {
    carried = λ b a t e n d p c. is.carried b a t e n (differ_along H G back t _ _ d) p c;
    apart = λ b a none. is.apart b a (λ t. none (together_along G H same _ _ t));
  }

  displacement_along : (s : Sign) (k : WaveVector) (M : ℕ) {x : Vector} (O : Orbit G x) (g : Operation)
      (m : Matrix (numbers M) (times O.sites 3) (times O.sites 3)) → IsDisplacement s k M O g m
      → IsDisplacement s k M (orbit_along O) g m
  displacement_along s k M O g m is = record {
    carried = λ b a t e d p. is.carried b a t e (differ_along H G back t _ _ d) p;
    apart = λ b a none. is.apart b a (λ t. none (together_along G H same _ _ t));
  }

  pub sites_along : (s : Sign) (x : Vector) (k : WaveVector) (c : SitesContent) → IsSitesOf s G x k c → IsSitesOf s H x k c
  sites_along s x k c is = record {
    count = is.count;
    operation = is.operation;
    numbering = numbering_along G H same k is.operation is.numbering;
    table = is.table;
    is_table = table_along G H same s k is.operation is.table is.is_table;
    order = is.order;
    same_order = is.same_order;
    small = is.small;
    small_complete = is.small_complete;
    small_in_order = is.small_in_order;
    orbit = orbit_along is.orbit;
    site_table = is.site_table;
    is_site_table = is.is_site_table;
    list = is.list;
    complete = is.complete;
    in_order = is.in_order;
    point = is.point;
    is_point = is.is_point;
    own = is.own;
    site_own = is.site_own;
    family = is.family;
    is_induced = λ m i. induced_along s k is.order is.orbit _ (is.operation i) ((is.family m).at i) (is.is_induced m i);
    displacement = is.displacement;
    is_displacement = λ i. displacement_along s k is.order is.orbit (is.operation i) (is.displacement.at i) (is.is_displacement i);
    induced = is.induced;
    are_induced = is.are_induced;
    displaced = is.displaced;
    are_displaced = is.are_displaced;
    content = is.content;
  }
