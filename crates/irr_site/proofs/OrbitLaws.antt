-- The orbit of a point from its numbers in the program.
--   orbit_of                the orbit
--   has_places, has_sites   the rotations of its site group and its carriers have these numbers
--   site_list_below         the numbers of the sites
use Rattle.std.proofs.Common.{◌≡◌, sym, ◌∙◌, ap, subst, refl, ℕ, ◌<◌, List, length, get_or, slice_index}
use Rattle.std.specs.List.{All}
use Rattle.std.proofs.lemmas.List.{get_or_default}
use Rattle.irr_algebra.specs.Fin.{Fin, to_nat}
use Rattle.irr_algebra.proofs.Indices.{from_nat, to_nat-from_nat, to_nat-lt}
use Rattle.irr_space.specs.Operation.{Operation, Vector}
use Rattle.irr_seitz.specs.OperationMeaning.{operation}
use Rattle.irr_seitz.specs.declared.op.Op.{Op}
use Rattle.irr_close.specs.Canonical.{numbered}
use Rattle.irr_close.specs.StandsFor.{stands_for}
use Rattle.irr_close.specs.declared.group.Group.{Group}
use Rattle.irr_little.proofs.Spaces.{numbering_of}
use Rattle.irr_orbit.specs.Site.{Orbit}
use Rattle.irr_site.specs.Orbits.{AreSiteNumbers, HasPlaces, HasSites, fixing_at}
use Rattle.irr_site.specs.Points.{AreSitePlaces}
use Rattle.irr_site.proofs.SiteGroups.{fixing-rotation, get_same, listed_below, site_numbering}

module _ (group : Group) (x : Vector) (xs : List ℕ) (places : AreSitePlaces group x xs) (ys : List ℕ)
    (numbers : AreSiteNumbers group x ys) (h : ℕ) (count : h ≡ length xs) (d : Op) where
  abbrev pub orbit_of : Orbit (stands_for group) x
  orbit_of = record {
    count = length group.ops.items;
    canonical = numbered group.ops.items d;
    canonical_numbering = numbering_of group d;
    sites = length ys;
    number = numbers.number;
    are_sites = numbers.are_sites d;
    places = h;
    operation = fixing_at group x {h = h} xs d;
    numbering = site_numbering group x xs places h count d;
  }

  pub has_places : HasPlaces group xs orbit_of
  has_places = record {
    count = count;
    rotation = λ l e. fixing-rotation (operation (get_or group.ops.items (slice_index xs (to_nat l)) d)) x
        ∙ ap (λ (g : Operation). g.rotation) (get_same group (slice_index xs (to_nat l)) d e
        (listed_below group x xs places (to_nat l) (subst (λ n. to_nat l < n) count (to_nat-lt l))));
  }

  pub has_sites : HasSites group ys orbit_of
  has_sites = record {
    count = refl;
    carrier_is = λ a e. get_same group (to_nat (numbers.number a)) d e (to_nat-lt (numbers.number a))
        ∙ ap (λ n. operation (get_or group.ops.items n e)) (numbers.number_is a);
  }

pub site_list_below : (group : Group) (x : Vector) (ys : List ℕ) → AreSiteNumbers group x ys
    → All (λ p. p < length group.ops.items) ys
site_list_below group x ys numbers k d l =
    let a = from_nat (length ys) k l in
    subst (λ p. p < length group.ops.items)
    (numbers.number_is a ∙ ap (slice_index ys) (to_nat-from_nat (length ys) k l) ∙ get_or_default ys k 0 d l)
    (to_nat-lt (numbers.number a))
