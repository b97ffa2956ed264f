-- What the sites of a point x bring to a wave vector k of a group G (R. A. Evarestov and V. P. Smirnov, Site Symmetry in
-- Crystals): the site group, the sites, and for each representation of the site group the small representations of the
-- little group of k that stand in the family which it induces; and those in the family of displacements.
--   FamilyContent              the number of rows of a family, and its parts
--   SitesContent               an order, the operations of the site group, the sites, and the families
--   part_at T L mult m         the part of the member m of a list, which stands mult m times
--   ArePartsIn T L M v D c     c has the size and the parts of D: each member of L with the dimension of the space of
--                              intertwiners from it to D, where that is not 0, by label
--   IsSitesOf s G x k c        c is what the sites of x bring to k
--   IsSiteContent s G x k w c  .. at the reduced wave vector w of k
use Rattle.std.specs.Prelude.{ℕ, zero, suc, ◌≡◌, ◌<◌, ◌*◌, List, [], ◌∷◌}
use Rattle.std.specs.Int.{◌∣◌}
use Rattle.irr_algebra.specs.Fin.{Fin, to_nat}
use Rattle.irr_algebra.specs.Fin.Fin.{first, next}
use Rattle.irr_algebra.specs.Pair.{times}
use Rattle.irr_algebra.specs.Action.{HasDimension}
use Rattle.irr_theory.specs.FactorSystem.{Representation}
use Rattle.irr_theory.specs.Representations.{Representations, count_total}
use Rattle.irr_space.specs.Operation.{Operation, Vector, WaveVector}
use Rattle.irr_space.specs.Reciprocal.{Sign, IsReduced}
use Rattle.irr_space.specs.CanonicalOperation.{IsNumbering}
use Rattle.irr_space.specs.Star.{IsInLittleGroup}
use Rattle.irr_space.specs.PhaseTable.{PhaseTable, IsTableOf, phases_at, phases_over}
use Rattle.irr_space.specs.CompleteList.{IsCompleteList, IsInOrder, over}
use Rattle.irr_mult.specs.Listing.{IsListing}
use Rattle.irr_orbit.specs.Site.{Orbit, site}
use Rattle.irr_orbit.specs.SiteTable.{IsSiteTable}
use Rattle.irr_orbit.specs.SiteFamily.{IsDisplacement, IsInduced}
use Rattle.irr_site.specs.Orbits.{IsBroughtIn}
use Rattle.irr_site.specs.declared.part.SmallPart.{SmallPart}

pub record FamilyContent : Type 0 where
  pub size : ℕ
  pub parts : List SmallPart

pub record SitesContent : Type 0 where
  pub order : ℕ
  pub operations : List Operation
  pub points : List Vector
  pub induced : List FamilyContent
  pub displacement : FamilyContent

-- f at the places, in order
unfoldable pub listed : {A : Type 0} (n : ℕ) → (Fin n → A) → List A
listed zero f = []
listed (suc n) f = f first ∷ listed n (λ i. f (next i))

-- labels count from 1
abbrev pub part_at : {h : ℕ} (T : PhaseTable h) (L : Representations (phases_at T)) (mult : Fin L.count → ℕ) → Fin L.count
    → SmallPart
part_at T L mult m = record { label = suc (to_nat m); mult = mult m; dim = L.size m }

pub record ArePartsIn {h : ℕ} (T : PhaseTable h) (L : Representations (phases_at T)) (M : ℕ) (v : T.order ∣ M) {d : ℕ}
    (D : Representation (phases_over T M v) d) (c : FamilyContent) : Type 0 where
  pub mult : Fin L.count → ℕ
  pub dimension : (m : Fin L.count) → HasDimension (over T M v (L.member m)).at D.at (mult m)
  pub size : c.size ≡ d
  pub adds_up : count_total L.count (λ m. mult m * L.size m) ≡ d
  pub listing : IsListing (part_at T L mult) (λ m. 0 < mult m) (λ m n. to_nat m < to_nat n) c.parts

pub record IsSitesOf (s : Sign) (G : Operation → Type 0) (x : Vector) (k : WaveVector) (c : SitesContent) : Type 0 where
  -- the little group of k
  pub count : ℕ
  pub operation : Fin count → Operation
  pub numbering : IsNumbering G (IsInLittleGroup G k) operation
  pub table : PhaseTable count
  pub is_table : IsTableOf s G k operation table
  pub order : ℕ
  pub same_order : table.order ≡ order
  pub small : Representations (phases_at table)
  pub small_complete : IsCompleteList table small
  pub small_in_order : IsInOrder table small
  -- the site group and the sites
  pub orbit : Orbit G x
  pub site_table : PhaseTable orbit.places
  pub is_site_table : IsSiteTable order orbit.operation site_table
  pub list : Representations (phases_at site_table)
  pub complete : IsCompleteList site_table list
  pub in_order : IsInOrder site_table list
  pub point : Fin orbit.sites → Vector
  pub is_point : (a : Fin orbit.sites) → IsBroughtIn (site orbit a) (point a)
  -- the families that they bring to k, with numbers of this order
  pub own : table.order ∣ order
  pub site_own : site_table.order ∣ order
  pub family : (m : Fin list.count) → Representation (phases_over table order own) (times orbit.sites (list.size m))
  pub is_induced : (m : Fin list.count) (i : Fin count) → IsInduced s k order orbit
      (over site_table order site_own (list.member m)).at (operation i) ((family m).at i)
  pub displacement : Representation (phases_over table order own) (times orbit.sites 3)
  pub is_displacement : (i : Fin count) → IsDisplacement s k order orbit (operation i) (displacement.at i)
  -- and their parts
  pub induced : Fin list.count → FamilyContent
  pub are_induced : (m : Fin list.count) → ArePartsIn table small order own (family m) (induced m)
  pub displaced : FamilyContent
  pub are_displaced : ArePartsIn table small order own displacement displaced
  pub content : c ≡ record {
    order = order;
    operations = listed orbit.places orbit.operation;
    points = listed orbit.sites point;
    induced = listed list.count induced;
    displacement = displaced;
  }

pub record IsSiteContent (s : Sign) (G : Operation → Type 0) (x : Vector) (k w : WaveVector) (c : SitesContent) : Type 0 where
  pub reduced : IsReduced G k w
  pub sites : IsSitesOf s G x w c
