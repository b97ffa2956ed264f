-- The answer as what the sites of a point bring to a wave vector.
--   listed_is            a list is the list of its items
--   answer_content       the answer is the content of its parts
use Rattle.std.proofs.Common.{◌≡◌, sym, ◌∙◌, ap, ap₂, subst, refl, ℕ, zero, suc, ◌+◌, ◌<◌, ◌≤◌, List, [], ◌∷◌, length, get_or, map, slice_index, Vec, arith}
use Rattle.std.proofs.lemmas.List.{get_or_default}
use Rattle.std.specs.Prelude.{Option}
use Rattle.std.specs.Global.{Global}
use native.Mathlib.Nat as Nat
use Rattle.irr_algebra.specs.Fin.{Fin, to_nat}
use Rattle.irr_algebra.specs.Fin.Fin.{first, next}
use Rattle.irr_algebra.proofs.Indices.{from_nat, to_nat-from_nat, to_nat-lt}
use Rattle.irr_number.specs.Number.{Number}
use Rattle.irr_space.specs.Operation.{Operation, Vector, WaveVector}
use Rattle.irr_space.specs.Reciprocal.{Sign}
use Rattle.irr_rat.specs.VectorMeaning.{vector}
use Rattle.irr_rat.specs.declared.vec3.Vec3.{Vec3}
use Rattle.irr_seitz.specs.OperationMeaning.{operation}
use Rattle.irr_seitz.specs.PhaseMeaning.{sign_of}
use Rattle.irr_seitz.specs.declared.op.Op.{Op}
use Rattle.irr_rep.specs.Twisted.{operation_places, phase_table, place_count}
use Rattle.irr_rep.specs.declared.table.Twisted.{Twisted}
use Rattle.irr_close.specs.StandsFor.{stands_for}
use Rattle.irr_close.specs.declared.group.Group.{Group}
use Rattle.irr_little.specs.Table.{listed_operations}
use Rattle.irr_mult.specs.declared.star.SmallCharacter.{SmallCharacter}
use Rattle.irr_mult.specs.Listing.{item}
use Rattle.irr_orbit.specs.Site.{site}
use Rattle.irr_site.specs.Content.{family_content, sites_content}
use Rattle.irr_site.specs.Families.{Frame}
use Rattle.irr_site.specs.FamilyParts.{AreInducedParts, IsDisplacedPart}
use Rattle.irr_site.specs.Orbits.{AreSitePoints, HasSites, IsBroughtIn}
use Rattle.irr_site.specs.SiteContent.{FamilyContent, IsSitesOf, SitesContent, listed}
use Rattle.irr_site.specs.declared.part.SiteParts.{SiteParts}
use Rattle.irr_site.specs.declared.part.Sites.{Sites}
use Rattle.irr_site.specs.declared.rest.Rest.{Rest}

-- a list of so many values, by its items
pub listed_is : {A B : Type 0} (f : A → B) (xs : List A) (n : ℕ) → length xs ≡ n → (g : Fin n → B)
    → ((i : Fin n) (d : A) → f (get_or xs (to_nat i) d) ≡ g i) → map f xs ≡ listed n g
unfolding listed to_nat
listed_is f [] zero e g h = refl
listed_is f [] (suc n) e g h = absurd (let l : 0 ≡ suc n = e in omega (arith, l))
listed_is f (x ∷ xs) zero e g h = absurd (let l : suc (length xs) ≡ 0 = e in omega (arith, l))
listed_is f (x ∷ xs) (suc n) e g h = ap₂ ◌∷◌ (h first x)
    (listed_is f xs n (let l : suc (length xs) ≡ suc n = e in omega (arith, l)) (λ i. g (next i)) (λ i d. h (next i) d))

content-ext : (n m : ℕ) (a b : List Operation) (c d : List Vector) (e f : List FamilyContent) (g h : FamilyContent)
    → n ≡ m → a ≡ b → c ≡ d → e ≡ f → g ≡ h
    → ◌≡◌ {A = SitesContent} (record { order = n; operations = a; points = c; induced = e; displacement = g })
    (record { order = m; operations = b; points = d; induced = f; displacement = h })
content-ext n m a b c d e f g h p q r s t = cc

module _ {S : Type 0} {order : S → ℕ} {value : (n : ℕ) → S → Number n} {group : Group} {x : Vector} {k : WaveVector}
    {n : ℕ} {t : Twisted} {small : List (SmallCharacter S)} {rows : List (Vec (Option Rest) Global)}
    {cs : List (SmallCharacter S)} {sites : ℕ} (f : Frame order value group x k n t small rows cs sites)
    (same_order : (phase_table t).order ≡ n) (a : Sites)
    (ops_count : length a.ops.items ≡ f.orbit.places)
    (ops : (l : Fin f.orbit.places) (d : Op) → operation (get_or a.ops.items (to_nat l) d) ≡ f.orbit.operation l)
    (points_count : length a.points.items ≡ f.orbit.sites)
    (points : (b : Fin f.orbit.sites) (e : Vec3) → IsBroughtIn (site f.orbit b) (vector (get_or a.points.items (to_nat b) e)))
    (induced : AreInducedParts f a.induced.items) (displaced : IsDisplacedPart f a.displace) where
  point_at : (b : Fin f.orbit.sites) → Vec3
  point_at b = item a.points.items (from_nat (length a.points.items) (to_nat b) (subst (λ m. to_nat b < m) (sym points_count) (to_nat-lt b)))

  point : Fin f.orbit.sites → Vector
  point b = vector (get_or a.points.items (to_nat b) (point_at b))

  part_at : (m : Fin f.characters.list.count) → SiteParts
  part_at m = item a.induced.items (from_nat (length a.induced.items) (to_nat m) (subst (λ c. to_nat m < c) (sym induced.count) (to_nat-lt m)))

  abbrev part : Fin f.characters.list.count → SiteParts
  part m = get_or a.induced.items (to_nat m) (part_at m)

  pub answer_content : IsSitesOf (sign_of group.phase) (stands_for group) x k (sites_content n a)
  unfolding point
  answer_content = record {
    count = place_count t;
    operation = listed_operations group (place_count t) (operation_places t) f.none;
    numbering = f.little.numbering f.none;
    table = phase_table t;
    is_table = f.little.table f.none;
    order = n;
    same_order = same_order;
    small = f.small_rows.list;
    small_complete = f.small_rows.complete;
    small_in_order = f.small_rows.ordered;
    orbit = f.orbit;
    site_table = f.table;
    is_site_table = f.is_table;
    list = f.characters.list;
    complete = f.characters.complete;
    in_order = f.characters.ordered;
    point = point;
    is_point = λ b. points b (point_at b);
    own = f.small_rows.divides;
    site_own = f.characters.divides;
    family = λ m. (induced.each m (part_at m)).family;
    is_induced = λ m. (induced.each m (part_at m)).is_induced;
    displacement = displaced.family;
    is_displacement = displaced.is_displacement;
    induced = λ m. family_content (get_or a.induced.items (to_nat m) (part_at m));
    are_induced = λ m. (induced.each m (part_at m)).parts;
    displaced = family_content a.displace;
    are_displaced = displaced.parts;
    content = content-ext n n (map operation a.ops.items) (listed f.orbit.places f.orbit.operation) (map vector a.points.items)
        (listed f.orbit.sites point) (map family_content a.induced.items)
        (listed f.characters.list.count (λ m. family_content (get_or a.induced.items (to_nat m) (part_at m))))
        (family_content a.displace) (family_content a.displace) refl
        (listed_is operation a.ops.items f.orbit.places ops_count f.orbit.operation ops)
        (listed_is vector a.points.items f.orbit.sites points_count point (λ b d. ap vector (get_or_default a.points.items (to_nat b) d (point_at b) (subst (λ m. to_nat b < m) (sym points_count) (to_nat-lt b)))))
        (listed_is family_content a.induced.items f.characters.list.count induced.count
        (λ m. family_content (get_or a.induced.items (to_nat m) (part_at m)))
        (λ m d. ap family_content (get_or_default a.induced.items (to_nat m) d (part_at m) (subst (λ c. to_nat m < c) (sym induced.count) (to_nat-lt m)))))
        refl;
  }
