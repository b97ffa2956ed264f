-- The frame of an answer, from the lists of the program.
--   few_sites            at most 48 sites
--   order_exponent       the order of a little group's table is a multiple of the exponent
--   little_steps         the table of a little group has steps
--   site_steps           so has that of a site group
--   site_order           and the order
--   the_orbit, the_places, the_sites    the orbit, with its numbers
--   answer_frame         the frame
--   induced_for, displaced_for         what is said of parts, for equal lists
--   ops_count, ops_are, points_count, points_are    the operations and the points of the answer
use Rattle.std.proofs.Common.{◌≡◌, sym, ◌∙◌, ap, ap₂, subst, refl, ℕ, ◌<◌, ◌≤◌, ◌*◌, List, length, get_or, slice_index, zero, suc, Vec, arith}
use Rattle.std.specs.Prelude.{Option}
use Rattle.std.specs.Global.{Global}
use Rattle.std.specs.Int.{◌∣◌}
use Rattle.std.proofs.lemmas.List.{get_or_default}
use native.Mathlib.Nat as Nat
use Rattle.irr_algebra.specs.Fin.{Fin, to_nat}
use Rattle.irr_algebra.specs.Matrix.{null}
use Rattle.irr_algebra.proofs.Indices.{from_nat, to_nat-from_nat, to_nat-lt}
use Rattle.irr_number.specs.Number.{Number}
use Rattle.irr_lattice.proofs.Translations.{translation-null}
use Rattle.irr_space.specs.Operation.{Operation, Vector, WaveVector, ◌⊙◌, translation}
use Rattle.irr_space.specs.Reciprocal.{IsOrder}
use Rattle.irr_space.specs.SpaceGroup.{IsExponent}
use Rattle.irr_space.specs.PhaseTable.{PhaseTable}
use Rattle.irr_space.specs.Star.{IsInLittleGroup}
use Rattle.irr_cocycle.proofs.Operations.{identity-op}
use Rattle.irr_rat.specs.VectorMeaning.{vector}
use Rattle.irr_rat.specs.declared.vec3.Vec3.{Vec3}
use Rattle.irr_seitz.specs.OperationMeaning.{operation}
use Rattle.irr_seitz.specs.PhaseMeaning.{sign_of}
use Rattle.irr_seitz.specs.declared.op.Op.{Op}
use Rattle.irr_chain.specs.NormalSubgroup.{HasSteps}
use Rattle.irr_steps.proofs.Tables.{operations_have_steps, tables_have_steps}
use Rattle.irr_rep.specs.Twisted.{operation_places, phase_table, place_count}
use Rattle.irr_rep.specs.declared.table.Twisted.{Twisted}
use Rattle.irr_close.specs.StandsFor.{stands_for}
use Rattle.irr_close.specs.declared.group.Group.{Group}
use Rattle.irr_close.specs.Canonical.{numbered}
use Rattle.irr_little.specs.Table.{IsLittleTable, listed_operations}
use Rattle.irr_little.proofs.Spaces.{form_of}
use Rattle.irr_mult.specs.declared.star.SmallCharacter.{SmallCharacter}
use Rattle.irr_orbit.specs.Site.{Orbit, image, site}
use Rattle.irr_orbit.specs.SiteTable.{IsSiteTable}
use Rattle.irr_orbit.proofs.Sites.{site_rotation_distinct}
use Rattle.irr_site.specs.Families.{Frame, HasRows}
use Rattle.irr_site.specs.FamilyParts.{AreInducedParts, IsDisplacedPart}
use Rattle.irr_site.specs.declared.part.SiteParts.{SiteParts}
use Rattle.irr_site.specs.Orbits.{AreSiteNumbers, AreSitePoints, HasPlaces, HasSites, IsBroughtIn, fixing_at}
use Rattle.irr_site.specs.Points.{AreFixing, AreSitePlaces, fixing}
use Rattle.irr_site.specs.Rests.{AreAllRests}
use Rattle.irr_site.specs.declared.rest.Rest.{Rest}
use Rattle.irr_site.proofs.Cosets.{some_op}
use Rattle.irr_site.proofs.OrbitLaws.{has_places, has_sites, orbit_of}
use Rattle.irr_site.proofs.SiteGroups.{get_same, listed_below, site_numbering}

module _ (group : Group) (x : Vector) (ys : List ℕ) (numbers : AreSiteNumbers group x ys) where
  above : (a : ℕ) (l : a < length ys) → a ≤ to_nat (numbers.number (from_nat (length ys) a l))
  above zero l = omega arith
  above (suc a) l =
      let m : a < length ys = omega (arith, l) in
      let p = from_nat (length ys) a m in
      let q = from_nat (length ys) (suc a) l in
      let h = above a m in
      let e = to_nat-from_nat (length ys) a m in
      let f = to_nat-from_nat (length ys) (suc a) l in
      let r = (numbers.are_sites (some_op group)).ordered p q (omega (arith, e, f)) in
      omega (arith, h, r)

  pub few_sites : length ys ≤ 48
  few_sites = at (length ys) refl
    where
      at : (h : ℕ) → length ys ≡ h → length ys ≤ 48
      at zero e = omega (arith, e)
      at (suc h) e =
          let l : h < length ys = omega (arith, e) in
          let a = above h l in
          let b = to_nat-lt (numbers.number (from_nat (length ys) h l)) in
          let c = (form_of group).few in
          omega (arith, a, b, c, e)

module _ (group : Group) (k : WaveVector) (t : Twisted) (little : IsLittleTable group k (operation_places t) (phase_table t)) where
  pub order_exponent : (n : ℕ) → n ≡ (phase_table t).order → (e : ℕ) × IsExponent (stands_for group) e × (e ∣ n)
  order_exponent n same = let o = (little.table (some_op group)).is_order in (
    o.exponent,
    o.is_exponent,
    subst (λ m. o.exponent ∣ m) (sym (same ∙ o.is_product)) (Nat.dvd-mul_right o.exponent o.period),
  )

  pub order_here : (n : ℕ) → n ≡ (phase_table t).order → IsOrder (stands_for group) k n
  order_here n same = subst (IsOrder (stands_for group) k) (sym same) (little.table (some_op group)).is_order

  pub little_steps : HasSteps (phase_table t)
  little_steps = let d = some_op group in tables_have_steps (sign_of group.phase) (stands_for group)
      (IsInLittleGroup (stands_for group) k) k (listed_operations group (place_count t) (operation_places t) d)
      (phase_table t) (little.numbering d) (little.table d)

-- the sites with the numbers ys, and the site group with the numbers xs and the table of zs
module _ (group : Group) (x : Vector) (xs : List ℕ) (places : AreSitePlaces group x xs) (ys : List ℕ)
    (numbers : AreSiteNumbers group x ys) (table : Twisted) (zs : List ℕ) (listed : operation_places table ≡ zs) (same : zs ≡ xs) where
  abbrev pub table_count : place_count table ≡ length xs
  table_count = table.places.ok.0 ∙ ap length (listed ∙ same)

  abbrev pub the_orbit : Orbit (stands_for group) x
  the_orbit = orbit_of group x xs places ys numbers (place_count table) (table.places.ok.0 ∙ ap length (listed ∙ same)) (some_op group)

  pub the_places : HasPlaces group xs the_orbit
  the_places = has_places group x xs places ys numbers (place_count table) table_count (some_op group)

  pub the_sites : HasSites group ys the_orbit
  the_sites = has_sites group x xs places ys numbers (place_count table) table_count (some_op group)

  module _ (n a : ℕ) (order : a ≡ n) (is : (d : Op) → IsSiteTable a (fixing_at group x {h = place_count table} zs d) (phase_table table)) where
    abbrev pub the_table : (d : Op) → IsSiteTable n (fixing_at group x {h = place_count table} xs d) (phase_table table)
    the_table d = subst (λ us. IsSiteTable n (fixing_at group x {h = place_count table} us d) (phase_table table)) same
        (subst (λ m. IsSiteTable m (fixing_at group x {h = place_count table} zs d) (phase_table table)) order (is d))

    pub site_steps : HasSteps (phase_table table)
    site_steps = let d = some_op group in
        operations_have_steps (phase_table table) (fixing_at group x {h = place_count table} xs d) (record {
          quotient = λ i j. null;
          products = λ i j. (the_table d).products i j
              ∙ sym (identity-op (fixing_at group x {h = place_count table} xs d ((phase_table table).product i j)))
              ∙ ap (λ g. g ⊙ fixing_at group x {h = place_count table} xs d ((phase_table table).product i j)) (sym translation-null);
          distinct = site_rotation_distinct (stands_for group) x (fixing_at group x {h = place_count table} xs d)
              (site_numbering group x xs places (place_count table) table_count d);
        })

    pub site_order : (phase_table table).order ≡ n
    site_order = (the_table (some_op group)).is_order

    module _ {S : Type 0} (order_of : S → ℕ) (value : (n : ℕ) → S → Number n) (k : WaveVector) (t : Twisted)
        (little : IsLittleTable group k (operation_places t) (phase_table t))
        (small : List (SmallCharacter S)) (small_rows : HasRows order_of value n (phase_table t) small)
        (cs : List (SmallCharacter S)) (characters : HasRows order_of value n (phase_table table) cs)
        (rows : List (Vec (Option Rest) Global)) (b : ℕ) (rest_order : b ≡ n)
        (rests : AreAllRests (sign_of group.phase) k b the_orbit {h = place_count t}
        (listed_operations group (place_count t) (operation_places t) (some_op group)) rows)
        (small' : List (SmallCharacter S)) (same_small : small' ≡ small) (rows' : List (Vec (Option Rest) Global)) (same_rows : rows' ≡ rows)
        (cs' : List (SmallCharacter S)) (same_cs : cs' ≡ cs) (sites : ℕ) (count : sites ≡ length ys) where
      abbrev pub answer_frame : Frame order_of value group x k n t small' rows' cs' sites
      answer_frame = record {
        none = some_op group;
        little = little;
        small_rows = subst (HasRows order_of value n (phase_table t)) (sym same_small) small_rows;
        orbit = the_orbit;
        count = sym count;
        few = subst (λ m. m ≤ 48) (sym count) (few_sites group x ys numbers);
        table = phase_table table;
        is_table = the_table (some_op group);
        rests = subst (AreAllRests (sign_of group.phase) k n the_orbit {h = place_count t}
            (listed_operations group (place_count t) (operation_places t) (some_op group))) (sym same_rows)
            (subst (λ m. AreAllRests (sign_of group.phase) k m the_orbit {h = place_count t}
            (listed_operations group (place_count t) (operation_places t) (some_op group)) rows) rest_order rests);
        characters = subst (HasRows order_of value n (phase_table table)) (sym same_cs) characters;
      }

  -- the operations and the points of the answer
  module _ (us : List ℕ) (read : us ≡ xs) (ops : List Op) (fix : AreFixing group x us ops) where
    pub ops_count : length ops ≡ place_count table
    ops_count = fix.count ∙ ap length read ∙ sym table_count

    pub ops_are : (l : Fin (place_count table)) (d : Op)
        → operation (get_or ops (to_nat l) d) ≡ fixing_at group x {h = place_count table} xs (some_op group) l
    ops_are l d = let b = subst (λ m. to_nat l < m) table_count (to_nat-lt l) in
        fix.each (to_nat l) d (subst (λ vs. to_nat l < length vs) (sym read) b)
        ∙ ap (λ vs. fixing (operation (get_or group.ops.items (slice_index vs (to_nat l)) d)) x) read
        ∙ ap (λ g. fixing g x) (get_same group (slice_index xs (to_nat l)) d (some_op group) (listed_below group x xs places (to_nat l) b))

  module _ (us : List ℕ) (read : us ≡ ys) (points : List Vec3) (are : AreSitePoints group x us points) where
    pub points_count : length points ≡ length ys
    points_count = are.count ∙ ap length read

    pub points_are : (b : Fin (length ys)) (e : Vec3) → IsBroughtIn (site the_orbit b) (vector (get_or points (to_nat b) e))
    points_are b e = let d = some_op group in
        subst (λ v. IsBroughtIn v (vector (get_or points (to_nat b) e)))
        (ap (λ vs. image (operation (get_or group.ops.items (slice_index vs (to_nat b)) d)) x) read
        ∙ ap (λ g. image g x) (sym (the_sites.carrier_is b d)))
        (are.each (to_nat b) e d (subst (λ vs. to_nat b < length vs) (sym read) (to_nat-lt b)))

-- what is said of parts, for equal lists
module _ {S : Type 0} (order : S → ℕ) (value : (n : ℕ) → S → Number n) (n : ℕ) (t : Twisted) (sites : ℕ)
    (small small' : List (SmallCharacter S)) (same_small : small' ≡ small) (rows rows' : List (Vec (Option Rest) Global))
    (same_rows : rows' ≡ rows) where
  pub induced_for : (cs cs' : List (SmallCharacter S)) → cs' ≡ cs → (ps : List SiteParts)
      → ((group : Group) (x : Vector) (k : WaveVector) (f : Frame order value group x k n t small' rows' cs' sites) → AreInducedParts f ps)
      → (group : Group) (x : Vector) (k : WaveVector) (f : Frame order value group x k n t small rows cs sites) → AreInducedParts f ps
  induced_for cs cs' same_cs ps all =
      subst (λ cs. (group : Group) (x : Vector) (k : WaveVector) (f : Frame order value group x k n t small rows cs sites) → AreInducedParts f ps) same_cs
      (subst (λ rows. (group : Group) (x : Vector) (k : WaveVector) (f : Frame order value group x k n t small rows cs' sites) → AreInducedParts f ps) same_rows
      (subst (λ small. (group : Group) (x : Vector) (k : WaveVector) (f : Frame order value group x k n t small rows' cs' sites) → AreInducedParts f ps) same_small all))

  pub displaced_for : (group : Group) (places : ℕ) (p : SiteParts)
      → ((x : Vector) (k : WaveVector) (cs : List (SmallCharacter S)) (f : Frame order value group x k n t small' rows' cs sites) → f.orbit.places ≡ places → IsDisplacedPart f p)
      → (x : Vector) (k : WaveVector) (cs : List (SmallCharacter S)) (f : Frame order value group x k n t small rows cs sites) → f.orbit.places ≡ places → IsDisplacedPart f p
  displaced_for group places p all =
      subst (λ rows. (x : Vector) (k : WaveVector) (cs : List (SmallCharacter S)) (f : Frame order value group x k n t small rows cs sites) → f.orbit.places ≡ places → IsDisplacedPart f p) same_rows
      (subst (λ small. (x : Vector) (k : WaveVector) (cs : List (SmallCharacter S)) (f : Frame order value group x k n t small rows' cs sites) → f.orbit.places ≡ places → IsDisplacedPart f p) same_small all)
