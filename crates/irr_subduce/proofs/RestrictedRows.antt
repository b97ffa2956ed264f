-- The rows of a restriction at the stars of the subgroup.
--   same_image         the listed images are those of the operations of the star
--   classes_here       the classes of the diagonal places, by arms
--   part_at            the part at an operation
--   part_rows          so at each operation of a meeting
--   row_here           the row of the part
--   rows_traced        the rows at all stars are those of the restriction
use Rattle.std.proofs.Common.{◌≡◌, sym, ◌∙◌, ap, subst, subst₂, refl, ℕ, ◌<◌, ◌≤◌, List, [], length, get_or, map, Vec, Global, arith}
use Rattle.std.specs.Int.{◌∣◌}
use Rattle.std.proofs.lemmas.List.{get_or-map}
use native.Mathlib.Nat as Nat
use Rattle.irr_algebra.specs.Fin.{Fin, to_nat}
use Rattle.irr_algebra.specs.Matrix.{Matrix, trace}
use Rattle.irr_algebra.specs.Pair.{times}
use Rattle.irr_algebra.proofs.Indices.{from_nat, to_nat-from_nat, to_nat-lt}
use Rattle.irr_algebra.proofs.Sums.{sum-ext}
use Rattle.irr_number.specs.Number.{Number, numbers}
use Rattle.irr_theory.specs.FactorSystem.{Representation}
use Rattle.irr_space.specs.Operation.{Operation, WaveVector}
use Rattle.irr_space.specs.PhaseTable.{phases_over}
use Rattle.irr_space.specs.CompleteList.{over}
use Rattle.irr_seitz.specs.OperationMeaning.{operation}
use Rattle.irr_seitz.specs.PhaseMeaning.{sign_of}
use Rattle.irr_seitz.specs.declared.op.Op.{Op}
use Rattle.irr_cyc.specs.declared.scalars.Scalar.{Ghosts}
use Rattle.irr_rep.specs.Twisted.{place_count}
use Rattle.irr_kvec.specs.WaveMeaning.{wave_vector}
use Rattle.irr_kvec.specs.declared.wave.Wave.{Wave}
use Rattle.irr_close.specs.StandsFor.{stands_for}
use Rattle.irr_close.specs.declared.group.Group.{Group}
use Rattle.irr_char.specs.Characters.{IsRowOf}
use Rattle.irr_full.specs.Full.{IsFullOf, block}
use Rattle.irr_full.specs.Restriction.{IsImage}
use Rattle.irr_full.proofs.Images.{image_unique}
use Rattle.irr_star.specs.Induced.{IsFullRepresentation, IsInduced}
use Rattle.irr_star.specs.declared.full.Full.{Full}
use Rattle.irr_star.proofs.MemberSizes.{member_same}
use Rattle.irr_star.proofs.StarLists.{few_numbers}
use Rattle.irr_mult.specs.Classes.{AreClassesAt, Classes, IsRowAt, class_trace, part_trace}
use Rattle.irr_mult.specs.Listing.{item}
use Rattle.irr_mult.specs.OrderedWaves.{waves_of}
use Rattle.irr_mult.specs.Traced.{AreStarCharacters, AreTraced, SpaceRepresentation, star_on, traces_at}
use Rattle.irr_mult.specs.declared.star.StarCharacters.{StarCharacters}
use Rattle.irr_mult.proofs.ClassParts.{traced_of_classes}
use Rattle.irr_mult.proofs.Listings.{item-get}
use Rattle.irr_mult.proofs.StarFacts.{some_operation}
use Rattle.irr_setting.specs.Setting.{basis, origin}
use Rattle.irr_side.specs.declared.sides.Side.{Side}
use Rattle.irr_side.proofs.LittleOperations.{same_count, same_operations}
use Rattle.irr_side.proofs.MemberSizes.{few_rows}
use Rattle.irr_side.proofs.SideLists.{some_item}
use Rattle.irr_subduce.specs.Meetings.{AreStarRows, HasMeetings, HasPartRows, HasWaves, IsMeeting}
use Rattle.irr_subduce.specs.PartTraces.{IsPartRow, PartAt, part_sum}
use Rattle.irr_subduce.specs.declared.meetings.Meeting.{Meeting}
use Rattle.irr_subduce.specs.declared.sub.Sub.{Sub}
use Rattle.irr_subduce.proofs.ArmListings.{covered, listed_arms, near_arm, wave_of_arm}
use Rattle.irr_subduce.proofs.HasExponents.{has_exponent}
use Rattle.irr_subduce.proofs.RestrictedClasses.{class_trace_restricted, restricted_classes, restricted_space}

-- a row, number by number
row_of_each : {S : Type 0} (order : S → ℕ) (value : (n : ℕ) → S → Number n) (n h : ℕ) (f : Fin h → Number n) (row : List S)
    → length row ≡ h → ((k : ℕ) (x : S) → k < h → order (get_or row k x) ≡ n)
    → ((k : ℕ) (x : S) → k < h → (p : Fin h) → to_nat p ≡ k → value n (get_or row k x) ≡ f p) → IsRowOf {h = h} order value n f row
row_of_each {S} order value n h f row count orders values = record {
  count = count;
  orders = λ k x l. orders k x (subst (λ m. k < m) count l);
  numbers_at = λ p.
      let l : to_nat p < length row = subst (λ m. to_nat p < m) (sym count) (to_nat-lt p) in
      let x = item row (from_nat (length row) (to_nat p) l) in
      get_or-map (value n) row (to_nat p) x (numbers n).zero l ∙ values (to_nat p) x (to_nat-lt p) p refl;
}

module _ {X : Type 0} {V : Ghosts X} {group : Group} {sub : Sub} {image : Operation → Operation} {k : WaveVector} {M : ℕ}
    {side : Side X V} {ws : List Wave} (g : HasWaves group sub image k M side ws) where
  abbrev H : Operation → Type 0
  H = stands_for sub.group

  -- at a star
  module _ (c : StarCharacters X) (t : Meeting) (has : AreStarCharacters V.order_of V.value sub.group M c)
      (is : IsMeeting group sub ws c.wave t) where
    inner_count : length is.images.inner ≡ place_count c.table
    inner_count = same_count sub.group (star_on has.star) (λ (p : Fin (length is.images.inner)). operation (item is.images.inner p)) is.images.numbering

    pub images_count : length t.images.items ≡ place_count c.table
    images_count = is.images.images.count ∙ inner_count

    pub same_image : (n : ℕ) (d : Op) → n < place_count c.table → (p : Fin (place_count c.table)) → to_nat p ≡ n
        → operation (get_or t.images.items n d) ≡ image (has.star.operation p)
    same_image n d l p e =
        let inside : n < length is.images.inner = subst (λ z. n < z) (sym inner_count) l in
        let some = some_operation sub.group in
        let q = from_nat (length is.images.inner) n inside in
        let at : to_nat q ≡ n = to_nat-from_nat (length is.images.inner) n inside in
        let own : operation (get_or is.images.inner n some) ≡ has.star.operation p =
        ap (λ j. operation (get_or is.images.inner j some)) (sym at) ∙ ap operation (sym (item-get is.images.inner q some))
        ∙ same_operations sub.group (star_on has.star) (λ (r : Fin (length is.images.inner)). operation (item is.images.inner r)) is.images.numbering
        q p (at ∙ sym e) in
        image_unique (basis sub.setting) (origin sub.setting) g.subgroup.inverse g.subgroup.basis-inverse (operation (get_or is.images.inner n some))
        (operation (get_or t.images.items n d)) (image (has.star.operation p)) (is.images.images.each n d inside some)
        (subst (λ x. IsImageHere x (image (has.star.operation p))) (sym own)
        (g.subgroup.is_image (has.star.operation p) (has.star.numbering.member p).member))
      where
        IsImageHere : Operation → Operation → Type 0
        IsImageHere x y = IsImage (basis sub.setting) (origin sub.setting) x y

  module _ (positive : 0 < M) (u : g.is_side.star.table.order ∣ M) (m : Fin g.is_side.list.count)
      (F : Operation → Matrix (numbers M) (times g.is_side.star.arms (g.is_side.list.size m)) (times g.is_side.star.arms (g.is_side.list.size m)))
      (full_F : IsFullOf g.is_side.star M u (over g.is_side.star.table M u (g.is_side.list.member m)) F)
      (full : Full X V) (is_full : full ≡ get_or side.fulls.items (to_nat m) full) where
    abbrev D : Representation (phases_over g.is_side.star.table M u) (g.is_side.list.size m)
    D = over g.is_side.star.table M u (g.is_side.list.member m)

    abbrev pub space_here : SpaceRepresentation
    space_here = restricted_space sub.group group g.phase (basis sub.setting) (origin sub.setting) image g.subgroup g.is_side.star M positive u D F full_F

    abbrev pub classes_here : Classes space_here
    classes_here = restricted_classes sub.group group g.phase (basis sub.setting) (origin sub.setting) image g.subgroup g.is_side.star M positive u D F full_F
        (has_exponent sub.group).0 (has_exponent sub.group).1 (wave_of_arm g) (near_arm g)

    abbrev pub own : g.is_side.star.table.order ∣ g.is_side.star.table.order
    own = Nat.dvd_refl g.is_side.star.table.order

    pub induced : IsInduced group g.is_side.star g.is_side.star.table.order own (over g.is_side.star.table g.is_side.star.table.order own (g.is_side.list.member m)) full
    induced = subst (λ (f : Full X V). IsInduced group g.is_side.star g.is_side.star.table.order own (over g.is_side.star.table g.is_side.star.table.order own (g.is_side.list.member m)) f)
        (sym is_full) (g.is_side.induced own m full)

    pub represents : IsFullRepresentation full
    represents = record {
      group = group;
      wave = k;
      star = g.is_side.star;
      number = g.is_side.star.table.order;
      divides = own;
      size = g.is_side.list.size m;
      small = over g.is_side.star.table g.is_side.star.table.order own (g.is_side.list.member m);
      induced = induced;
    }

    module _ (c : StarCharacters X) (t : Meeting) (has : AreStarCharacters V.order_of V.value sub.group M c)
        (is : IsMeeting group sub ws c.wave t) where
      abbrev pub listed : AreClassesAt classes_here (wave_vector c.wave) t.arms.items
      listed = listed_arms g c.wave t is

      pub few_arms : length t.arms.items ≤ 48
      few_arms = Nat.le_trans (few_numbers (length t.arms.items) g.is_side.star.arms listed.index listed.ordered)
          (subst (λ z. z ≤ 48) g.is_side.arms.count g.is_side.arms.few)

      abbrev pub part_at : (n : ℕ) (o : Op) → n < length t.images.items → PartAt M full t.arms.items (get_or t.images.items n o)
      part_at n o l = record {
        has = record {
          induced = represents;
          member = member_same group full.group induced.same (operation (get_or t.images.items n o)) (is.images.members n o l).0;
          small = (is.images.members n o l).1;
          divides = subst (λ z. z ∣ M) (sym induced.order) u;
        };
        group = group;
        wave = k;
        star = g.is_side.star;
        own = own;
        divides = u;
        size = g.is_side.list.size m;
        few_rows = g.is_side.small m;
        small = g.is_side.list.member m;
        induced = induced;
        member = (is.images.members n o l).0;
        at = F;
        is_full = full_F;
        index = listed.index;
        is = λ s. sym (listed.is s);
        few = few_arms;
      }

      pub part_rows : HasPartRows M full t
      part_rows n o l = part_at n o l

      -- the sum is the trace of the part
      part_is : (n : ℕ) (o : Op) (l : n < length t.images.items) (p : Fin (place_count c.table)) → to_nat p ≡ n
          → part_sum (part_at n o l) ≡ part_trace classes_here (wave_vector c.wave) listed (has.star.operation p)
      unfolding part_sum part_trace
      part_is n o l p e = sum-ext (numbers M) (length t.arms.items)
          (λ s. trace (block (g.is_side.list.size m) (F (operation (get_or t.images.items n o))) (listed.index s) (listed.index s)))
          (λ s. class_trace classes_here (listed.index s) (has.star.operation p))
          (λ s. ap (λ x. trace (block (g.is_side.list.size m) (F x) (listed.index s) (listed.index s)))
          (same_image c t has is n o (subst (λ z. n < z) (images_count c t has is) l) p e)
          ∙ sym (class_trace_restricted sub.group group g.phase (basis sub.setting) (origin sub.setting) image g.subgroup g.is_side.star M positive u D F full_F
          (has_exponent sub.group).0 (has_exponent sub.group).1 (wave_of_arm g) (near_arm g) (listed.index s) (has.star.operation p)))

      pub row_here : (row : List X) → IsPartRow {V = V} M full t.arms.items t.images.items row
          → IsRowAt V.order_of V.value classes_here c t.arms.items row
      row_here row r = record {
        has = has;
        at = listed;
        traces = row_of_each V.order_of V.value M (place_count c.table)
            (λ p. part_trace classes_here (wave_vector c.wave) listed (has.star.operation p)) row
            (r.count ∙ images_count c t has is)
            (λ n x l. (r.each n x (there n l) (some_operation group)).order)
            (λ n x l p e. (r.each n x (there n l) (some_operation group)).value (part_at n (some_operation group) (there n l))
            ∙ part_is n (some_operation group) (there n l) p e);
      }
        where
          there : (n : ℕ) → n < place_count c.table → n < length t.images.items
          there n l = subst (λ z. n < z) (sym (images_count c t has is)) l

    pub rows_traced : (stars : List (StarCharacters X)) (ts : List Meeting) → (s : HasMeetings group sub image k M side ws stars ts) → (rows : List (Vec X Global))
        → AreStarRows {V = V} M full ts rows → AreTraced V.order_of V.value space_here stars rows
    rows_traced stars ts s rows are = traced_of_classes space_here classes_here few V.order_of V.value (waves_of ws) (covered g) stars rows
        (are.count ∙ s.meetings.count) s.stars (λ i. (meeting i).arms.items) row_at
      where
        few : times g.is_side.star.arms (g.is_side.list.size m) ≤ 2304
        few = Nat.le_trans (few_rows group g.is_side.star g.is_side.list g.is_side.complete m) (let l : 48 ≤ 2304 = omega arith in l)

        met : (i : Fin (length stars)) → to_nat i < length ts
        met i = subst (λ z. to_nat i < z) (sym s.meetings.count) (to_nat-lt i)

        some_meeting : Fin (length stars) → Meeting
        some_meeting i = some_item ts (to_nat i) (met i)

        meeting : Fin (length stars) → Meeting
        meeting i = get_or ts (to_nat i) (some_meeting i)

        row_at : (i : Fin (length stars)) → IsRowAt V.order_of V.value classes_here (item stars i) (meeting i).arms.items (traces_at rows (to_nat i))
        row_at i =
            let c : StarCharacters X = get_or stars (to_nat i) (item stars i) in
            let there : to_nat i < length rows = subst (λ z. to_nat i < z) (sym are.count) (met i) in
            let some = some_item rows (to_nat i) there in
            subst₂ (λ (e : StarCharacters X) xs. IsRowAt V.order_of V.value classes_here e (meeting i).arms.items xs)
            (sym (item-get stars i (item stars i)))
            (sym (get_or-map (λ (v : Vec X Global). v.items) rows (to_nat i) some [] there))
            (row_here c (meeting i) (s.characters (to_nat i) (item stars i) (to_nat-lt i))
            (s.meetings.each (to_nat i) (some_meeting i) (to_nat-lt i) (item stars i))
            (get_or rows (to_nat i) some).items (are.each (to_nat i) some (met i) (some_meeting i)))
