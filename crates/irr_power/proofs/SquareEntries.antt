-- The squares of the members of a list.
--   places_inside          the numbers of operations are below their count
--   op_count, op_at, double_count, double_at     the operations of a meeting, and their squares
--   both                   the arms with themselves
--   symmetric_here, skew_here        the rows at a star are those of the parts of the squares there
--   rows_asked             what the rows need
--   symmetric_of_rows, skew_of_rows  the rows are those of the squares
--   entry_of_rows          what is made of them
--   is_full_one, few_dim   the full representation and its number of rows
use Rattle.std.proofs.Common.{◌≡◌, sym, ◌∙◌, ap, subst, subst₂, ℕ, suc, ◌+◌, ◌*◌, ◌<◌, ◌≤◌, List, [], length, get_or, map, slice_index, Vec, Global}
use Rattle.std.specs.Int.{◌∣◌}
use Rattle.std.specs.List.{All}
use Rattle.std.proofs.lemmas.List.{get_or-map, get_or_default, length-map}
use Rattle.std.proofs.lemmas.List.Elements.{Contains-get_or}
use native.Mathlib.Nat as Nat
use Rattle.irr_algebra.specs.Fin.{Fin, to_nat}
use Rattle.irr_algebra.specs.Matrix.{Matrix, ◌⊕◌}
use Rattle.irr_algebra.specs.Pair.{times}
use Rattle.irr_algebra.proofs.Indices.{from_nat, to_nat-from_nat, to_nat-lt, to_nat_inj}
use Rattle.irr_algebra.proofs.Pairs.{times-mul}
use Rattle.irr_number.specs.Number.{Number, numbers}
use Rattle.irr_theory.specs.FactorSystem.{Representation}
use Rattle.irr_space.specs.Operation.{Operation, WaveVector, ◌⊙◌}
use Rattle.irr_space.specs.Reciprocal.{AreEquivalent}
use Rattle.irr_space.specs.CanonicalOperation.{IsNumbering}
use Rattle.irr_space.specs.Star.{IsInLittleGroup}
use Rattle.irr_space.specs.PhaseTable.{phases_at, phases_over}
use Rattle.irr_space.specs.CompleteList.{over}
use Rattle.irr_seitz.specs.OperationMeaning.{operation}
use Rattle.irr_seitz.specs.PhaseMeaning.{sign_of}
use Rattle.irr_seitz.specs.declared.op.Op.{Op}
use Rattle.irr_cyc.specs.declared.scalars.Scalar.{Ghosts}
use Rattle.irr_rep.specs.Twisted.{place_count}
use Rattle.irr_kvec.specs.WaveMeaning.{wave_vector}
use Rattle.irr_kvec.specs.declared.wave.Wave.{Wave}
use Rattle.irr_close.specs.StandsFor.{stands_for}
use Rattle.irr_close.specs.declared.group.Group.{Group}
use Rattle.irr_close.proofs.SpaceGroups.{space_group}
use Rattle.irr_little.specs.Places.{AreLittlePlaces}
use Rattle.irr_little.proofs.Spaces.{has_canonical}
use Rattle.irr_char.specs.Characters.{IsRowOf}
use Rattle.irr_full.specs.Full.{IsFullOf}
use Rattle.irr_full.specs.Parts.{ArePartsOf}
use Rattle.irr_full.specs.Star.{Star}
use Rattle.irr_full.proofs.FullExistence.{full_matrices, full_matrices-is_full}
use Rattle.irr_forms.specs.Square.{strict, upper}
use Rattle.irr_star.specs.Induced.{IsFullRepresentation, IsInduced}
use Rattle.irr_star.specs.declared.full.Full.{Full}
use Rattle.irr_mult.specs.Classes.{AreClassesAt, IsRowAt}
use Rattle.irr_mult.specs.Listing.{IsListing, item}
use Rattle.irr_mult.specs.OrderedWaves.{waves_of}
use Rattle.irr_mult.specs.StarParts.{part_of}
use Rattle.irr_mult.specs.Traced.{AreStarCharacters, AreTraced, SpaceRepresentation, star_on, traces_at}
use Rattle.irr_mult.specs.declared.star.StarCharacters.{StarCharacters}
use Rattle.irr_mult.proofs.Listings.{item-get}
use Rattle.irr_mult.proofs.StarFacts.{some_operation}
use Rattle.irr_side.specs.ArmTraces.{AreArmRows, AreEach}
use Rattle.irr_product.specs.ClassRows.{ClassRows, class_sum}
use Rattle.irr_product.specs.Meetings.{HasSums, IsOverOrder}
use Rattle.irr_side.specs.Sides.{IsSideOf}
use Rattle.irr_side.specs.declared.sides.Side.{Side}
use Rattle.irr_product.proofs.KroneckerLists.{listed_near, listed_wave}
use Rattle.irr_side.proofs.LittleOperations.{numbering_of_list, place_inside, same_count, same_operations}
use Rattle.irr_product.proofs.MeetingRows.{has_members}
use Rattle.irr_side.proofs.MemberSizes.{few_rows}
use Rattle.irr_product.proofs.PairEntries.{near_sums, sums_count}
use Rattle.irr_side.proofs.SideLists.{some_item}
use Rattle.irr_product.proofs.WholeProducts.{over_order}
use Rattle.irr_power.specs.Halves.{IsHalf, difference_of, sum_of}
use Rattle.irr_power.specs.Meetings.{AreSquareRows, HasArmSums, HasSquareRows, IsEntry, IsMeeting, IsSquareRow, Setting}
use Rattle.irr_power.specs.Returns.{ReturnRows, return_sum}
use Rattle.irr_power.specs.Targets.{AreTargetRows}
use Rattle.irr_power.specs.declared.meetings.Meeting.{Meeting}
use Rattle.irr_power.specs.declared.parts.SquareParts.{SquareParts}
use Rattle.irr_power.proofs.MeetingRows.{arms_here, arms_small, row_count, target_count, target_here, target_places}
use Rattle.irr_power.proofs.SquareRows.{OwnRows, product_rows, return_rows, skew_row_at, symmetric_row_at}
use Rattle.irr_power.proofs.SquareSpaces.{skew_classes, skew_representation, symmetric_classes, symmetric_representation}
use Rattle.irr_power.proofs.TracedSquares.{skew_traced, symmetric_traced}

-- a listing of numbers of equally many places
listing_moved : {n h : ℕ} (e : n ≡ h) (P : Fin n → Type 0) (Q : Fin h → Type 0)
    → ((i : Fin n) (j : Fin h) → to_nat i ≡ to_nat j → P i → Q j) → ((i : Fin n) (j : Fin h) → to_nat i ≡ to_nat j → Q j → P i)
    → (xs : List ℕ) → IsListing to_nat P (λ (i j : Fin n). to_nat i < to_nat j) xs
    → IsListing to_nat Q (λ (i j : Fin h). to_nat i < to_nat j) xs
listing_moved {n} {h} e P Q there back xs is = record {
  index = λ t. moved (is.index t);
  is = λ t. is.is t ∙ same (is.index t);
  holds = λ t. there (is.index t) (moved (is.index t)) (same (is.index t)) (is.holds t);
  all = λ j q.
      let i = from_nat n (to_nat j) (subst (λ z. to_nat j < z) (sym e) (to_nat-lt j)) in
      let at : to_nat i ≡ to_nat j = to_nat-from_nat n (to_nat j) (subst (λ z. to_nat j < z) (sym e) (to_nat-lt j)) in
      let a = is.all i (back i j at q) in
      (a.0, to_nat_inj (moved (is.index a.0)) j (sym (same (is.index a.0)) ∙ ap to_nat a.1 ∙ at));
  ordered = λ t r l. subst₂ (λ x y. x < y) (same (is.index t)) (same (is.index r)) (is.ordered t r l);
}
  where
    moved : Fin n → Fin h
    moved i = from_nat h (to_nat i) (subst (λ z. to_nat i < z) e (to_nat-lt i))

    same : (i : Fin n) → to_nat i ≡ to_nat (moved i)
    same i = sym (to_nat-from_nat h (to_nat i) (subst (λ z. to_nat i < z) e (to_nat-lt i)))

-- the numbers of the operations of a little group
pub places_inside : (group : Group) (k : WaveVector) (xs : List ℕ) → AreLittlePlaces group k xs → All (λ n. n < length group.ops.items) xs
places_inside group k xs are i d l = are.below (get_or xs i d) (Contains-get_or xs i d l)

-- the operations of a meeting
module _ {X : Type 0} (order : X → ℕ) (value : (n : ℕ) → X → Number n) (group : Group) (M : ℕ) (sums : List Wave)
    (c : StarCharacters X) (t : Meeting) (has : AreStarCharacters order value group M c) (is : IsMeeting group sums c.wave t) where
  pub op_count : length t.ops.items ≡ place_count c.table
  op_count = same_count group (star_on has.star) (λ (p : Fin (length t.ops.items)). operation (item t.ops.items p)) is.numbering

  pub op_at : (p : Fin (place_count c.table)) (o : Op) → operation (get_or t.ops.items (to_nat p) o) ≡ has.star.operation p
  op_at p o =
      let inside = subst (λ n. to_nat p < n) (sym op_count) (to_nat-lt p) in
      let j = from_nat (length t.ops.items) (to_nat p) inside in
      let e = to_nat-from_nat (length t.ops.items) (to_nat p) inside in
      ap (λ n. operation (get_or t.ops.items n o)) (sym e) ∙ ap operation (sym (item-get t.ops.items j o))
      ∙ same_operations group (star_on has.star) (λ (p : Fin (length t.ops.items)). operation (item t.ops.items p)) is.numbering j p e

  abbrev read : ℕ → Op
  read n = get_or group.ops.items n (some_operation group)

  abbrev listed : List Op
  listed = map read is.places

  are_listed : AreEach (λ n (o : Op). (d : Op) → o ≡ get_or group.ops.items (slice_index is.places n) d) (length is.places) listed
  are_listed = record {
    count = length-map is.places read;
    each = λ n y l d. get_or-map read is.places n 0 y l ∙ get_or_default group.ops.items (slice_index is.places n)
        (some_operation group) d (place_inside group (wave_vector c.wave) is.places is.are_places n l);
  }

  listed_numbering : IsNumbering (stands_for group) (IsInLittleGroup (stands_for group) (wave_vector c.wave))
      (λ (p : Fin (length listed)). operation (item listed p))
  listed_numbering = numbering_of_list group (wave_vector c.wave) is.places is.are_places listed are_listed

  place_count_is : length is.places ≡ place_count c.table
  place_count_is = sym (length-map is.places read)
      ∙ same_count group (star_on has.star) (λ (p : Fin (length listed)). operation (item listed p)) listed_numbering

  place_at : (p : Fin (place_count c.table)) (d : Op)
      → operation (get_or group.ops.items (slice_index is.places (to_nat p)) d) ≡ has.star.operation p
  place_at p d =
      let here = subst (λ n. to_nat p < n) (sym place_count_is) (to_nat-lt p) in
      let inside = subst (λ n. to_nat p < n) (sym (length-map is.places read)) here in
      let j = from_nat (length listed) (to_nat p) inside in
      let e = to_nat-from_nat (length listed) (to_nat p) inside in
      ap operation (sym (are_listed.each (to_nat p) d here d))
      ∙ ap (λ n. operation (get_or listed n d)) (sym e) ∙ ap operation (sym (item-get listed j d))
      ∙ same_operations group (star_on has.star) (λ (p : Fin (length listed)). operation (item listed p)) listed_numbering j p e

  pub double_count : length t.doubles.items ≡ place_count c.table
  double_count = is.doubles.count ∙ place_count_is

  pub double_at : (p : Fin (place_count c.table)) (o : Op)
      → operation (get_or t.doubles.items (to_nat p) o) ≡ has.star.operation p ⊙ has.star.operation p
  double_at p o = is.doubles.each (to_nat p) o (subst (λ n. to_nat p < n) (sym place_count_is) (to_nat-lt p)) 0 (some_operation group)
      ∙ ap (λ (g : Operation). g ⊙ g) (place_at p (some_operation group))

module _ {X : Type 0} {V : Ghosts X} {group : Group} {k : WaveVector} {M : ℕ} {side : Side X V} {sums : List Wave}
    (g : HasArmSums group k M side sums) where
  abbrev pub both : HasSums group k k M side side sums
  both = record {
    left = g.is_side;
    right = g.is_side;
    left_divides = g.divides;
    right_divides = g.divides;
    sums = g.sums;
  }

  abbrev pub U : Star (sign_of group.phase) (stands_for group) k
  U = g.is_side.star

  abbrev pub near : (i j : Fin U.arms) → AreEquivalent (stands_for group) (get_or (waves_of sums) (to_nat i * U.arms + to_nat j) k) (U.arm i ⊕ U.arm j)
  near = near_sums both

  module _ (positive : 0 < M) (u : g.is_side.star.table.order ∣ M) (m : Fin g.is_side.list.count)
      (F : Operation → Matrix (numbers M) (times g.is_side.star.arms (g.is_side.list.size m)) (times g.is_side.star.arms (g.is_side.list.size m)))
      (full_F : IsFullOf g.is_side.star M u (over g.is_side.star.table M u (g.is_side.list.member m)) F)
      (full : Full X V) (own : g.is_side.star.table.order ∣ g.is_side.star.table.order)
      (induced : IsInduced group g.is_side.star g.is_side.star.table.order own
      (over g.is_side.star.table g.is_side.star.table.order own (g.is_side.list.member m)) full) where
    abbrev D : Representation (phases_over U.table M u) (g.is_side.list.size m)
    D = over U.table M u (g.is_side.list.member m)

    abbrev E : Representation (phases_at U.table) (g.is_side.list.size m)
    E = g.is_side.list.member m

    few : g.is_side.list.size m ≤ 48
    few = g.is_side.small m

    few_arms : U.arms ≤ 48
    few_arms = subst (λ z. z ≤ 48) g.is_side.arms.count g.is_side.arms.few

    module _ (c : StarCharacters X) (t : Meeting) (has : AreStarCharacters V.order_of V.value group M c)
        (is : IsMeeting group sums c.wave t) where
      classes_listed : AreClassesAt (symmetric_classes group U M positive u D F full_F
          (listed_wave (stands_for group) U.arm U.arm (waves_of sums) k)
          (listed_near (stands_for group) U.arm U.arm (waves_of sums) k near)) (wave_vector c.wave) t.classes.items
      classes_listed = listing_moved (sym (length-map sums wave_vector) ∙ sums_count both ∙ sym (times-mul U.arms U.arms))
          (λ (j : Fin (length sums)). AreEquivalent (stands_for group) (wave_vector c.wave) (wave_vector (item sums j)))
          (λ (x : Fin (times U.arms U.arms)). AreEquivalent (stands_for group) (wave_vector c.wave) (get_or (waves_of sums) (to_nat x) k))
          (λ i x e. subst (AreEquivalent (stands_for group) (wave_vector c.wave)) (own_wave i (to_nat x) e))
          (λ i x e. subst (AreEquivalent (stands_for group) (wave_vector c.wave)) (sym (own_wave i (to_nat x) e)))
          t.classes.items is.classes
        where
          own_wave : (i : Fin (length sums)) (x : ℕ) → to_nat i ≡ x → wave_vector (item sums i) ≡ get_or (waves_of sums) x k
          own_wave i x e = ap wave_vector (item-get sums i (item sums i))
              ∙ sym (get_or-map wave_vector sums (to_nat i) (item sums i) k (to_nat-lt i)) ∙ ap (λ z. get_or (waves_of sums) z k) e

      abbrev h : ℕ
      h = place_count c.table

      abbrev op : Fin h → Operation
      op = has.star.operation

      abbrev twice : Fin h → Operation
      twice p = has.star.operation p ⊙ has.star.operation p

      count : length t.ops.items ≡ h
      count = op_count V.order_of V.value group M sums c t has is

      at : (p : Fin h) (o : Op) → operation (get_or t.ops.items (to_nat p) o) ≡ op p
      at = op_at V.order_of V.value group M sums c t has is

      count_2 : length t.doubles.items ≡ h
      count_2 = double_count V.order_of V.value group M sums c t has is

      at_2 : (p : Fin h) (o : Op) → operation (get_or t.doubles.items (to_nat p) o) ≡ twice p
      at_2 = double_at V.order_of V.value group M sums c t has is

      module _ (arms doubles : List (Vec X Global)) (targets : List (Vec ℕ Global)) (are_arms : AreArmRows {V = V} full t.ops.items M arms)
          (are_doubles : AreArmRows {V = V} full t.doubles.items M doubles) (are_targets : AreTargetRows {V = V} full t.ops.items targets) where
        abbrev target : (i : Fin U.arms) (p : Fin h) → Fin U.arms
        target i p = (target_here group U full E own induced h op t.ops.items count is.members at targets are_targets i p 0).0

        target_is : (i : Fin U.arms) (p : Fin h) (none : ℕ) → get_or (traces_at targets (to_nat i)) (to_nat p) none ≡ to_nat (target i p)
        target_is i p none =
            let places = target_places group U full E own induced h op t.ops.items count is.members at targets are_targets i in
            get_or_default (traces_at targets (to_nat i)) (to_nat p) none 0 (subst (λ n. to_nat p < n) (sym places) (to_nat-lt p))
            ∙ sym (target_here group U full E own induced h op t.ops.items count is.members at targets are_targets i p 0).1

        abbrev own_rows : OwnRows group U M (g.is_side.list.size m) F V.order_of V.value op arms doubles targets
        own_rows = record {
          arm_count = row_count group U full E own induced h op t.ops.items count is.members at M u few F full_F arms are_arms;
          double_count = row_count group U full E own induced h twice t.doubles.items count_2 is.double_members at_2 M u few F full_F doubles are_doubles;
          target_count = target_count group U full E own induced h op t.ops.items count is.members at targets are_targets;
          arm_row = arms_here group U full E own induced h op t.ops.items count is.members at M u few F full_F arms are_arms;
          double_row = arms_here group U full E own induced h twice t.doubles.items count_2 is.double_members at_2 M u few F full_F doubles are_doubles;
          arm_small = arms_small group U full E own induced h op t.ops.items count is.members at M u few F full_F arms are_arms;
          double_small = arms_small group U full E own induced h twice t.doubles.items count_2 is.double_members at_2 M u few F full_F doubles are_doubles;
          target = target;
          taken = λ i p. (target_here group U full E own induced h op t.ops.items count is.members at targets are_targets i p 0).2;
          target_places = target_places group U full E own induced h op t.ops.items count is.members at targets are_targets;
          target_at = target_is;
        }

        pub rows_here : ClassRows V.order_of V.value M (length t.ops.items) arms arms t.classes.items
            × ReturnRows V.order_of V.value M (length t.ops.items) doubles targets t.classes.items
        rows_here = subst (λ n. ClassRows V.order_of V.value M n arms arms t.classes.items
            × ReturnRows V.order_of V.value M n doubles targets t.classes.items) (sym count) (
              product_rows group U M positive u D F full_F (waves_of sums) k near V.order_of V.value few_arms c has t.classes.items
                  classes_listed own_rows,
              return_rows group U M positive u D F full_F (waves_of sums) k near V.order_of V.value few_arms c has t.classes.items
                  classes_listed own_rows,
            )

      -- what is said of the numbers of a row, at as many places
      module _ (f : (n : ℕ) → Number n → Number n → Number n) (row : List X) (r : IsSquareRow {V = V} f M full t row) where
        Halves : ℕ → Type 0
        Halves n = (e : ClassRows V.order_of V.value M n r.arms r.arms t.classes.items)
            (s : ReturnRows V.order_of V.value M n r.doubles r.targets t.classes.items) (number : Fin n → Number M)
            → ((p : Fin n) → IsHalf M (f M (class_sum e p) (return_sum s p)) (number p)) → IsRowOf V.order_of V.value M number row

        halves : Halves h
        unfolding Halves
        halves = subst (λ n. Halves n) count r.halves

        abbrev made_rows : OwnRows group U M (g.is_side.list.size m) F V.order_of V.value op r.arms r.doubles r.targets
        made_rows = own_rows r.arms r.doubles r.targets r.are_arms r.are_doubles r.are_targets

        abbrev made_products : ClassRows V.order_of V.value M h r.arms r.arms t.classes.items
        made_products = product_rows group U M positive u D F full_F (waves_of sums) k near V.order_of V.value few_arms c has t.classes.items
            classes_listed made_rows

        abbrev made_returns : ReturnRows V.order_of V.value M h r.doubles r.targets t.classes.items
        made_returns = return_rows group U M positive u D F full_F (waves_of sums) k near V.order_of V.value few_arms c has t.classes.items
            classes_listed made_rows

        row_of_halves : (number : Fin h → Number M)
            → ((p : Fin h) → IsHalf M (f M (class_sum made_products p) (return_sum made_returns p)) (number p))
            → IsRowOf V.order_of V.value M number row
        unfolding Halves
        row_of_halves number half = halves made_products made_returns number half

      pub symmetric_here : (row : List X) → IsSquareRow {V = V} sum_of M full t row
          → IsRowAt V.order_of V.value (symmetric_classes group U M positive u D F full_F
          (listed_wave (stands_for group) U.arm U.arm (waves_of sums) k)
          (listed_near (stands_for group) U.arm U.arm (waves_of sums) k near)) c t.classes.items row
      symmetric_here row r = symmetric_row_at group U M positive u D F full_F (waves_of sums) k near V.order_of V.value few_arms c has t.classes.items
          classes_listed (made_rows sum_of row r) row (row_of_halves sum_of row r)

      pub skew_here : (row : List X) → IsSquareRow {V = V} difference_of M full t row
          → IsRowAt V.order_of V.value (skew_classes group U M positive u D F full_F
          (listed_wave (stands_for group) U.arm U.arm (waves_of sums) k)
          (listed_near (stands_for group) U.arm U.arm (waves_of sums) k near)) c t.classes.items row
      skew_here row r = skew_row_at group U M positive u D F full_F (waves_of sums) k near V.order_of V.value few_arms c has t.classes.items
          classes_listed (made_rows difference_of row r) row (row_of_halves difference_of row r)

    -- at all stars
    module _ (stars : List (StarCharacters X)) (ts : List Meeting) (s : Setting group k M side sums stars ts) (rows : List (Vec X Global)) where
      met : (i : Fin (length stars)) → to_nat i < length ts
      met i = subst (λ z. to_nat i < z) (sym s.meetings.count) (to_nat-lt i)

      meeting : Fin (length stars) → Meeting
      meeting i = get_or ts (to_nat i) (some_item ts (to_nat i) (met i))

      is_meeting : (i : Fin (length stars)) → IsMeeting group sums (get_or stars (to_nat i) (item stars i)).wave (meeting i)
      unfolding meeting
      is_meeting i = s.meetings.each (to_nat i) (some_item ts (to_nat i) (met i)) (to_nat-lt i) (item stars i)

      module _ (f : (n : ℕ) → Number n → Number n → Number n) (are : AreSquareRows {V = V} f M full ts rows) where
        as_many : length rows ≡ length stars
        as_many = are.count ∙ s.meetings.count

        -- the row at one
        row_there : (i : Fin (length stars)) → (row : List X) × (traces_at rows (to_nat i) ≡ row) × IsSquareRow {V = V} f M full (meeting i) row
        unfolding meeting
        row_there i =
            let listed : to_nat i < length rows = subst (λ z. to_nat i < z) (sym as_many) (to_nat-lt i) in
            let some = some_item rows (to_nat i) listed in (
              (get_or rows (to_nat i) some).items,
              get_or-map (λ (v : Vec X Global). v.items) rows (to_nat i) some [] listed,
              are.each (to_nat i) some (met i) (some_item ts (to_nat i) (met i)),
            )

      pub symmetric_rows_traced : AreSquareRows {V = V} sum_of M full ts rows
          → AreTraced V.order_of V.value (symmetric_representation group U M positive u D F full_F) stars rows
      symmetric_rows_traced are = symmetric_traced group U M positive u D F full_F (waves_of sums) k near (sums_count both)
          (few_rows group U g.is_side.list g.is_side.complete m) V.order_of V.value stars rows (as_many sum_of are) s.stars
          (λ i. (meeting i).classes.items) (λ i. let r = row_there sum_of are i in
          subst₂ (λ (e : StarCharacters X) xs. IsRowAt V.order_of V.value (symmetric_classes group U M positive u D F full_F
          (listed_wave (stands_for group) U.arm U.arm (waves_of sums) k)
          (listed_near (stands_for group) U.arm U.arm (waves_of sums) k near)) e (meeting i).classes.items xs)
          (sym (item-get stars i (item stars i))) (sym r.1)
          (symmetric_here (get_or stars (to_nat i) (item stars i)) (meeting i) (s.characters (to_nat i) (item stars i) (to_nat-lt i))
          (is_meeting i) r.0 r.2))

      pub skew_rows_traced : AreSquareRows {V = V} difference_of M full ts rows
          → AreTraced V.order_of V.value (skew_representation group U M positive u D F full_F) stars rows
      skew_rows_traced are = skew_traced group U M positive u D F full_F (waves_of sums) k near (sums_count both)
          (few_rows group U g.is_side.list g.is_side.complete m) V.order_of V.value stars rows (as_many difference_of are) s.stars
          (λ i. (meeting i).classes.items) (λ i. let r = row_there difference_of are i in
          subst₂ (λ (e : StarCharacters X) xs. IsRowAt V.order_of V.value (skew_classes group U M positive u D F full_F
          (listed_wave (stands_for group) U.arm U.arm (waves_of sums) k)
          (listed_near (stands_for group) U.arm U.arm (waves_of sums) k near)) e (meeting i).classes.items xs)
          (sym (item-get stars i (item stars i))) (sym r.1)
          (skew_here (get_or stars (to_nat i) (item stars i)) (meeting i) (s.characters (to_nat i) (item stars i) (to_nat-lt i))
          (is_meeting i) r.0 r.2))

-- one member
module _ {X : Type 0} {V : Ghosts X} {group : Group} {k : WaveVector} {M : ℕ} {side : Side X V} {sums : List Wave}
    {stars : List (StarCharacters X)} {ts : List Meeting} (s : Setting group k M side sums stars ts) (n : ℕ)
    (full : Full X V) (is : full ≡ get_or side.fulls.items n full) where
  abbrev A : IsSideOf group k side
  A = s.given.is_side

  abbrev own_order : A.star.table.order ∣ A.star.table.order
  own_order = Nat.dvd_refl A.star.table.order

  induced_at : (m : Fin A.list.count) → to_nat m ≡ n
      → IsInduced group A.star A.star.table.order own_order (over A.star.table A.star.table.order own_order (A.list.member m)) full
  induced_at m e = subst (IsInduced group A.star A.star.table.order own_order
      (over A.star.table A.star.table.order own_order (A.list.member m))) (ap (λ z. get_or side.fulls.items z full) e ∙ sym is)
      (A.induced own_order m full)

  module _ (inside : n < length side.fulls.items) where
    below : n < A.list.count
    below = subst (λ z. n < z) A.count inside

    abbrev m : Fin A.list.count
    m = from_nat A.list.count n below

    is_m : to_nat m ≡ n
    is_m = to_nat-from_nat A.list.count n below

    pub few_labels : n < 48
    few_labels = Nat.lt_of_lt_of_le below A.few

    pub is_full_one : IsFullRepresentation full
    is_full_one = record {
      group = group;
      wave = k;
      star = A.star;
      number = A.star.table.order;
      divides = own_order;
      size = A.list.size m;
      small = over A.star.table A.star.table.order own_order (A.list.member m);
      induced = induced_at m is_m;
    }

    pub few_dim : (x : ℕ) → ((m : Fin A.list.count) → to_nat m ≡ n → x ≡ times A.star.arms (A.list.size m)) → x ≤ 48
    few_dim x dim = subst (λ z. z ≤ 48) (sym (dim m is_m)) (few_rows group A.star A.list A.complete m)

    module _ (positive : 0 < M) where
      F : Operation → Matrix (numbers M) (times A.star.arms (A.list.size m)) (times A.star.arms (A.list.size m))
      F = full_matrices (stands_for group) (space_group group).is_group (has_canonical group) A.star M positive
          s.given.divides (over A.star.table M s.given.divides (A.list.member m))

      full_F : IsFullOf A.star M s.given.divides (over A.star.table M s.given.divides (A.list.member m)) F
      unfolding F
      full_F = full_matrices-is_full (stands_for group) (space_group group).is_group (has_canonical group) A.star M positive
          s.given.divides (over A.star.table M s.given.divides (A.list.member m))

      is_over : IsOverOrder group M full
      is_over = subst (IsOverOrder group M) (sym is) (over_order group side A M s.given.divides n full inside)

      pub rows_asked : All (HasSquareRows {V = V} M full) ts
      rows_asked i t under =
          let at : i < length stars = subst (λ z. i < z) s.meetings.count under in
          let c = some_item stars i at in
          let met = s.meetings.each i t at c in
          record {
            members = has_members group M (get_or ts i t).ops.items met.members full is_over;
            double_members = has_members group M (get_or ts i t).doubles.items met.double_members full is_over;
            rows = λ arms doubles targets are_arms are_doubles are_targets. rows_here s.given positive s.given.divides m F full_F full own_order
                (induced_at m is_m) (get_or stars i c) (get_or ts i t) (s.characters i c at) met arms doubles targets are_arms are_doubles are_targets;
          }

      pub symmetric_of_rows : (rows : List (Vec X Global)) → AreSquareRows {V = V} sum_of M full ts rows
          → (B : SpaceRepresentation) × AreTraced V.order_of V.value B stars rows
      symmetric_of_rows rows are = (
        symmetric_representation group A.star M positive s.given.divides (over A.star.table M s.given.divides (A.list.member m)) F full_F,
        symmetric_rows_traced s.given positive s.given.divides m F full_F full own_order (induced_at m is_m) stars ts s rows are,
      )

      pub skew_of_rows : (rows : List (Vec X Global)) → AreSquareRows {V = V} difference_of M full ts rows
          → (B : SpaceRepresentation) × AreTraced V.order_of V.value B stars rows
      skew_of_rows rows are = (
        skew_representation group A.star M positive s.given.divides (over A.star.table M s.given.divides (A.list.member m)) F full_F,
        skew_rows_traced s.given positive s.given.divides m F full_F full own_order (induced_at m is_m) stars ts s rows are,
      )

  -- the number of rows
  pub dim_of : (x : ℕ) → ((group : Group) (k : WaveVector) (U : Star (sign_of group.phase) (stands_for group) k) (M : ℕ)
      (v : U.table.order ∣ M) (d : ℕ) (D : Representation (phases_over U.table M v) d) → IsInduced group U M v D full → x ≡ U.arms * d)
      → (m : Fin A.list.count) → to_nat m ≡ n → x ≡ times A.star.arms (A.list.size m)
  dim_of x dim m e = dim group k A.star A.star.table.order own_order (A.list.size m)
      (over A.star.table A.star.table.order own_order (A.list.member m)) (induced_at m e) ∙ sym (times-mul A.star.arms (A.list.size m))

  pub entry_of_rows : (symmetric antisymmetric : List (Vec X Global)) → AreSquareRows {V = V} sum_of M full ts symmetric
      → AreSquareRows {V = V} difference_of M full ts antisymmetric → (p : SquareParts)
      → ((B : SpaceRepresentation) → AreTraced V.order_of V.value B stars symmetric
      → ArePartsOf (sign_of B.group.phase) (stands_for B.group) B.positive B.at (item (map part_of p.sym.items)))
      → ((B : SpaceRepresentation) → AreTraced V.order_of V.value B stars antisymmetric
      → ArePartsOf (sign_of B.group.phase) (stands_for B.group) B.positive B.at (item (map part_of p.anti.items)))
      → (x : ℕ) → ((m : Fin A.list.count) → to_nat m ≡ n → x ≡ times A.star.arms (A.list.size m))
      → p.label ≡ suc n → p.sym_dim ≡ upper x → p.anti_dim ≡ strict x → IsEntry M A n p
  entry_of_rows symmetric antisymmetric sym_rows anti_rows p sym_parts anti_parts x dim label sym_dim anti_dim = record {
    is_square = λ u m e F full_F. record {
      label = label;
      symmetric_size = sym_dim ∙ ap upper (dim m e);
      antisymmetric_size = anti_dim ∙ ap strict (dim m e);
      symmetric = λ positive. sym_parts
          (symmetric_representation group A.star M positive u (over A.star.table M u (A.list.member m)) F full_F)
          (symmetric_rows_traced s.given positive u m F full_F full own_order (induced_at m e) stars ts s symmetric sym_rows);
      antisymmetric = λ positive. anti_parts
          (skew_representation group A.star M positive u (over A.star.table M u (A.list.member m)) F full_F)
          (skew_rows_traced s.given positive u m F full_F full own_order (induced_at m e) stars ts s antisymmetric anti_rows);
    };
  }
