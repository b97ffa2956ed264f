-- The pairs of members of two lists.
--   near_sums          the listed sums are those of the arms
--   classes_listed     the numbers of the sums that are a wave vector are classes of the direct product
--   pair_rows          the rows of two members at a star
--   rows_traced        the rows of sums are those of the direct product
--   rows_asked, rows_of_representation, entry_of_rows, entry_dim     what two members need, and what is made of them
--   no_entries, one_entry, all_entries, same_entries     entries, one after another
use Rattle.std.proofs.Common.{◌≡◌, sym, ◌∙◌, ap, ap₂, subst, subst₂, refl, ℕ, suc, ◌+◌, ◌*◌, ◌/◌, ◌%◌, ◌<◌, ◌≤◌, List, [], ◌∷◌, ◌++◌, arith, suc-mul, length, get_or, map, Vec, Global}
use Rattle.std.specs.Int.{◌∣◌}
use Rattle.std.specs.List.{All}
use Rattle.std.proofs.lemmas.List.{get_or-map, get_or_default, length-map}
use Rattle.std.proofs.lemmas.Nat.{div-mul-add, mod-mul-add}
use native.Mathlib.Nat as Nat
use Rattle.irr_algebra.specs.Fin.{Fin, to_nat}
use Rattle.irr_algebra.specs.Matrix.{Matrix, ◌⊕◌, trace}
use Rattle.irr_algebra.specs.Pair.{times, pair}
use Rattle.irr_algebra.proofs.Indices.{from_nat, to_nat-from_nat, to_nat-lt, to_nat_inj}
use Rattle.irr_algebra.proofs.Pairs.{times-mul, to_nat-pair}
use Rattle.irr_number.specs.Number.{Number, numbers}
use Rattle.irr_canonical.specs.RootSum.{IsRootSum}
use Rattle.irr_theory.specs.FactorSystem.{Representation}
use Rattle.irr_space.specs.Operation.{Operation, WaveVector}
use Rattle.irr_space.specs.Reciprocal.{AreEquivalent}
use Rattle.irr_space.specs.PhaseTable.{phases_over}
use Rattle.irr_space.specs.CompleteList.{over}
use Rattle.irr_seitz.specs.PhaseMeaning.{sign_of}
use Rattle.irr_cyc.specs.declared.scalars.Scalar.{Ghosts}
use Rattle.irr_rep.specs.Twisted.{place_count}
use Rattle.irr_kvec.specs.WaveMeaning.{wave_vector}
use Rattle.irr_kvec.specs.declared.wave.Wave.{Wave}
use Rattle.irr_close.specs.StandsFor.{stands_for}
use Rattle.irr_close.specs.declared.group.Group.{Group}
use Rattle.irr_little.specs.declared.arms.Arm.{Arm}
use Rattle.irr_close.proofs.SpaceGroups.{space_group}
use Rattle.irr_little.proofs.Spaces.{has_canonical}
use Rattle.irr_full.specs.Star.{Star}
use Rattle.irr_full.specs.Parts.{ArePartsOf}
use Rattle.irr_full.proofs.FullExistence.{full_matrices, full_matrices-is_full}
use Rattle.irr_star.specs.Induced.{IsFullRepresentation, IsInduced}
use Rattle.irr_star.specs.declared.full.Full.{Full}
use Rattle.irr_mult.specs.StarParts.{part_of}
use Rattle.irr_mult.specs.declared.part.PairParts.{PairParts}
use Rattle.irr_char.specs.Characters.{IsRowOf}
use Rattle.irr_full.specs.Full.{IsFullOf, block}
use Rattle.irr_mult.specs.Classes.{AreClassesAt, IsRowAt}
use Rattle.irr_mult.specs.Listing.{IsListing, item}
use Rattle.irr_mult.specs.OrderedWaves.{waves_of}
use Rattle.irr_mult.specs.Traced.{AreStarCharacters, AreTraced, SpaceRepresentation, traces_at}
use Rattle.irr_mult.specs.declared.star.StarCharacters.{StarCharacters}
use Rattle.irr_mult.proofs.AllListings.{dimensions_add_up}
use Rattle.irr_mult.proofs.Listings.{item-get}
use Rattle.irr_product.specs.ClassRows.{ClassRows, class_sum}
use Rattle.irr_product.specs.Meetings.{AreEntries, ArePairRows, HasPairRows, HasSums, IsEntry, IsMeeting, IsPairRow, Setting}
use Rattle.irr_side.specs.Sides.{IsSideOf}
use Rattle.irr_product.specs.declared.meetings.Meeting.{Meeting}
use Rattle.irr_side.specs.declared.sides.Side.{Side}
use Rattle.irr_side.proofs.EachItems.{each_more, each_none}
use Rattle.irr_product.proofs.KroneckerClasses.{product_representation}
use Rattle.irr_product.proofs.KroneckerParts.{product_traced}
use Rattle.irr_side.proofs.MemberSizes.{few_rows}
use Rattle.irr_product.proofs.MeetingRows.{member_count, member_inside, member_row, member_small}
use Rattle.irr_product.proofs.PairRows.{class_rows, classes_here, row_at_star}
use Rattle.irr_side.proofs.SideLists.{some_item}

-- a listing of numbers of equally many places
listing_moved : {n h : ℕ} (e : n ≡ h) (P : Fin n → Type 0) (Q : Fin h → Type 0)
    → ((i : Fin n) (j : Fin h) → to_nat i ≡ to_nat j → P i → Q j) → ((i : Fin n) (j : Fin h) → to_nat i ≡ to_nat j → Q j → P i)
    → (xs : List ℕ) → IsListing to_nat P (λ (i j : Fin n). to_nat i < to_nat j) xs
    → IsListing to_nat Q (λ (i j : Fin h). to_nat i < to_nat j) xs
listing_moved {n} {h} e P Q there back xs is = record {
  index = λ t. moved (is.index t);
  is = λ t. is.is t ∙ same (is.index t);
  holds = λ t. there (is.index t) (moved (is.index t)) (same (is.index t)) (is.holds t);
  all = λ j q.
      let i = from_nat n (to_nat j) (subst (λ z. to_nat j < z) (sym e) (to_nat-lt j)) in
      let at : to_nat i ≡ to_nat j = to_nat-from_nat n (to_nat j) (subst (λ z. to_nat j < z) (sym e) (to_nat-lt j)) in
      let a = is.all i (back i j at q) in
      (a.0, to_nat_inj (moved (is.index a.0)) j (sym (same (is.index a.0)) ∙ ap to_nat a.1 ∙ at));
  ordered = λ t r l. subst₂ (λ x y. x < y) (same (is.index t)) (same (is.index r)) (is.ordered t r l);
}
  where
    moved : Fin n → Fin h
    moved i = from_nat h (to_nat i) (subst (λ z. to_nat i < z) e (to_nat-lt i))

    same : (i : Fin n) → to_nat i ≡ to_nat (moved i)
    same i = sym (to_nat-from_nat h (to_nat i) (subst (λ z. to_nat i < z) e (to_nat-lt i)))

module _ {X : Type 0} {V : Ghosts X} {group : Group} {k l : WaveVector} {M : ℕ} {left right : Side X V} {sums : List Wave}
    (g : HasSums group k l M left right sums) where
  own_count : length sums ≡ g.left.star.arms * g.right.star.arms
  own_count = g.sums.count ∙ ap₂ (λ x y. x * y) g.left.arms.count g.right.arms.count

  pub near_sums : (i : Fin g.left.star.arms) (j : Fin g.right.star.arms)
      → AreEquivalent (stands_for group) (get_or (waves_of sums) (to_nat i * g.right.star.arms + to_nat j) k)
      (g.left.star.arm i ⊕ g.right.star.arm j)
  near_sums i j =
      let li : to_nat i < length left.star.arms.items = subst (λ n. to_nat i < n) (sym g.left.arms.count) (to_nat-lt i) in
      let lj : to_nat j < length right.star.arms.items = subst (λ n. to_nat j < n) (sym g.right.arms.count) (to_nat-lt j) in
      let a : Arm = some_item left.star.arms.items (to_nat i) li in
      let n = to_nat i * g.right.star.arms + to_nat j in
      let ln : n < length sums = subst₂ (λ x y. x < y) (to_nat-pair g.right.star.arms i j)
      (times-mul g.left.star.arms g.right.star.arms ∙ sym own_count) (to_nat-lt (pair g.right.star.arms i j)) in
      let e = g.sums.sum (to_nat i) (to_nat j) a a.wave li lj in
      subst₂ (λ x y. AreEquivalent (stands_for group) x y)
      (ap (λ z. wave_vector (get_or sums (to_nat i * z + to_nat j) a.wave)) g.right.arms.count
      ∙ sym (get_or-map wave_vector sums n a.wave k ln))
      (ap₂ (λ x y. x ⊕ y) (g.left.arms.wave i a) (g.right.arms.wave j a)) e.equivalent

  pub sums_count : length (waves_of sums) ≡ g.left.star.arms * g.right.star.arms
  sums_count = length-map sums wave_vector ∙ own_count

module _ {X : Type 0} {V : Ghosts X} {group : Group} {k l : WaveVector} {M : ℕ} {left right : Side X V} {sums : List Wave}
    (g : HasSums group k l M left right sums) (positive : 0 < M)
    (u : g.left.star.table.order ∣ M) (v : g.right.star.table.order ∣ M) (m : Fin g.left.list.count) (n : Fin g.right.list.count)
    (F : Operation → Matrix (numbers M) (times g.left.star.arms (g.left.list.size m)) (times g.left.star.arms (g.left.list.size m)))
    (full_F : IsFullOf g.left.star M u (over g.left.star.table M u (g.left.list.member m)) F)
    (H : Operation → Matrix (numbers M) (times g.right.star.arms (g.right.list.size n)) (times g.right.star.arms (g.right.list.size n)))
    (full_H : IsFullOf g.right.star M v (over g.right.star.table M v (g.right.list.member n)) H) where
  abbrev D : Representation (phases_over g.left.star.table M u) (g.left.list.size m)
  D = over g.left.star.table M u (g.left.list.member m)

  abbrev E : Representation (phases_over g.right.star.table M v) (g.right.list.size n)
  E = over g.right.star.table M v (g.right.list.member n)

  module _ (c : StarCharacters X) (t : Meeting X) (has : AreStarCharacters V.order_of V.value group M c)
      (is : IsMeeting group M left.fulls.items right.fulls.items sums c.wave t) where
    classes_listed : AreClassesAt (classes_here group g.left.star g.right.star M positive u v
        D E F full_F H full_H (waves_of sums) k (near_sums g)) (wave_vector c.wave) t.classes.items
    classes_listed = listing_moved (own_count g ∙ sym (times-mul g.left.star.arms g.right.star.arms))
        (λ (j : Fin (length sums)). AreEquivalent (stands_for group) (wave_vector c.wave) (wave_vector (item sums j)))
        (λ (x : Fin (times g.left.star.arms g.right.star.arms)).
        AreEquivalent (stands_for group) (wave_vector c.wave) (get_or (waves_of sums) (to_nat x) k))
        (λ i x e. subst (AreEquivalent (stands_for group) (wave_vector c.wave)) (own_wave i (to_nat x) e))
        (λ i x e. subst (AreEquivalent (stands_for group) (wave_vector c.wave)) (sym (own_wave i (to_nat x) e)))
        t.classes.items is.classes
      where
        own_wave : (i : Fin (length sums)) (x : ℕ) → to_nat i ≡ x → wave_vector (item sums i) ≡ get_or (waves_of sums) x k
        own_wave i x e = ap wave_vector (item-get sums i (item sums i))
            ∙ sym (get_or-map wave_vector sums (to_nat i) (item sums i) k (to_nat-lt i)) ∙ ap (λ z. get_or (waves_of sums) z k) e

    few_left : g.left.star.arms ≤ 48
    few_left = subst (λ z. z ≤ 48) g.left.arms.count g.left.arms.few

    few_right : g.right.star.arms ≤ 48
    few_right = subst (λ z. z ≤ 48) g.right.arms.count g.right.arms.few

    module _ (p q : Vec (Vec X Global) Global) where
      abbrev firsts : List (Vec X Global)
      firsts = (get_or t.left.items (to_nat m) p).items

      abbrev seconds : List (Vec X Global)
      seconds = (get_or t.right.items (to_nat n) q).items

      left_count : length firsts ≡ g.left.star.arms
      left_count = member_count group left g.left M u m F full_F c has is.ops is.members is.numbering t.left.items is.left p

      right_count : length seconds ≡ g.right.star.arms
      right_count = member_count group right g.right M v n H full_H c has is.ops is.members is.numbering t.right.items is.right q

      left_row : (i : Fin g.left.star.arms) → IsRowOf V.order_of V.value M
          (λ x. trace (block (g.left.list.size m) (F (has.star.operation x)) i i)) (traces_at firsts (to_nat i))
      left_row = member_row group left g.left M u m F full_F c has is.ops is.members is.numbering t.left.items is.left p

      right_row : (j : Fin g.right.star.arms) → IsRowOf V.order_of V.value M
          (λ x. trace (block (g.right.list.size n) (H (has.star.operation x)) j j)) (traces_at seconds (to_nat j))
      right_row = member_row group right g.right M v n H full_H c has is.ops is.members is.numbering t.right.items is.right q

      left_small : (i : Fin g.left.star.arms) (x : Fin (place_count c.table))
          → IsRootSum M 48 1 (trace (block (g.left.list.size m) (F (has.star.operation x)) i i))
      left_small = member_small group left g.left M u m F full_F c has is.ops is.members is.numbering t.left.items is.left p

      right_small : (j : Fin g.right.star.arms) (x : Fin (place_count c.table))
          → IsRootSum M 48 1 (trace (block (g.right.list.size n) (H (has.star.operation x)) j j))
      right_small = member_small group right g.right M v n H full_H c has is.ops is.members is.numbering t.right.items is.right q

      rows_here : ClassRows V.order_of V.value M (place_count c.table) firsts seconds t.classes.items
      rows_here = class_rows group g.left.star g.right.star M positive u v D E F full_F H full_H (waves_of sums) k (near_sums g)
          V.order_of V.value few_left few_right c has t.classes.items classes_listed firsts seconds
          left_count right_count left_row right_row left_small right_small

      row_of_sums : (row : List X) → IsPairRow V.order_of V.value M (to_nat m) (to_nat n) c t row
          → IsRowAt V.order_of V.value (classes_here group g.left.star g.right.star M positive u v D E F full_F H full_H (waves_of sums) k (near_sums g)) c t.classes.items row
      row_of_sums row r = row_at_star group g.left.star g.right.star M positive u v D E F full_F H full_H (waves_of sums) k (near_sums g)
          V.order_of V.value few_left few_right c has t.classes.items classes_listed firsts seconds
          left_count right_count left_row right_row left_small right_small row
          (r.sums p q (class_rows group g.left.star g.right.star M positive u v D E F full_F H full_H (waves_of sums) k (near_sums g)
          V.order_of V.value few_left few_right c has t.classes.items classes_listed firsts seconds
          left_count right_count left_row right_row left_small right_small))

    pub has_pair_rows : HasPairRows V.order_of V.value M (to_nat m) (to_nat n) c t
    has_pair_rows = record {
      first = member_inside group left g.left M u m F full_F c has is.ops is.members is.numbering t.left.items is.left;
      second = member_inside group right g.right M v n H full_H c has is.ops is.members is.numbering t.right.items is.right;
      rows = rows_here;
    }

    pub row_here : (row : List X) → IsPairRow V.order_of V.value M (to_nat m) (to_nat n) c t row
        → IsRowAt V.order_of V.value (classes_here group g.left.star g.right.star M positive u v
        D E F full_F H full_H (waves_of sums) k (near_sums g)) c t.classes.items row
    row_here row r = row_of_sums
        (some_item t.left.items (to_nat m)
        (member_inside group left g.left M u m F full_F c has is.ops is.members is.numbering t.left.items is.left))
        (some_item t.right.items (to_nat n)
        (member_inside group right g.right M v n H full_H c has is.ops is.members is.numbering t.right.items is.right))
        row r

  pub rows_traced : (stars : List (StarCharacters X)) (ts : List (Meeting X)) → Setting group k l M left right sums stars ts
      → (rows : List (Vec X Global))
      → ArePairRows V.order_of V.value M (to_nat m) (to_nat n) stars ts rows
      → AreTraced V.order_of V.value (product_representation group g.left.star g.right.star M positive u v
      D E F full_F H full_H) stars rows
  rows_traced stars ts s rows are = product_traced group g.left.star g.right.star M positive u v D E F full_F H full_H (waves_of sums) k (near_sums g) (sums_count g)
      (few_rows group g.left.star g.left.list g.left.complete m) (few_rows group g.right.star g.right.list g.right.complete n)
      V.order_of V.value stars rows are.count s.stars (λ i. (meeting i).classes.items) row_at
    where
      met : (i : Fin (length stars)) → to_nat i < length ts
      met i = subst (λ z. to_nat i < z) (sym s.meetings.count) (to_nat-lt i)

      some_meeting : Fin (length stars) → Meeting X
      some_meeting i = some_item ts (to_nat i) (met i)

      meeting : Fin (length stars) → Meeting X
      meeting i = get_or ts (to_nat i) (some_meeting i)

      row_at : (i : Fin (length stars)) → IsRowAt V.order_of V.value (classes_here group g.left.star g.right.star M positive u v D E F full_F H full_H (waves_of sums) k (near_sums g)) (item stars i)
          (meeting i).classes.items (traces_at rows (to_nat i))
      row_at i =
          let c : StarCharacters X = get_or stars (to_nat i) (item stars i) in
          let listed : to_nat i < length rows = subst (λ z. to_nat i < z) (sym are.count) (to_nat-lt i) in
          let some = some_item rows (to_nat i) listed in
          subst₂ (λ (e : StarCharacters X) xs. IsRowAt V.order_of V.value (classes_here group g.left.star g.right.star M positive u v D E F full_F H full_H (waves_of sums) k (near_sums g)) e (meeting i).classes.items xs)
          (sym (item-get stars i (item stars i)))
          (sym (get_or-map (λ (v : Vec X Global). v.items) rows (to_nat i) some [] listed))
          (row_here c (meeting i) (s.characters (to_nat i) (item stars i) (to_nat-lt i))
          (s.meetings.each (to_nat i) (some_meeting i) (to_nat-lt i) (item stars i))
          (get_or rows (to_nat i) some).items (are.each (to_nat i) some (to_nat-lt i) (item stars i) (some_meeting i)))

-- what two members need, and what is made of them
module _ {X : Type 0} {V : Ghosts X} {group : Group} {k l : WaveVector} {M : ℕ} {left right : Side X V} {sums : List Wave}
    {stars : List (StarCharacters X)} {ts : List (Meeting X)} (s : Setting group k l M left right sums stars ts)
    (a b : ℕ) where
  module _ (positive : 0 < M) (in_left : a < length left.fulls.items) (in_right : b < length right.fulls.items) where
    left_below : a < s.given.left.list.count
    left_below = subst (λ z. a < z) s.given.left.count in_left

    right_below : b < s.given.right.list.count
    right_below = subst (λ z. b < z) s.given.right.count in_right

    abbrev m : Fin s.given.left.list.count
    m = from_nat s.given.left.list.count a left_below

    abbrev n : Fin s.given.right.list.count
    n = from_nat s.given.right.list.count b right_below

    is_m : to_nat m ≡ a
    is_m = to_nat-from_nat s.given.left.list.count a left_below

    is_n : to_nat n ≡ b
    is_n = to_nat-from_nat s.given.right.list.count b right_below

    F : Operation → Matrix (numbers M) (times s.given.left.star.arms (s.given.left.list.size m))
        (times s.given.left.star.arms (s.given.left.list.size m))
    F = full_matrices (stands_for group) (space_group group).is_group (has_canonical group) s.given.left.star M positive
        s.given.left_divides (over s.given.left.star.table M s.given.left_divides (s.given.left.list.member m))

    full_F : IsFullOf s.given.left.star M s.given.left_divides
        (over s.given.left.star.table M s.given.left_divides (s.given.left.list.member m)) F
    unfolding F
    full_F = full_matrices-is_full (stands_for group) (space_group group).is_group (has_canonical group) s.given.left.star M positive
        s.given.left_divides (over s.given.left.star.table M s.given.left_divides (s.given.left.list.member m))

    H : Operation → Matrix (numbers M) (times s.given.right.star.arms (s.given.right.list.size n))
        (times s.given.right.star.arms (s.given.right.list.size n))
    H = full_matrices (stands_for group) (space_group group).is_group (has_canonical group) s.given.right.star M positive
        s.given.right_divides (over s.given.right.star.table M s.given.right_divides (s.given.right.list.member n))

    full_H : IsFullOf s.given.right.star M s.given.right_divides
        (over s.given.right.star.table M s.given.right_divides (s.given.right.list.member n)) H
    unfolding H
    full_H = full_matrices-is_full (stands_for group) (space_group group).is_group (has_canonical group) s.given.right.star M positive
        s.given.right_divides (over s.given.right.star.table M s.given.right_divides (s.given.right.list.member n))

    pub rows_asked : (i : ℕ) (c : StarCharacters X) (t : Meeting X) → i < length stars
        → HasPairRows V.order_of V.value M a b (get_or stars i c) (get_or ts i t)
    rows_asked i c t below = subst₂ (λ x y. HasPairRows V.order_of V.value M x y (get_or stars i c) (get_or ts i t)) is_m is_n
        (has_pair_rows s.given positive s.given.left_divides s.given.right_divides m n F full_F H full_H
        (get_or stars i c) (get_or ts i t) (s.characters i c below) (s.meetings.each i t below c))

    pub rows_of_representation : (rows : List (Vec X Global)) → ArePairRows V.order_of V.value M a b stars ts rows
        → (A : SpaceRepresentation) × AreTraced V.order_of V.value A stars rows
    rows_of_representation rows are = (
      product_representation group s.given.left.star s.given.right.star M positive s.given.left_divides s.given.right_divides
          (over s.given.left.star.table M s.given.left_divides (s.given.left.list.member m))
          (over s.given.right.star.table M s.given.right_divides (s.given.right.list.member n)) F full_F H full_H,
      rows_traced s.given positive s.given.left_divides s.given.right_divides m n F full_F H full_H stars ts s rows
          (subst₂ (λ x y. ArePairRows V.order_of V.value M x y stars ts rows) (sym is_m) (sym is_n) are),
    )

  pub entry_of_rows : 0 < M → (rows : List (Vec X Global)) → ArePairRows V.order_of V.value M a b stars ts rows → (p : PairParts)
      → ((A : SpaceRepresentation) → AreTraced V.order_of V.value A stars rows
      → ArePartsOf (sign_of A.group.phase) (stands_for A.group) A.positive A.at (item (map part_of p.parts.items)))
      → p.a ≡ suc a → p.b ≡ suc b
      → ((m : Fin s.given.left.list.count) (n : Fin s.given.right.list.count) → to_nat m ≡ a → to_nat n ≡ b
      → p.dim ≡ times s.given.left.star.arms (s.given.left.list.size m) * times s.given.right.star.arms (s.given.right.list.size n))
      → IsEntry M s.given.left s.given.right a b p
  entry_of_rows positive rows are p parts first second dim = record {
    is_pair = λ u v m n e f F full_F H full_H. record {
      first = first;
      second = second;
      dim = dim m n e f;
      parts = λ above. parts
          (product_representation group s.given.left.star s.given.right.star M above u v
          (over s.given.left.star.table M u (s.given.left.list.member m))
          (over s.given.right.star.table M v (s.given.right.list.member n)) F full_F H full_H)
          (rows_traced s.given above u v m n F full_F H full_H stars ts s rows
          (subst₂ (λ x y. ArePairRows V.order_of V.value M x y stars ts rows) (sym e) (sym f) are));
      adds_up =
          let A = product_representation group s.given.left.star s.given.right.star M positive u v
          (over s.given.left.star.table M u (s.given.left.list.member m))
          (over s.given.right.star.table M v (s.given.right.list.member n)) F full_F H full_H in
          let t = rows_traced s.given positive u v m n F full_F H full_H stars ts s rows
          (subst₂ (λ x y. ArePairRows V.order_of V.value M x y stars ts rows) (sym e) (sym f) are) in
          dimensions_add_up V.order_of V.value A stars rows t (item (map part_of p.parts.items)) (parts A t)
          ∙ times-mul (times s.given.left.star.arms (s.given.left.list.size m)) (times s.given.right.star.arms (s.given.right.list.size n))
          ∙ sym (dim m n e f);
    };
  }

  -- the number of rows, from those of both full representations
  pub entry_dim : (x y : ℕ) (p : Full X V) (q : Full X V) → a < length left.fulls.items → b < length right.fulls.items
      → p ≡ get_or left.fulls.items a p → q ≡ get_or right.fulls.items b q
      → ((group : Group) (k : WaveVector) (U : Star (sign_of group.phase) (stands_for group) k) (M : ℕ) (v : U.table.order ∣ M)
      (d : ℕ) (D : Representation (phases_over U.table M v) d) → IsInduced group U M v D p → x ≡ U.arms * d)
      → ((group : Group) (k : WaveVector) (U : Star (sign_of group.phase) (stands_for group) k) (M : ℕ) (v : U.table.order ∣ M)
      (d : ℕ) (D : Representation (phases_over U.table M v) d) → IsInduced group U M v D q → y ≡ U.arms * d)
      → (m : Fin s.given.left.list.count) (n : Fin s.given.right.list.count) → to_nat m ≡ a → to_nat n ≡ b
      → x * y ≡ times s.given.left.star.arms (s.given.left.list.size m) * times s.given.right.star.arms (s.given.right.list.size n)
  entry_dim x y p q in_left in_right is_p is_q dim_p dim_q m n e f = ap₂ (λ z w. z * w)
      (dim_p group k s.given.left.star s.given.left.star.table.order (Nat.dvd_refl s.given.left.star.table.order) (s.given.left.list.size m)
      (over s.given.left.star.table s.given.left.star.table.order (Nat.dvd_refl s.given.left.star.table.order) (s.given.left.list.member m))
      (subst (IsInduced group s.given.left.star s.given.left.star.table.order (Nat.dvd_refl s.given.left.star.table.order)
      (over s.given.left.star.table s.given.left.star.table.order (Nat.dvd_refl s.given.left.star.table.order) (s.given.left.list.member m)))
      (ap (λ z. get_or left.fulls.items z p) e ∙ sym is_p)
      (s.given.left.induced (Nat.dvd_refl s.given.left.star.table.order) m p)) ∙ sym (times-mul s.given.left.star.arms (s.given.left.list.size m)))
      (dim_q group l s.given.right.star s.given.right.star.table.order (Nat.dvd_refl s.given.right.star.table.order) (s.given.right.list.size n)
      (over s.given.right.star.table s.given.right.star.table.order (Nat.dvd_refl s.given.right.star.table.order) (s.given.right.list.member n))
      (subst (IsInduced group s.given.right.star s.given.right.star.table.order (Nat.dvd_refl s.given.right.star.table.order)
      (over s.given.right.star.table s.given.right.star.table.order (Nat.dvd_refl s.given.right.star.table.order) (s.given.right.list.member n)))
      (ap (λ z. get_or right.fulls.items z q) f ∙ sym is_q)
      (s.given.right.induced (Nat.dvd_refl s.given.right.star.table.order) n q)) ∙ sym (times-mul s.given.right.star.arms (s.given.right.list.size n)))

  module _ (in_left : a < length left.fulls.items) where
    pub left_few : a < 48
    left_few = Nat.lt_of_lt_of_le (subst (λ z. a < z) s.given.left.count in_left) s.given.left.few

    pub left_is_full : (p : Full X V) → p ≡ get_or left.fulls.items a p → IsFullRepresentation p
    left_is_full p is =
        let m = from_nat s.given.left.list.count a (subst (λ z. a < z) s.given.left.count in_left) in
        let e = to_nat-from_nat s.given.left.list.count a (subst (λ z. a < z) s.given.left.count in_left) in
        let v = Nat.dvd_refl s.given.left.star.table.order in
        record {
          group = group;
          wave = k;
          star = s.given.left.star;
          number = s.given.left.star.table.order;
          divides = v;
          size = s.given.left.list.size m;
          small = over s.given.left.star.table s.given.left.star.table.order v (s.given.left.list.member m);
          induced = subst (IsInduced group s.given.left.star s.given.left.star.table.order v
              (over s.given.left.star.table s.given.left.star.table.order v (s.given.left.list.member m)))
              (ap (λ z. get_or left.fulls.items z p) e ∙ sym is) (s.given.left.induced v m p);
        }

  module _ (in_right : b < length right.fulls.items) where
    pub right_few : b < 48
    right_few = Nat.lt_of_lt_of_le (subst (λ z. b < z) s.given.right.count in_right) s.given.right.few

    pub right_is_full : (q : Full X V) → q ≡ get_or right.fulls.items b q → IsFullRepresentation q
    right_is_full q is =
        let n = from_nat s.given.right.list.count b (subst (λ z. b < z) s.given.right.count in_right) in
        let e = to_nat-from_nat s.given.right.list.count b (subst (λ z. b < z) s.given.right.count in_right) in
        let v = Nat.dvd_refl s.given.right.star.table.order in
        record {
          group = group;
          wave = l;
          star = s.given.right.star;
          number = s.given.right.star.table.order;
          divides = v;
          size = s.given.right.list.size n;
          small = over s.given.right.star.table s.given.right.star.table.order v (s.given.right.list.member n);
          induced = subst (IsInduced group s.given.right.star s.given.right.star.table.order v
              (over s.given.right.star.table s.given.right.star.table.order v (s.given.right.list.member n)))
              (ap (λ z. get_or right.fulls.items z q) e ∙ sym is) (s.given.right.induced v n q);
        }

  pub few_dim : (x y : ℕ) → a < length left.fulls.items → b < length right.fulls.items
      → ((m : Fin s.given.left.list.count) (n : Fin s.given.right.list.count) → to_nat m ≡ a → to_nat n ≡ b
      → x * y ≡ times s.given.left.star.arms (s.given.left.list.size m) * times s.given.right.star.arms (s.given.right.list.size n))
      → x * y ≤ 2304
  few_dim x y in_left in_right dim =
      let la = subst (λ z. a < z) s.given.left.count in_left in
      let lb = subst (λ z. b < z) s.given.right.count in_right in
      let m = from_nat s.given.left.list.count a la in
      let n = from_nat s.given.right.list.count b lb in
      subst (λ z. z ≤ 2304) (sym (dim m n (to_nat-from_nat s.given.left.list.count a la) (to_nat-from_nat s.given.right.list.count b lb)))
      (Nat.mul-le-mul (few_rows group s.given.left.star s.given.left.list s.given.left.complete m)
      (few_rows group s.given.right.star s.given.right.list s.given.right.complete n))

-- entries, one after another
module _ {X : Type 0} {V : Ghosts X} {group : Group} {k l : WaveVector} {M : ℕ} {left right : Side X V}
    (A : IsSideOf group k left) (B : IsSideOf group l right) where
  pub no_entries : (ps : List PairParts) → ps ≡ [] → AreEntries M A B (0 * length right.fulls.items) ps
  no_entries ps e = subst (λ n. AreEntries M A B n ps) (sym (Nat.zero-mul (length right.fulls.items)))
      (each_none (λ i p. (a b : ℕ) → b < length right.fulls.items → i ≡ a * length right.fulls.items + b → IsEntry M A B a b p) ps e)

  pub same_entries : (n m : ℕ) (ps : List PairParts) → n ≡ m → AreEntries M A B n ps → AreEntries M A B m ps
  same_entries n m ps e h = subst (λ z. AreEntries M A B z ps) e h

  pub one_entry : (a b : ℕ) → b < length right.fulls.items → (ps after : List PairParts) (p : PairParts) → after ≡ ps ++ p ∷ []
      → AreEntries M A B (a * length right.fulls.items + b) ps → IsEntry M A B a b p
      → AreEntries M A B (a * length right.fulls.items + (b + 1)) after
  one_entry a b below ps after p e made is = same_entries (a * length right.fulls.items + b + 1)
      (a * length right.fulls.items + (b + 1)) after (omega arith)
      (each_more (λ i p. (a b : ℕ) → b < length right.fulls.items → i ≡ a * length right.fulls.items + b → IsEntry M A B a b p)
      (a * length right.fulls.items + b) ps after p e made (λ c d inside same.
      let parts = same_numbers (length right.fulls.items) a b c d below inside same in
      subst₂ (λ x y. IsEntry M A B x y p) parts.0 parts.1 is))
    where
      same_numbers : (n a b c d : ℕ) → b < n → d < n → a * n + b ≡ c * n + d → (a ≡ c) × (b ≡ d)
      same_numbers n a b c d m o e = (
        sym (div-mul-add a n b m) ∙ ap (λ z. z / n) e ∙ div-mul-add c n d o,
        sym (mod-mul-add a n b m) ∙ ap (λ z. z % n) e ∙ mod-mul-add c n d o,
      )

  pub all_entries : (a b : ℕ) → b ≡ length right.fulls.items → (ps : List PairParts)
      → AreEntries M A B (a * length right.fulls.items + b) ps → AreEntries M A B ((a + 1) * length right.fulls.items) ps
  all_entries a b e ps h = same_entries (a * length right.fulls.items + b) ((a + 1) * length right.fulls.items) ps
      (ap (λ z. a * length right.fulls.items + z) e ∙ sym (suc-mul a (length right.fulls.items))
      ∙ ap (λ z. z * length right.fulls.items) (let next : suc a ≡ a + 1 = omega arith in next)) h

-- the row at one star, as it is made
module _ {X : Type 0} (order : X → ℕ) (value : (n : ℕ) → X → Number n) (M a b : ℕ) (c : StarCharacters X) (t : Meeting X)
    (places : ℕ) (as_many : places ≡ place_count c.table) (p q : Vec (Vec X Global) Global)
    (is_p : p ≡ get_or t.left.items a p) (is_q : q ≡ get_or t.right.items b q) (firsts seconds : List (Vec X Global))
    (is_firsts : firsts ≡ p.items) (is_seconds : seconds ≡ q.items) (classes : List ℕ)
    (is_classes : classes ≡ t.classes.items) where
  -- what is made of the rows
  abbrev Made : List X → ℕ → List (Vec X Global) → List (Vec X Global) → List ℕ → Type 0
  Made row h ls rs cs = (e : ClassRows order value M h ls rs cs) → IsRowOf order value M (class_sum e) row

  pub own_rows : HasPairRows order value M a b c t → ClassRows order value M places firsts seconds classes
  own_rows h = subst (λ z. ClassRows order value M z firsts seconds classes) (sym as_many)
      (subst₂ (λ x y. ClassRows order value M (place_count c.table) x y classes)
      (sym (is_firsts ∙ ap (λ (v : Vec (Vec X Global) Global). v.items) is_p)) (sym (is_seconds ∙ ap (λ (v : Vec (Vec X Global) Global). v.items) is_q))
      (subst (λ z. ClassRows order value M (place_count c.table) (get_or t.left.items a p).items (get_or t.right.items b q).items z)
      (sym is_classes) (h.rows p q)))

  pub own_row : a < length t.left.items → b < length t.right.items → (row : List X)
      → ((e : ClassRows order value M places firsts seconds classes) → IsRowOf order value M (class_sum e) row)
      → IsPairRow order value M a b c t row
  own_row la lb row made = record {
    sums = λ v w. subst₂ (λ x y. Made row (place_count c.table) x y t.classes.items)
        (is_firsts ∙ ap (λ (z : Vec (Vec X Global) Global). z.items) (is_p ∙ get_or_default t.left.items a p v la))
        (is_seconds ∙ ap (λ (z : Vec (Vec X Global) Global). z.items) (is_q ∙ get_or_default t.right.items b q w lb))
        (subst (λ z. Made row (place_count c.table) firsts seconds z) is_classes (subst (λ z. Made row z firsts seconds classes) as_many made));
  }
