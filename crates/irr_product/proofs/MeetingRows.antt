-- The rows of one side at a star.
--   has_members, all_members       full representations of the group have its operations
--   member_count                   as many rows as arms
--   member_row, member_small       each has the traces of the blocks of its arm, sums of at most 48 powers of z
use Rattle.std.proofs.Common.{◌≡◌, sym, ◌∙◌, ap, subst, refl, ℕ, ◌<◌, ◌≤◌, List, [], length, get_or, map, Vec, Global}
use Rattle.std.specs.Int.{◌∣◌}
use Rattle.std.specs.List.{All}
use Rattle.std.proofs.lemmas.List.{get_or-map}
use native.Mathlib.Nat as Nat
use Rattle.irr_algebra.specs.Fin.{Fin, to_nat}
use Rattle.irr_algebra.specs.Matrix.{Matrix, trace}
use Rattle.irr_algebra.specs.Pair.{times}
use Rattle.irr_algebra.proofs.Indices.{from_nat, to_nat-from_nat, to_nat-lt}
use Rattle.irr_number.specs.Number.{numbers}
use Rattle.irr_canonical.specs.RootSum.{IsRootSum}
use Rattle.irr_canonical.proofs.RootSums.{IsRootSum-more}
use Rattle.irr_space.specs.Operation.{Operation, WaveVector}
use Rattle.irr_space.specs.CanonicalOperation.{IsNumbering}
use Rattle.irr_space.specs.Star.{IsInLittleGroup}
use Rattle.irr_space.specs.CompleteList.{over}
use Rattle.irr_seitz.specs.OperationMeaning.{operation}
use Rattle.irr_seitz.specs.declared.op.Op.{Op}
use Rattle.irr_cyc.specs.declared.scalars.Scalar.{Ghosts}
use Rattle.irr_rep.specs.Twisted.{place_count}
use Rattle.irr_kvec.specs.WaveMeaning.{wave_vector}
use Rattle.irr_close.specs.StandsFor.{stands_for}
use Rattle.irr_close.specs.declared.group.Group.{Group}
use Rattle.irr_char.specs.Characters.{IsRowOf}
use Rattle.irr_full.specs.Full.{IsFullOf, block}
use Rattle.irr_star.specs.Induced.{IsInduced}
use Rattle.irr_star.specs.declared.full.Full.{Full}
use Rattle.irr_star.proofs.MemberSizes.{member_same}
use Rattle.irr_mult.specs.Listing.{item}
use Rattle.irr_mult.specs.Traced.{AreStarCharacters, star_on, traces_at}
use Rattle.irr_mult.specs.declared.star.StarCharacters.{StarCharacters}
use Rattle.irr_mult.proofs.Listings.{item-get}
use Rattle.irr_mult.proofs.StarFacts.{some_operation}
use Rattle.irr_side.specs.ArmTraces.{AreArmRows, AreMembers, AreTables, HasMembers}
use Rattle.irr_product.specs.Meetings.{IsOverOrder}
use Rattle.irr_side.specs.Sides.{IsSideOf}
use Rattle.irr_side.specs.declared.sides.Side.{Side}
use Rattle.irr_side.proofs.LittleOperations.{same_count, same_operations}
use Rattle.irr_product.proofs.RowItems.{row_of_each}
use Rattle.irr_side.proofs.SideLists.{some_item}

module _ {X : Type 0} {V : Ghosts X} (group : Group) (M : ℕ) (ops : List Op) (members : AreMembers group ops) where
  pub has_members : (full : Full X V) → IsOverOrder group M full → HasMembers M ops full
  has_members full o = record {
    induced = o.induced;
    members = λ n d l. (member_same group full.group o.same (operation (get_or ops n d)) (members n d l).0, (members n d l).1);
    divides = o.divides;
  }

  pub all_members : (fulls : List (Full X V)) → All (IsOverOrder group M) fulls → All (HasMembers M ops) fulls
  all_members fulls are n d l = has_members (get_or fulls n d) (are n d l)

module _ {X : Type 0} {V : Ghosts X} (group : Group) {k : WaveVector} (side : Side X V) (A : IsSideOf group k side) (M : ℕ)
    (u : A.star.table.order ∣ M) (m : Fin A.list.count)
    (F : Operation → Matrix (numbers M) (times A.star.arms (A.list.size m)) (times A.star.arms (A.list.size m)))
    (full_F : IsFullOf A.star M u (over A.star.table M u (A.list.member m)) F)
    (c : StarCharacters X) (has : AreStarCharacters V.order_of V.value group M c) (ops : List Op)
    (members : AreMembers group ops)
    (numbering : IsNumbering (stands_for group) (IsInLittleGroup (stands_for group) (wave_vector c.wave))
    (λ (p : Fin (length ops)). operation (item ops p)))
    (tabs : List (Vec (Vec X Global) Global)) (tables : AreTables {V = V} side.fulls.items ops M tabs) where
  inside : to_nat m < length side.fulls.items
  inside = subst (λ n. to_nat m < n) (sym A.count) (to_nat-lt m)

  pub member_inside : to_nat m < length tabs
  member_inside = subst (λ n. to_nat m < n) (sym tables.count) inside

  places : length ops ≡ place_count c.table
  places = same_count group (star_on has.star) (λ (p : Fin (length ops)). operation (item ops p)) numbering

  own : Full X V
  own = some_item side.fulls.items (to_nat m) inside

  abbrev full : Full X V
  full = get_or side.fulls.items (to_nat m) own

  induced : IsInduced group A.star A.star.table.order (Nat.dvd_refl A.star.table.order)
      (over A.star.table A.star.table.order (Nat.dvd_refl A.star.table.order) (A.list.member m)) full
  induced = A.induced (Nat.dvd_refl A.star.table.order) m own

  module _ (rows : Vec (Vec X Global) Global) where
    abbrev table : List (Vec X Global)
    table = (get_or tabs (to_nat m) rows).items

    is_table : AreArmRows {V = V} full ops M table
    is_table = tables.each (to_nat m) rows inside own

    arms : length full.arms.items ≡ A.star.arms
    arms = induced.arms.count

    pub member_count : length table ≡ A.star.arms
    member_count = is_table.count ∙ arms

    module _ (i : Fin A.star.arms) where
      arm_inside : to_nat i < length full.arms.items
      arm_inside = subst (λ n. to_nat i < n) (sym arms) (to_nat-lt i)

      listed : to_nat i < length table
      listed = subst (λ n. to_nat i < n) (sym is_table.count) arm_inside

      some_row : Vec X Global
      some_row = some_item table (to_nat i) listed

      abbrev row : List X
      row = (get_or table (to_nat i) some_row).items

      is_row : traces_at table (to_nat i) ≡ row
      is_row = get_or-map (λ (v : Vec X Global). v.items) table (to_nat i) some_row [] listed

      row_count : length row ≡ place_count c.table
      row_count = (is_table.each (to_nat i) some_row arm_inside).count ∙ places

      module _ (p : Fin (place_count c.table)) where
        op_inside : to_nat p < length ops
        op_inside = subst (λ n. to_nat p < n) (sym places) (to_nat-lt p)

        abbrev some : Op
        some = some_operation group

        same_op : operation (get_or ops (to_nat p) some) ≡ has.star.operation p
        same_op =
            let j = from_nat (length ops) (to_nat p) op_inside in
            let e = to_nat-from_nat (length ops) (to_nat p) op_inside in
            ap (λ n. operation (get_or ops n some)) (sym e) ∙ ap operation (sym (item-get ops j some))
            ∙ same_operations group (star_on has.star) (λ (p : Fin (length ops)). operation (item ops p)) numbering j p e

        trace_here : (x : X) → (V.order_of (get_or row (to_nat p) x) ≡ M)
            × (V.value M (get_or row (to_nat p) x) ≡ trace (block (A.list.size m) (F (has.star.operation p)) i i))
            × IsRootSum M 48 1 (trace (block (A.list.size m) (F (has.star.operation p)) i i))
        trace_here x =
            let r = (is_table.each (to_nat i) some_row arm_inside).each (to_nat p) x op_inside some in
            let t = r.trace_at group k A.star (Nat.dvd_refl A.star.table.order) u (A.list.size m) (A.list.member m) induced
            (members (to_nat p) some op_inside).0 F full_F i refl in (
              r.order,
              subst (λ g. V.value M (get_or row (to_nat p) x) ≡ trace (block (A.list.size m) (F g) i i)) same_op t.0,
              subst (λ g. IsRootSum M 48 1 (trace (block (A.list.size m) (F g) i i))) same_op
                  (IsRootSum-more M 48 (A.small m) t.1),
            )

        pub member_small : IsRootSum M 48 1 (trace (block (A.list.size m) (F (has.star.operation p)) i i))
        member_small = (trace_here (some_item row (to_nat p) (subst (λ n. to_nat p < n) (sym row_count) (to_nat-lt p)))).2

      at_number : (n : ℕ) (l : n < place_count c.table) → to_nat (from_nat (place_count c.table) n l) ≡ n
      at_number n l = to_nat-from_nat (place_count c.table) n l

      pub member_row : IsRowOf V.order_of V.value M (λ p. trace (block (A.list.size m) (F (has.star.operation p)) i i))
          (traces_at table (to_nat i))
      member_row = subst (IsRowOf V.order_of V.value M (λ p. trace (block (A.list.size m) (F (has.star.operation p)) i i))) (sym is_row)
          (row_of_each V.order_of V.value M (place_count c.table)
          (λ p. trace (block (A.list.size m) (F (has.star.operation p)) i i)) row row_count
          (λ n x l. subst (λ j. V.order_of (get_or row j x) ≡ M) (at_number n l) (trace_here (from_nat (place_count c.table) n l) x).0)
          (λ n x l p e. subst (λ j. V.value M (get_or row j x) ≡ trace (block (A.list.size m) (F (has.star.operation p)) i i)) e
          (trace_here p x).1))
