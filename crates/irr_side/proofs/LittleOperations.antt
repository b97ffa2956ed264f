-- The canonical operations of a little group, as a list.
--   place_inside           the listed numbers are those of operations
--   read_there             what is read there, whatever the default
--   listed                 the operations with listed numbers
--   members_of_group       they are operations of the group with small vectors
--   members_in_cell        no component of which is above 1
--   numbering_of_list      and a numbering of the little group
--   same_operations        two numberings of a little group have the same operations, in the same order
use Rattle.std.proofs.Common.{◌≡◌, sym, ◌∙◌, ap, subst, subst₂, refl, ℕ, zero, suc, ◌*◌, ◌<◌, ◌≤◌, inl, inr, List, length, get_or, slice_index, unsigned_abs, le_antisymm, arith}
use Rattle.std.proofs.lemmas.Bool.{cases_lt}
use Rattle.std.proofs.lemmas.List.{get_or_default}
use Rattle.std.proofs.lemmas.List.Elements.{Contains-get_or}
use Rattle.std.specs.List.{All}
use native.Mathlib.Nat as Nat
use Rattle.irr_algebra.specs.Fin.{Fin, to_nat}
use Rattle.irr_algebra.proofs.Indices.{from_nat, to_nat-from_nat, to_nat-lt, to_nat_inj}
use Rattle.irr_space.specs.Operation.{Operation, WaveVector}
use Rattle.irr_space.specs.CanonicalOperation.{IsCanonicalOperation, IsNumberedBefore, IsNumbering}
use Rattle.irr_space.specs.Star.{IsInLittleGroup}
use Rattle.irr_rational.specs.Ratio.{entry}
use Rattle.irr_seitz.specs.OperationMeaning.{operation}
use Rattle.irr_seitz.specs.PhaseMeaning.{sign_of}
use Rattle.irr_seitz.specs.declared.op.Op.{Op}
use Rattle.irr_cocycle.proofs.LittleGroups.{little_subgroup, little_table, little_table-is_table}
use Rattle.irr_close.specs.StandsFor.{stands_for}
use Rattle.irr_close.specs.declared.group.Group.{Group}
use Rattle.irr_close.proofs.SpaceGroups.{space_group}
use Rattle.irr_little.specs.Places.{AreLittlePlaces}
use Rattle.irr_little.specs.Table.{listed_operations}
use Rattle.irr_little.proofs.Spaces.{canonical_at, has_canonical}
use Rattle.irr_little.proofs.SubgroupTables.{listed_numbering}
use Rattle.irr_little.proofs.Tables.{listed_places}
use Rattle.irr_full.specs.Star.{Star}
use Rattle.irr_full.proofs.SameStars.{increasing, place_in, place_in-is, there_back}
use Rattle.irr_star.proofs.MemberSizes.{cell_sizes}
use Rattle.irr_mult.specs.Listing.{item}
use Rattle.irr_mult.proofs.Listings.{item-get}
use Rattle.irr_mult.proofs.StarFacts.{some_operation}
use Rattle.irr_side.specs.ArmTraces.{AreEach, AreMembers, HasCellVector}

-- a numbering moves along equal operations
numbering_same : (G P : Operation → Type 0) {m n : ℕ} (f : Fin m → Operation) (g : Fin n → Operation)
    → ((i : Fin m) → (j : Fin n) × (to_nat j ≡ to_nat i) × (g j ≡ f i)) → ((j : Fin n) → (i : Fin m) × (to_nat j ≡ to_nat i) × (g j ≡ f i))
    → IsNumbering G P g → IsNumbering G P f
numbering_same G P f g there back is = record {
  canonical = λ i. let t = there i in subst (IsCanonicalOperation G) t.2 (is.canonical t.0);
  member = λ i. let t = there i in subst P t.2 (is.member t.0);
  all = λ x c p. let u = is.all x c p in let b = back u.0 in (b.0, sym b.2 ∙ u.1);
  ordered = λ i j l.
      let s = there i in
      let t = there j in
      let less : to_nat s.0 < to_nat t.0 = subst₂ (λ a b. a < b) (sym s.1) (sym t.1) l in
      subst₂ (λ (x y : Operation). IsNumberedBefore x.rotation y.rotation) s.2 t.2 (is.ordered s.0 t.0 less);
}

-- the number of an operation, and the operation read there
pub place_inside : (group : Group) (k : WaveVector) (xs : List ℕ) → AreLittlePlaces group k xs → (n : ℕ) → n < length xs
    → slice_index xs n < length group.ops.items
place_inside group k xs places n l = places.below (slice_index xs n) (Contains-get_or xs n 0 l)

pub read_there : (group : Group) (k : WaveVector) (xs : List ℕ) → AreLittlePlaces group k xs → (ops : List Op) → ops ≡ group.ops.items
    → (n : ℕ) → n < length xs → (o : Op) → o ≡ get_or ops (slice_index xs n) o → (d : Op) → o ≡ get_or group.ops.items (slice_index xs n) d
read_there group k xs places ops same n l o is d = is ∙ ap (λ os. get_or os (slice_index xs n) o) same
    ∙ get_or_default group.ops.items (slice_index xs n) o d (place_inside group k xs places n l)

module _ (group : Group) (k : WaveVector) (xs : List ℕ) (places : AreLittlePlaces group k xs) (ops : List Op)
    (made : AreEach (λ n (o : Op). (d : Op) → o ≡ get_or group.ops.items (slice_index xs n) d) (length xs) ops) where
  pub members_of_group : AreMembers group ops
  members_of_group n d l =
      let m : n < length xs = subst (λ z. n < z) made.count l in
      let o = get_or group.ops.items (slice_index xs n) d in
      let c = canonical_at group d (slice_index xs n) (place_inside group k xs places n m) in
      subst (λ (x : Op). stands_for group (operation x) × ((i : Fin 3) → unsigned_abs (entry x.num i) ≤ 100000 * x.den))
      (sym (made.each n d m d)) (c.member, λ i. Nat.le_trans (cell_sizes o c.in_cell i) (Nat.mul-le-mul_right o.den (omega arith)))

  pub members_in_cell : All HasCellVector ops
  members_in_cell n d l =
      let m : n < length xs = subst (λ z. n < z) made.count l in
      let o = get_or group.ops.items (slice_index xs n) d in
      let c = canonical_at group d (slice_index xs n) (place_inside group k xs places n m) in
      subst HasCellVector (sym (made.each n d m d)) (λ i. let e = cell_sizes o c.in_cell i in omega (arith, e))

  pub numbering_of_list : IsNumbering (stands_for group) (IsInLittleGroup (stands_for group) k) (λ (p : Fin (length ops)). operation (item ops p))
  numbering_of_list = numbering_same (stands_for group) (IsInLittleGroup (stands_for group) k) (λ p. operation (item ops p)) listed there back
      (listed_numbering group (space_group group) k (IsInLittleGroup (stands_for group) k)
      (little_subgroup (stands_for group) (space_group group).is_group k) xs (listed_places group k xs places) (length xs) refl d)
    where
      d : Op
      d = some_operation group

      listed : Fin (length xs) → Operation
      listed = listed_operations group (length xs) xs d

      same : (p : Fin (length ops)) (j : Fin (length xs)) → to_nat j ≡ to_nat p → listed j ≡ operation (item ops p)
      same p j e =
          let m : to_nat p < length xs = subst (λ z. to_nat p < z) made.count (to_nat-lt p) in
          ap (λ n. operation (get_or group.ops.items (slice_index xs n) d)) e
          ∙ ap operation (sym (made.each (to_nat p) d m d) ∙ sym (item-get ops p d))

      there : (p : Fin (length ops)) → (j : Fin (length xs)) × (to_nat j ≡ to_nat p) × (listed j ≡ operation (item ops p))
      there p =
          let m : to_nat p < length xs = subst (λ z. to_nat p < z) made.count (to_nat-lt p) in
          let j = from_nat (length xs) (to_nat p) m in
          let e = to_nat-from_nat (length xs) (to_nat p) m in
          (j, e, same p j e)

      back : (j : Fin (length xs)) → (p : Fin (length ops)) × (to_nat j ≡ to_nat p) × (listed j ≡ operation (item ops p))
      back j =
          let m : to_nat j < length ops = subst (λ z. to_nat j < z) (sym made.count) (to_nat-lt j) in
          let p = from_nat (length ops) (to_nat j) m in
          let e = to_nat-from_nat (length ops) (to_nat j) m in
          (p, sym e, same p j (sym e))

-- two numberings
module _ (group : Group) {k : WaveVector} (S : Star (sign_of group.phase) (stands_for group) k) {m : ℕ} (f : Fin m → Operation)
    (is : IsNumbering (stands_for group) (IsInLittleGroup (stands_for group) k) f) where
  abbrev other : Star (sign_of group.phase) (stands_for group) k
  other = record {
    count = S.count;
    canonical = S.canonical;
    canonical_numbering = S.canonical_numbering;
    arms = S.arms;
    arm = S.arm;
    number = S.number;
    are_arms = S.are_arms;
    places = m;
    operation = f;
    numbering = is;
    table = little_table (stands_for group) (space_group group).is_group (has_canonical group) (sign_of group.phase) k f is
        S.table.order S.is_table.is_order;
    is_table = little_table-is_table (stands_for group) (space_group group).is_group (has_canonical group) (sign_of group.phase) k f is
        S.table.order S.is_table.is_order;
  }

  -- an increasing map is at least the number
  at_least : (U W : Star (sign_of group.phase) (stands_for group) k) (n : ℕ) (i : Fin U.places) → to_nat i ≡ n
      → n ≤ to_nat (place_in (stands_for group) (space_group group).is_group (has_canonical group) U W i)
  at_least U W zero i e = omega arith
  at_least U W (suc n) i e =
      let w = to_nat-lt i in
      let l : n < U.places = omega (arith, w, e) in
      let j = from_nat U.places n l in
      let at = to_nat-from_nat U.places n l in
      let before = at_least U W n j at in
      let step = increasing (stands_for group) (space_group group).is_group (has_canonical group) U W j i (omega (arith, at, e)) in
      omega (arith, before, step)

  pub same_operations : (i : Fin m) (p : Fin S.places) → to_nat i ≡ to_nat p → f i ≡ S.operation p
  same_operations i p e =
      let G = stands_for group in
      let g = (space_group group).is_group in
      let c = has_canonical group in
      let there = place_in G g c other S i in
      let a = at_least other S (to_nat i) i refl in
      let b = at_least S other (to_nat there) there refl in
      let back = ap to_nat (there_back G g c other S i) in
      let same : to_nat there ≡ to_nat p = omega (arith, a, b, back, e) in
      sym (place_in-is G g c other S i) ∙ ap S.operation (to_nat_inj there p same)

  pub same_count : m ≡ S.places
  same_count = le_antisymm (no_more other S) (no_more S other)
    where
      no_more : (U W : Star (sign_of group.phase) (stands_for group) k) → U.places ≤ W.places
      no_more U W = elim (cases_lt W.places U.places) [
        | inl l ↦ (
            let i = from_nat U.places W.places l in
            let a = at_least U W W.places i (to_nat-from_nat U.places W.places l) in
            let b = to_nat-lt (place_in (stands_for group) (space_group group).is_group (has_canonical group) U W i) in
            absurd (omega (arith, a, b)))
        | inr l ↦ l
      ]
