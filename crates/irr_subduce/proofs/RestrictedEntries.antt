-- The entries of the members of the list of a side.
--   full_here, full_is          a full representation of each member
--   rows_asked                  what a member needs
--   representation_of_rows      the restriction, and its rows
--   entry_of_rows               the entry
--   entry_dim, few_dim          its number of rows
--   restrictions_of_entries     all entries
use Rattle.std.proofs.Common.{◌≡◌, sym, ◌∙◌, ap, subst, refl, ℕ, suc, ◌*◌, ◌<◌, ◌≤◌, List, length, get_or, map, Vec, Global, arith}
use Rattle.std.specs.Int.{◌∣◌}
use Rattle.std.proofs.lemmas.List.{get_or-map, get_or_default, length-map}
use native.Mathlib.Nat as Nat
use Rattle.irr_algebra.specs.Fin.{Fin, to_nat}
use Rattle.irr_algebra.specs.Matrix.{Matrix}
use Rattle.irr_algebra.specs.Pair.{times}
use Rattle.irr_algebra.proofs.Indices.{from_nat, to_nat-from_nat, to_nat-lt}
use Rattle.irr_algebra.proofs.Pairs.{times-mul}
use Rattle.irr_number.specs.Number.{numbers}
use Rattle.irr_theory.specs.FactorSystem.{Representation}
use Rattle.irr_space.specs.Operation.{Operation, WaveVector}
use Rattle.irr_space.specs.PhaseTable.{phases_over}
use Rattle.irr_space.specs.CompleteList.{over}
use Rattle.irr_seitz.specs.PhaseMeaning.{sign_of}
use Rattle.irr_cyc.specs.declared.scalars.Scalar.{Ghosts}
use Rattle.irr_kvec.specs.declared.wave.Wave.{Wave}
use Rattle.irr_close.specs.StandsFor.{stands_for}
use Rattle.irr_close.specs.declared.group.Group.{Group}
use Rattle.irr_close.proofs.SpaceGroups.{space_group}
use Rattle.irr_little.proofs.Spaces.{has_canonical}
use Rattle.irr_full.specs.Star.{Star}
use Rattle.irr_full.specs.Full.{IsFullOf}
use Rattle.irr_full.specs.Parts.{ArePartsOf}
use Rattle.irr_full.proofs.FullExistence.{full_matrices, full_matrices-is_full}
use Rattle.irr_star.specs.Induced.{IsFullRepresentation, IsInduced}
use Rattle.irr_star.specs.declared.full.Full.{Full}
use Rattle.irr_mult.specs.Listing.{item}
use Rattle.irr_mult.specs.StarParts.{part_of}
use Rattle.irr_mult.specs.Traced.{AreTraced, SpaceRepresentation}
use Rattle.irr_mult.specs.declared.part.RepParts.{RepParts}
use Rattle.irr_mult.specs.declared.star.StarCharacters.{StarCharacters}
use Rattle.irr_mult.proofs.AllListings.{dimensions_add_up}
use Rattle.irr_side.specs.Sides.{IsSideOf}
use Rattle.irr_side.specs.declared.sides.Side.{Side}
use Rattle.irr_side.proofs.SideLists.{some_item}
use Rattle.irr_subduce.specs.Meetings.{AreEntries, AreStarRows, HasMeetings, HasPartRows, IsEntry}
use Rattle.irr_subduce.specs.Restrictions.{AreRestrictions, IsRestrictionOf, rep_content}
use Rattle.irr_subduce.specs.declared.meetings.Meeting.{Meeting}
use Rattle.irr_subduce.specs.declared.sub.Sub.{Sub}
use Rattle.irr_subduce.proofs.RestrictedRows.{induced, part_rows, represents, rows_traced, space_here}

-- a full representation of a member
module _ {X : Type 0} {V : Ghosts X} {group : Group} {k : WaveVector} {side : Side X V} (A : IsSideOf group k side) (M : ℕ) (positive : 0 < M)
    (u : A.star.table.order ∣ M) (m : Fin A.list.count) where
  pub full_here : Operation → Matrix (numbers M) (times A.star.arms (A.list.size m)) (times A.star.arms (A.list.size m))
  full_here = full_matrices (stands_for group) (space_group group).is_group (has_canonical group) A.star M positive u
      (over A.star.table M u (A.list.member m))

  pub full_is : IsFullOf A.star M u (over A.star.table M u (A.list.member m)) full_here
  unfolding full_here
  full_is = full_matrices-is_full (stands_for group) (space_group group).is_group (has_canonical group) A.star M positive u
      (over A.star.table M u (A.list.member m))

module _ {X : Type 0} {V : Ghosts X} {group : Group} {sub : Sub} {image : Operation → Operation} {k : WaveVector} {M : ℕ}
    {side : Side X V} {ws : List Wave} {stars : List (StarCharacters X)} {ts : List Meeting}
    (s : HasMeetings group sub image k M side ws stars ts) (a : ℕ) (full : Full X V) (is_full : full ≡ get_or side.fulls.items a full) where
  at_member : (m : Fin s.given.is_side.list.count) → to_nat m ≡ a → full ≡ get_or side.fulls.items (to_nat m) full
  at_member m e = is_full ∙ ap (λ n. get_or side.fulls.items n full) (sym e)

  module _ (positive : 0 < M) (inside : a < length side.fulls.items) where
    below : a < s.given.is_side.list.count
    below = subst (λ z. a < z) s.given.is_side.count inside

    m : Fin s.given.is_side.list.count
    m = from_nat s.given.is_side.list.count a below

    is_m : to_nat m ≡ a
    unfolding m
    is_m = to_nat-from_nat s.given.is_side.list.count a below

    pub few_label : a < 48
    few_label = Nat.lt_of_lt_of_le below s.given.is_side.few

    pub is_represented : IsFullRepresentation full
    is_represented = represents s.given positive s.given.divides m (full_here s.given.is_side M positive s.given.divides m)
        (full_is s.given.is_side M positive s.given.divides m) full (at_member m is_m)

    pub rows_asked : (n : ℕ) (t : Meeting) → n < length ts → HasPartRows M full (get_or ts n t)
    rows_asked n t l =
        let at : n < length stars = subst (λ z. n < z) s.meetings.count l in
        let c = some_item stars n at in
        part_rows s.given positive s.given.divides m (full_here s.given.is_side M positive s.given.divides m)
        (full_is s.given.is_side M positive s.given.divides m) full (at_member m is_m) (get_or stars n c) (get_or ts n t)
        (s.characters n c at) (s.meetings.each n t at c)

    pub representation_of_rows : (rows : List (Vec X Global)) → AreStarRows {V = V} M full ts rows
        → (A : SpaceRepresentation) × AreTraced V.order_of V.value A stars rows
    representation_of_rows rows are = (
      space_here s.given positive s.given.divides m (full_here s.given.is_side M positive s.given.divides m)
          (full_is s.given.is_side M positive s.given.divides m) full (at_member m is_m),
      rows_traced s.given positive s.given.divides m (full_here s.given.is_side M positive s.given.divides m)
          (full_is s.given.is_side M positive s.given.divides m) full (at_member m is_m) stars ts s rows are,
    )

  -- the number of rows
  pub entry_dim : (x : ℕ) → ((group : Group) (k : WaveVector) (U : Star (sign_of group.phase) (stands_for group) k) (M : ℕ) (v : U.table.order ∣ M)
      (d : ℕ) (D : Representation (phases_over U.table M v) d) → IsInduced group U M v D full → x ≡ U.arms * d)
      → (positive : 0 < M) (u : s.given.is_side.star.table.order ∣ M) (m : Fin s.given.is_side.list.count) → to_nat m ≡ a
      → x ≡ times s.given.is_side.star.arms (s.given.is_side.list.size m)
  entry_dim x dim positive u m e =
      let v = Nat.dvd_refl s.given.is_side.star.table.order in
      dim group k s.given.is_side.star s.given.is_side.star.table.order v (s.given.is_side.list.size m)
      (over s.given.is_side.star.table s.given.is_side.star.table.order v (s.given.is_side.list.member m))
      (induced s.given positive u m (full_here s.given.is_side M positive u m) (full_is s.given.is_side M positive u m) full (at_member m e))
      ∙ sym (times-mul s.given.is_side.star.arms (s.given.is_side.list.size m))

  pub entry_of_rows : (rows : List (Vec X Global)) → AreStarRows {V = V} M full ts rows → (r : RepParts)
      → ((A : SpaceRepresentation) → AreTraced V.order_of V.value A stars rows
      → ArePartsOf (sign_of A.group.phase) (stands_for A.group) A.positive A.at (item (map part_of r.parts.items)))
      → r.label ≡ suc a
      → ((positive : 0 < M) (u : s.given.is_side.star.table.order ∣ M) (m : Fin s.given.is_side.list.count) → to_nat m ≡ a
      → r.dim ≡ times s.given.is_side.star.arms (s.given.is_side.list.size m))
      → 0 < M → IsEntry sub image M s.given.is_side a r
  entry_of_rows rows are r parts label dim above = record {
    is_restriction = λ u m e F full_F. record {
      label = label;
      dim = dim above u m e;
      parts = λ positive. subst (λ z. ArePartsOf (sign_of z) (stands_for sub.group) positive (λ g. F (image g)) (item (map part_of r.parts.items)))
          s.given.phase
          (parts (space_here s.given positive u m F full_F full (at_member m e))
          (rows_traced s.given positive u m F full_F full (at_member m e) stars ts s rows are));
      adds_up =
          let A = space_here s.given above u m F full_F full (at_member m e) in
          let t = rows_traced s.given above u m F full_F full (at_member m e) stars ts s rows are in
          dimensions_add_up V.order_of V.value A stars rows t (item (map part_of r.parts.items)) (parts A t) ∙ sym (dim above u m e);
    };
  }

-- all entries
module _ {X : Type 0} {V : Ghosts X} {group : Group} {sub : Sub} {image : Operation → Operation} {k : WaveVector} {M : ℕ} {side : Side X V}
    (A : IsSideOf group k side) (positive : 0 < M) (u : A.star.table.order ∣ M) (rs : List RepParts)
    (are : AreEntries sub image M A (length side.fulls.items) rs) where
  pub restrictions_of_entries : AreRestrictions (sign_of group.phase) (stands_for group) (stands_for sub.group) image k M (map rep_content rs)
  restrictions_of_entries = record {
    star = A.star;
    list = A.list;
    complete = A.complete;
    ordered = A.ordered;
    divides = u;
    full = λ m. full_here A M positive u m;
    is_full = λ m. full_is A M positive u m;
    count = length-map rs rep_content ∙ are.count ∙ A.count;
    restriction = λ m none.
        let l : to_nat m < length side.fulls.items = subst (λ z. to_nat m < z) (sym A.count) (to_nat-lt m) in
        let inside : to_nat m < length rs = subst (λ z. to_nat m < z) (sym are.count) l in
        let r = some_item rs (to_nat m) inside in
        subst (IsRestrictionOf (sign_of group.phase) (stands_for sub.group) image M (to_nat m) (full_here A M positive u m))
        (sym (get_or-map rep_content rs (to_nat m) r none inside))
        ((are.each (to_nat m) r l).is_restriction u m refl (full_here A M positive u m) (full_is A M positive u m));
  }
