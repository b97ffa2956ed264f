-- The stars of the sums of arms, and the squares of all members.
--   setting_of             what the entries need
--   order_at               the order of a wave vector, as that of a pair
--   arm_sums_of            a side over its order, and the sums of its arms
--   squares_of_entries     the entries, with a full representation of each member
use Rattle.std.proofs.Common.{◌≡◌, sym, ◌∙◌, ap, subst, refl, ℕ, ◌<◌, List, length, map}
use Rattle.std.specs.Int.{◌∣◌}
use Rattle.std.specs.List.{All}
use Rattle.std.proofs.lemmas.List.{get_or-map, length-map}
use native.Mathlib.Nat as Nat
use Rattle.irr_algebra.specs.Fin.{Fin, to_nat}
use Rattle.irr_algebra.proofs.Indices.{to_nat-lt}
use Rattle.irr_space.specs.Operation.{WaveVector}
use Rattle.irr_space.specs.Reciprocal.{IsOrder}
use Rattle.irr_space.specs.CompleteList.{over}
use Rattle.irr_seitz.specs.PhaseMeaning.{sign_of}
use Rattle.irr_cyc.specs.declared.scalars.Scalar.{Ghosts}
use Rattle.irr_kvec.specs.declared.wave.Wave.{Wave}
use Rattle.irr_close.specs.StandsFor.{stands_for}
use Rattle.irr_close.specs.declared.group.Group.{Group}
use Rattle.irr_close.proofs.SpaceGroups.{space_group}
use Rattle.irr_little.proofs.Spaces.{has_canonical}
use Rattle.irr_full.specs.Full.{IsFullOf}
use Rattle.irr_full.proofs.FullExistence.{full_matrices, full_matrices-is_full}
use Rattle.irr_mult.specs.OrderedWaves.{waves_of}
use Rattle.irr_mult.specs.Stars.{AreStarsOf}
use Rattle.irr_mult.specs.Traced.{AreStarCharacters}
use Rattle.irr_mult.specs.declared.star.StarCharacters.{StarCharacters}
use Rattle.irr_product.specs.Products.{IsPairOrder}
use Rattle.irr_side.specs.Sides.{IsSideOf}
use Rattle.irr_product.specs.Sums.{AreSums}
use Rattle.irr_side.specs.declared.sides.Side.{Side}
use Rattle.irr_product.proofs.PairOrders.{pair_order-first, pair_order-positive}
use Rattle.irr_side.proofs.SideLists.{some_item}
use Rattle.irr_side.proofs.StarsByWaves.{stars_of_waves}
use Rattle.irr_power.specs.Meetings.{AreEntries, AreMeetings, HasArmSums, Setting}
use Rattle.irr_power.specs.Squares.{AreSquares, IsSquareOf, square_entry}
use Rattle.irr_power.specs.declared.meetings.Meeting.{Meeting}
use Rattle.irr_power.specs.declared.parts.SquareParts.{SquareParts}

abbrev pub setting_of : {X : Type 0} {V : Ghosts X} {group : Group} {k : WaveVector} {M : ℕ} {side : Side X V} {sums : List Wave}
    (g : HasArmSums group k M side sums) (found waves : List Wave) (made stars : List (StarCharacters X))
    (met ts : List Meeting) → waves ≡ found → stars ≡ made → ts ≡ met
    → AreStarsOf (stands_for group) (waves_of sums) (waves_of found)
    → map (λ (c : StarCharacters X). c.wave) made ≡ waves → All (AreStarCharacters V.order_of V.value group M) made
    → AreMeetings group sums stars met → Setting group k M side sums stars ts
setting_of {X} {V} {group} {k} {M} {side} {sums} g found waves made stars met ts is_waves is_stars is_ts are same characters meetings = record {
  given = g;
  stars = stars_of_waves group (waves_of sums) found stars (ap (map (λ (c : StarCharacters X). c.wave)) is_stars ∙ same ∙ is_waves) are;
  characters = subst (λ xs. All (AreStarCharacters V.order_of V.value group M) xs) (sym is_stars) characters;
  meetings = subst (λ xs. AreMeetings group sums stars xs) (sym is_ts) meetings;
}

-- the order of a wave vector is that of the wave vector with itself
pub order_at : (group : Group) (k : WaveVector) (n : ℕ) → IsOrder (stands_for group) k n → IsPairOrder (stands_for group) k k n
order_at group k n o = record {
  exponent = o.exponent;
  first = o.period;
  second = o.period;
  common = o.period;
  is_exponent = o.is_exponent;
  is_first = o.is_period;
  is_second = o.is_period;
  first_divides = Nat.dvd_refl o.period;
  second_divides = Nat.dvd_refl o.period;
  least = λ m a b. a;
  is_product = o.is_product;
}

pub order_positive : (group : Group) (k : WaveVector) (n : ℕ) → IsOrder (stands_for group) k n → 0 < n
order_positive group k n o = pair_order-positive (stands_for group) k k n (order_at group k n o)

abbrev pub arm_sums_of : (group : Group) (k : WaveVector) (n : ℕ) → IsOrder (stands_for group) k n
    → {X : Type 0} {V : Ghosts X} (side : Side X V) (sums : List Wave) (A : IsSideOf group k side)
    (M : ℕ) → M ≡ n → AreSums group side.star.arms.items side.star.arms.items sums → HasArmSums group k M side sums
arm_sums_of group k n o side sums A M e are = record {
  is_side = A;
  divides = subst (λ z. A.star.table.order ∣ z) (sym e)
      (pair_order-first (stands_for group) k k n A.star.table.order (order_at group k n o) A.star.is_table.is_order);
  sums = are;
}

-- the entries, with a full representation of each member
module _ {X : Type 0} {V : Ghosts X} {group : Group} {k : WaveVector} {M : ℕ} {side : Side X V} (A : IsSideOf group k side)
    (positive : 0 < M) (u : A.star.table.order ∣ M) (ps : List SquareParts) (are : AreEntries M A (length side.fulls.items) ps) where
  pub squares_of_entries : AreSquares (sign_of group.phase) (stands_for group) k M (map square_entry ps)
  squares_of_entries = record {
    star = A.star;
    list = A.list;
    complete = A.complete;
    ordered = A.ordered;
    divides = u;
    full = λ m. full_matrices (stands_for group) (space_group group).is_group (has_canonical group) A.star M positive u
        (over A.star.table M u (A.list.member m));
    is_full = is;
    count = length-map ps square_entry ∙ are.count ∙ A.count;
    square = λ m none.
        let here = place m in
        let p = some_item ps (to_nat m) here in
        subst (IsSquareOf (sign_of group.phase) (stands_for group) M (to_nat m)
        (full_matrices (stands_for group) (space_group group).is_group (has_canonical group) A.star M positive u
        (over A.star.table M u (A.list.member m))))
        (sym (get_or-map square_entry ps (to_nat m) p none here))
        ((are.each (to_nat m) p (subst (λ z. to_nat m < z) are.count here)).is_square u m refl
        (full_matrices (stands_for group) (space_group group).is_group (has_canonical group) A.star M positive u
        (over A.star.table M u (A.list.member m))) (is m));
  }
    where
      is : (m : Fin A.list.count) → IsFullOf A.star M u (over A.star.table M u (A.list.member m))
          (full_matrices (stands_for group) (space_group group).is_group (has_canonical group) A.star M positive u
          (over A.star.table M u (A.list.member m)))
      is m = full_matrices-is_full (stands_for group) (space_group group).is_group (has_canonical group) A.star M positive u
          (over A.star.table M u (A.list.member m))

      place : (m : Fin A.list.count) → to_nat m < length ps
      place m = subst (λ z. to_nat m < z) (sym (are.count ∙ A.count)) (to_nat-lt m)
