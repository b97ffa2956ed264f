-- The stars of the sums of arms, and the whole product.
--   sums_limits, sums_reduced, sums_orders, few_sums     the sums
--   over_order                   the full representations of a side
--   first_order, second_order    the orders of both wave vectors
--   products_of_entries          the entries are the direct products
use Rattle.std.proofs.Common.{◌≡◌, sym, ◌∙◌, ap, ap₂, subst, subst₂, refl, ℕ, ◌+◌, ◌*◌, ◌^◌, ◌<◌, ◌≤◌, List, length, get_or, map, arith}
use Rattle.std.specs.Int.{◌∣◌}
use Rattle.std.specs.List.{All}
use Rattle.std.proofs.lemmas.List.{get_or-map, length-map}
use native.Mathlib.Nat as Nat
use Rattle.irr_algebra.specs.Fin.{Fin, to_nat}
use Rattle.irr_algebra.specs.Matrix.{◌⊕◌}
use Rattle.irr_algebra.specs.Pair.{times, pair}
use Rattle.irr_algebra.proofs.Indices.{from_nat, to_nat-from_nat, to_nat-lt}
use Rattle.irr_algebra.proofs.Pairs.{times-mul, to_nat-pair}
use Rattle.irr_space.specs.Operation.{WaveVector}
use Rattle.irr_space.specs.Reciprocal.{AreEquivalent, IsOrder, IsReduced}
use Rattle.irr_space.specs.CompleteList.{over}
use Rattle.irr_seitz.specs.PhaseMeaning.{sign_of}
use Rattle.irr_cyc.specs.declared.scalars.Scalar.{Ghosts}
use Rattle.irr_kvec.specs.Centrings.{IsWithinLimits}
use Rattle.irr_kvec.specs.WaveMeaning.{wave_vector}
use Rattle.irr_kvec.specs.declared.wave.Wave.{Wave}
use Rattle.irr_close.specs.StandsFor.{stands_for}
use Rattle.irr_close.specs.declared.group.Group.{Group}
use Rattle.irr_close.proofs.SpaceGroups.{space_group}
use Rattle.irr_little.specs.declared.arms.Arm.{Arm}
use Rattle.irr_little.proofs.Spaces.{has_canonical}
use Rattle.irr_full.specs.Full.{IsFullOf}
use Rattle.irr_full.proofs.Diagonals.{unpair}
use Rattle.irr_full.proofs.FullExistence.{full_matrices, full_matrices-is_full}
use Rattle.irr_star.specs.Induced.{IsInduced}
use Rattle.irr_star.specs.declared.full.Full.{Full}
use Rattle.irr_mult.specs.Listing.{item}
use Rattle.irr_mult.specs.OrderedWaves.{waves_of}
use Rattle.irr_mult.specs.Stars.{AreStarsOf}
use Rattle.irr_mult.specs.StarSearch.{HasOrder, IsReducedIn}
use Rattle.irr_mult.specs.Traced.{AreStarCharacters}
use Rattle.irr_mult.specs.declared.part.PairParts.{PairParts}
use Rattle.irr_mult.specs.declared.star.StarCharacters.{StarCharacters}
use Rattle.irr_product.specs.Meetings.{AreEntries, AreMeetings, HasSums, IsOverOrder, Setting}
use Rattle.irr_product.specs.Products.{AreProducts, IsPairOf, IsPairOrder, pair_content}
use Rattle.irr_side.specs.Sides.{IsSideOf}
use Rattle.irr_product.specs.Sums.{AreSums, IsSumOf}
use Rattle.irr_product.specs.declared.meetings.Meeting.{Meeting}
use Rattle.irr_side.specs.declared.sides.Side.{Side}
use Rattle.irr_product.proofs.KroneckerPlaces.{pair_order}
use Rattle.irr_product.proofs.PairOrders.{pair_order-first, pair_order-positive, pair_order-second}
use Rattle.irr_product.proofs.ReciprocalTests.{decide_reciprocal}
use Rattle.irr_side.proofs.SideLists.{some_item}
use Rattle.irr_side.proofs.StarsByWaves.{stars_of_waves}

module _ {X : Type 0} {V : Ghosts X} {group : Group} {k l : WaveVector} {M : ℕ} {left right : Side X V} {sums : List Wave}
    (g : HasSums group k l M left right sums) where
  count : length sums ≡ g.left.star.arms * g.right.star.arms
  count = g.sums.count ∙ ap₂ (λ x y. x * y) g.left.arms.count g.right.arms.count

  -- a sum, with its arms
  record SumAt (w : Wave) : Type 0 where
    i : Fin g.left.star.arms
    j : Fin g.right.star.arms
    a : Arm
    is_sum : IsSumOf group (get_or left.star.arms.items (to_nat i) a).wave (get_or right.star.arms.items (to_nat j) a).wave w

  sum_at : (n : ℕ) (d : Wave) → n < length sums → SumAt (get_or sums n d)
  sum_at n d below =
      let inside : n < times g.left.star.arms g.right.star.arms = subst (λ z. n < z)
      (count ∙ sym (times-mul g.left.star.arms g.right.star.arms)) below in
      let u = unpair g.left.star.arms g.right.star.arms (from_nat (times g.left.star.arms g.right.star.arms) n inside) in
      let li : to_nat u.0 < length left.star.arms.items = subst (λ z. to_nat u.0 < z) (sym g.left.arms.count) (to_nat-lt u.0) in
      let lj : to_nat u.1 < length right.star.arms.items = subst (λ z. to_nat u.1 < z) (sym g.right.arms.count) (to_nat-lt u.1) in
      let a : Arm = some_item left.star.arms.items (to_nat u.0) li in
      let same : to_nat u.0 * length right.star.arms.items + to_nat u.1 ≡ n =
      ap (λ z. to_nat u.0 * z + to_nat u.1) g.right.arms.count ∙ sym (to_nat-pair g.right.star.arms u.0 u.1) ∙ ap to_nat u.2
      ∙ to_nat-from_nat (times g.left.star.arms g.right.star.arms) n inside in
      record {
        i = u.0;
        j = u.1;
        a = a;
        is_sum = subst (λ z. IsSumOf group (get_or left.star.arms.items (to_nat u.0) a).wave
            (get_or right.star.arms.items (to_nat u.1) a).wave (get_or sums z d)) same (g.sums.sum (to_nat u.0) (to_nat u.1) a d li lj);
      }

  pub sums_limits : All IsWithinLimits sums
  sums_limits n d below = (sum_at n d below).is_sum.limits

  pub sums_reduced : All (IsReducedIn group) sums
  sums_reduced n d below = (sum_at n d below).is_sum.reduced

  pub sums_orders : 0 < M → All (HasOrder group M) sums
  sums_orders positive n d below =
      let s = sum_at n d below in
      pair_order (stands_for group) (space_group group).is_group (has_canonical group) (decide_reciprocal group)
      g.left.star g.right.star M positive g.left_divides g.right_divides s.i s.j (wave_vector (get_or sums n d))
      (subst₂ (λ x y. AreEquivalent (stands_for group) (wave_vector (get_or sums n d)) (x ⊕ y)) (g.left.arms.wave s.i s.a)
      (g.right.arms.wave s.j s.a) s.is_sum.equivalent)

  pub few_sums : length sums ≤ 2 ^ 32
  few_sums = subst (λ z. z ≤ 2 ^ 32) (sym g.sums.count)
      (Nat.le_trans (Nat.mul-le-mul g.left.arms.few g.right.arms.few) (let few : 48 * 48 ≤ 2 ^ 32 = omega arith in few))

pub over_order : {X : Type 0} {V : Ghosts X} (group : Group) {k : WaveVector} (side : Side X V) (A : IsSideOf group k side) (M : ℕ)
    → A.star.table.order ∣ M → All (IsOverOrder group M) side.fulls.items
over_order {X} {V} group {k} side A M divides n d below =
    let m = from_nat A.list.count n (subst (λ z. n < z) A.count below) in
    let v = Nat.dvd_refl A.star.table.order in
    let is : IsInduced group A.star A.star.table.order v (over A.star.table A.star.table.order v (A.list.member m))
    (get_or side.fulls.items n d) = subst (λ z. IsInduced group A.star A.star.table.order v
    (over A.star.table A.star.table.order v (A.list.member m)) (get_or side.fulls.items z d))
    (to_nat-from_nat A.list.count n (subst (λ z. n < z) A.count below)) (A.induced v m d) in
    record {
      induced = record {
        group = group;
        wave = k;
        star = A.star;
        number = A.star.table.order;
        divides = v;
        size = A.list.size m;
        small = over A.star.table A.star.table.order v (A.list.member m);
        induced = is;
      };
      same = is.same;
      divides = subst (λ z. z ∣ M) (sym is.order) divides;
    }

-- the orders of both wave vectors
module _ (group : Group) (k l : WaveVector) (n : ℕ) (o : IsPairOrder (stands_for group) k l n) (within : n ≤ 12000) where
  pub first_order : (m : ℕ) × IsOrder (stands_for group) k m × (m ∣ n) × (m ≤ 12000)
  first_order =
      let d : o.exponent * o.first ∣ n = subst (λ z. o.exponent * o.first ∣ z) (sym o.is_product)
      (Nat.mul-dvd-mul_left o.first o.exponent o.first_divides) in (
        o.exponent * o.first,
        record { exponent = o.exponent; period = o.first; is_exponent = o.is_exponent; is_period = o.is_first; is_product = refl },
        d,
        Nat.le_trans (Nat.le_of_dvd (pair_order-positive (stands_for group) k l n o) d) within,
      )

  pub second_order : (m : ℕ) × IsOrder (stands_for group) l m × (m ∣ n) × (m ≤ 12000)
  second_order =
      let d : o.exponent * o.second ∣ n = subst (λ z. o.exponent * o.second ∣ z) (sym o.is_product)
      (Nat.mul-dvd-mul_left o.second o.exponent o.second_divides) in (
        o.exponent * o.second,
        record { exponent = o.exponent; period = o.second; is_exponent = o.is_exponent; is_period = o.is_second; is_product = refl },
        d,
        Nat.le_trans (Nat.le_of_dvd (pair_order-positive (stands_for group) k l n o) d) within,
      )

-- the entries, with a full representation of each member
module _ {X : Type 0} {V : Ghosts X} {group : Group} {k l : WaveVector} {M : ℕ} {left right : Side X V}
    (A : IsSideOf group k left) (B : IsSideOf group l right) (positive : 0 < M) (u : A.star.table.order ∣ M)
    (v : B.star.table.order ∣ M) (ps : List PairParts)
    (are : AreEntries M A B (length left.fulls.items * length right.fulls.items) ps) where
  pub products_of_entries : AreProducts (sign_of group.phase) (stands_for group) k l M (map pair_content ps)
  products_of_entries = record {
    left = A.star;
    right = B.star;
    left_list = A.list;
    right_list = B.list;
    left_complete = A.complete;
    left_ordered = A.ordered;
    right_complete = B.complete;
    right_ordered = B.ordered;
    left_divides = u;
    right_divides = v;
    left_full = λ m. full_matrices (stands_for group) (space_group group).is_group (has_canonical group) A.star M positive u
        (over A.star.table M u (A.list.member m));
    right_full = λ n. full_matrices (stands_for group) (space_group group).is_group (has_canonical group) B.star M positive v
        (over B.star.table M v (B.list.member n));
    left_is_full = λ m. left_is m;
    right_is_full = λ n. right_is n;
    count = length-map ps pair_content ∙ are.count ∙ ap₂ (λ x y. x * y) A.count B.count;
    pair = λ m n none.
        let inside = place m n in
        let p = some_item ps (to_nat m * B.list.count + to_nat n) inside in
        subst (IsPairOf (sign_of group.phase) (stands_for group) M (to_nat m) (to_nat n)
        (full_matrices (stands_for group) (space_group group).is_group (has_canonical group) A.star M positive u
        (over A.star.table M u (A.list.member m)))
        (full_matrices (stands_for group) (space_group group).is_group (has_canonical group) B.star M positive v
        (over B.star.table M v (B.list.member n))))
        (sym (get_or-map pair_content ps (to_nat m * B.list.count + to_nat n) p none inside))
        ((are.each (to_nat m * B.list.count + to_nat n) p (subst (λ z. to_nat m * B.list.count + to_nat n < z) are.count inside)
        (to_nat m) (to_nat n) (subst (λ z. to_nat n < z) (sym B.count) (to_nat-lt n))
        (ap (λ z. to_nat m * z + to_nat n) (sym B.count))).is_pair u v m n refl refl
        (full_matrices (stands_for group) (space_group group).is_group (has_canonical group) A.star M positive u
        (over A.star.table M u (A.list.member m))) (left_is m)
        (full_matrices (stands_for group) (space_group group).is_group (has_canonical group) B.star M positive v
        (over B.star.table M v (B.list.member n))) (right_is n));
  }
    where
      left_is : (m : Fin A.list.count) → IsFullOf A.star M u (over A.star.table M u (A.list.member m))
          (full_matrices (stands_for group) (space_group group).is_group (has_canonical group) A.star M positive u
          (over A.star.table M u (A.list.member m)))
      left_is m = full_matrices-is_full (stands_for group) (space_group group).is_group (has_canonical group) A.star M positive u
          (over A.star.table M u (A.list.member m))

      right_is : (n : Fin B.list.count) → IsFullOf B.star M v (over B.star.table M v (B.list.member n))
          (full_matrices (stands_for group) (space_group group).is_group (has_canonical group) B.star M positive v
          (over B.star.table M v (B.list.member n)))
      right_is n = full_matrices-is_full (stands_for group) (space_group group).is_group (has_canonical group) B.star M positive v
          (over B.star.table M v (B.list.member n))

      place : (m : Fin A.list.count) (n : Fin B.list.count) → to_nat m * B.list.count + to_nat n < length ps
      place m n = subst₂ (λ x y. x < y) (to_nat-pair B.list.count m n)
          (times-mul A.list.count B.list.count ∙ sym (are.count ∙ ap₂ (λ x y. x * y) A.count B.count))
          (to_nat-lt (pair B.list.count m n))

-- what the pairs need
abbrev pub setting_of : {X : Type 0} {V : Ghosts X} {group : Group} {k l : WaveVector} {M : ℕ} {left right : Side X V}
    {sums : List Wave} (g : HasSums group k l M left right sums) (found waves : List Wave) (made stars : List (StarCharacters X))
    (met ts : List (Meeting X)) → waves ≡ found → stars ≡ made → ts ≡ met
    → AreStarsOf (stands_for group) (waves_of sums) (waves_of found)
    → map (λ (c : StarCharacters X). c.wave) made ≡ waves → All (AreStarCharacters V.order_of V.value group M) made
    → AreMeetings group M left.fulls.items right.fulls.items sums stars met → Setting group k l M left right sums stars ts
setting_of {X} {V} {group} {k} {l} {M} {left} {right} {sums} g found waves made stars met ts is_waves is_stars is_ts are same characters meetings = record {
  given = g;
  stars = stars_of_waves group (waves_of sums) found stars (ap (map (λ (c : StarCharacters X). c.wave)) is_stars ∙ same ∙ is_waves) are;
  characters = subst (λ xs. All (AreStarCharacters V.order_of V.value group M) xs) (sym is_stars) characters;
  meetings = subst (λ xs. AreMeetings group M left.fulls.items right.fulls.items sums stars xs) (sym is_ts) meetings;
}

abbrev pub sums_of_pair : (group : Group) (k l : WaveVector) (n : ℕ) → IsPairOrder (stands_for group) k l n
    → {X : Type 0} {V : Ghosts X} (left right : Side X V) (sums : List Wave) (A : IsSideOf group k left) (B : IsSideOf group l right)
    (M : ℕ) → M ≡ n → AreSums group left.star.arms.items right.star.arms.items sums → HasSums group k l M left right sums
sums_of_pair group k l n o left right sums A B M e are = record {
  left = A;
  right = B;
  left_divides = subst (λ z. A.star.table.order ∣ z) (sym e)
      (pair_order-first (stands_for group) k l n A.star.table.order o A.star.is_table.is_order);
  right_divides = subst (λ z. B.star.table.order ∣ z) (sym e)
      (pair_order-second (stands_for group) k l n B.star.table.order o B.star.is_table.is_order);
  sums = are;
}
