-- The wave vectors of the arms of a side, in the basis of a subgroup.
--   wave_of_arm        that of an arm
--   near_arm           it is equivalent to kP, for the wave vector k of the arm
--   covered            it is one of the list
--   waves_limits, waves_reduced, few_waves, waves_orders     what is asked of the list
--   listing_moved      a listing of numbers of equally many places
--   listed_arms        the listed places of wave vectors are those of arms
--   waves_of_side      the wave vectors of the arms of a side
--   meetings_of        the meetings at the stars
use Rattle.std.proofs.Common.{◌≡◌, sym, ◌∙◌, ap, subst, subst₂, ℕ, ◌<◌, ◌≤◌, ◌^◌, List, length, get_or, map, arith}
use Rattle.std.specs.Int.{◌∣◌}
use Rattle.std.specs.List.{All}
use Rattle.std.proofs.lemmas.List.{get_or-map, length-map}
use native.Mathlib.Nat as Nat
use Rattle.irr_algebra.specs.Fin.{Fin, to_nat}
use Rattle.irr_algebra.specs.Matrix.{◌·◌}
use Rattle.irr_algebra.proofs.Indices.{from_nat, to_nat-from_nat, to_nat-lt, to_nat_inj}
use Rattle.irr_space.specs.Operation.{Operation, WaveVector}
use Rattle.irr_space.specs.Reciprocal.{AreEquivalent, IsOrder}
use Rattle.irr_cyc.specs.declared.scalars.Scalar.{Ghosts}
use Rattle.irr_kvec.specs.Centrings.{IsWithinLimits}
use Rattle.irr_kvec.specs.WaveMeaning.{wave_vector}
use Rattle.irr_kvec.specs.declared.wave.Wave.{Wave}
use Rattle.irr_cocycle.proofs.Reciprocals.{equivalent_refl}
use Rattle.irr_close.specs.StandsFor.{stands_for}
use Rattle.irr_close.specs.declared.group.Group.{Group}
use Rattle.irr_close.proofs.SpaceGroups.{space_group}
use Rattle.irr_little.specs.declared.arms.Arm.{Arm}
use Rattle.irr_mult.specs.Listing.{IsListing, item}
use Rattle.irr_mult.specs.OrderedWaves.{waves_of}
use Rattle.irr_mult.specs.StarSearch.{HasOrder, IsReducedIn}
use Rattle.irr_mult.specs.Stars.{AreStarsOf}
use Rattle.irr_mult.specs.Traced.{AreStarCharacters}
use Rattle.irr_mult.specs.declared.star.StarCharacters.{StarCharacters}
use Rattle.irr_mult.proofs.Listings.{item-get}
use Rattle.irr_setting.specs.Setting.{basis, origin}
use Rattle.irr_full.specs.Restriction.{IsSubgroup}
use Rattle.irr_side.specs.Sides.{IsSideOf}
use Rattle.irr_side.specs.declared.sides.Side.{Side}
use Rattle.irr_side.proofs.SideLists.{some_item}
use Rattle.irr_side.proofs.StarsByWaves.{stars_of_waves}
use Rattle.irr_subduce.specs.ArmWaves.{AreArmWaves, IsArmWave}
use Rattle.irr_subduce.specs.Meetings.{AreMeetings, HasMeetings, HasWaves, IsMeeting}
use Rattle.irr_subduce.specs.declared.meetings.Meeting.{Meeting}
use Rattle.irr_subduce.specs.declared.sub.Sub.{Sub}
use Rattle.irr_subduce.proofs.ArmSizes.{arm_reciprocal}
use Rattle.irr_subduce.proofs.HasExponents.{has_exponent}
use Rattle.irr_subduce.proofs.Periods.{order_unique}
use Rattle.irr_subduce.proofs.ReciprocalTests.{decide_reciprocal}
use Rattle.irr_subduce.proofs.RestrictedOrders.{order_along}

pub listing_moved : {n h : ℕ} (e : n ≡ h) (P : Fin n → Type 0) (Q : Fin h → Type 0)
    → ((i : Fin n) (j : Fin h) → to_nat i ≡ to_nat j → P i → Q j) → ((i : Fin n) (j : Fin h) → to_nat i ≡ to_nat j → Q j → P i)
    → (xs : List ℕ) → IsListing to_nat P (λ (i j : Fin n). to_nat i < to_nat j) xs
    → IsListing to_nat Q (λ (i j : Fin h). to_nat i < to_nat j) xs
listing_moved {n} {h} e P Q there back xs is = record {
  index = λ t. moved (is.index t);
  is = λ t. is.is t ∙ same (is.index t);
  holds = λ t. there (is.index t) (moved (is.index t)) (same (is.index t)) (is.holds t);
  all = λ j q.
      let i = from_nat n (to_nat j) (subst (λ z. to_nat j < z) (sym e) (to_nat-lt j)) in
      let at : to_nat i ≡ to_nat j = to_nat-from_nat n (to_nat j) (subst (λ z. to_nat j < z) (sym e) (to_nat-lt j)) in
      let a = is.all i (back i j at q) in
      (a.0, to_nat_inj (moved (is.index a.0)) j (sym (same (is.index a.0)) ∙ ap to_nat a.1 ∙ at));
  ordered = λ t r l. subst₂ (λ x y. x < y) (same (is.index t)) (same (is.index r)) (is.ordered t r l);
}
  where
    moved : Fin n → Fin h
    moved i = from_nat h (to_nat i) (subst (λ z. to_nat i < z) e (to_nat-lt i))

    same : (i : Fin n) → to_nat i ≡ to_nat (moved i)
    same i = sym (to_nat-from_nat h (to_nat i) (subst (λ z. to_nat i < z) e (to_nat-lt i)))

module _ {X : Type 0} {V : Ghosts X} {group : Group} {sub : Sub} {image : Operation → Operation} {k : WaveVector} {M : ℕ}
    {side : Side X V} {ws : List Wave} (g : HasWaves group sub image k M side ws) where
  abbrev H : Operation → Type 0
  H = stands_for sub.group

  count : length ws ≡ g.is_side.star.arms
  count = g.waves.count ∙ g.is_side.arms.count

  inside : (i : Fin g.is_side.star.arms) → to_nat i < length ws
  inside i = subst (λ z. to_nat i < z) (sym count) (to_nat-lt i)

  arm_inside : (n : ℕ) → n < length ws → n < length side.star.arms.items
  arm_inside n l = subst (λ z. n < z) g.waves.count l

  abbrev pub wave_of_arm : Fin g.is_side.star.arms → WaveVector
  wave_of_arm i = get_or (waves_of ws) (to_nat i) k

  own_wave : (i : Fin g.is_side.star.arms) (w : Wave) → wave_of_arm i ≡ wave_vector (get_or ws (to_nat i) w)
  own_wave i w = get_or-map wave_vector ws (to_nat i) w k (inside i)

  some_arm : (n : ℕ) → n < length ws → Arm
  some_arm n l = some_item side.star.arms.items n (arm_inside n l)

  at_arm : (n : ℕ) (d : Wave) (l : n < length ws) → IsArmWave sub (get_or side.star.arms.items n (some_arm n l)).wave (get_or ws n d)
  at_arm n d l = g.waves.each n d (arm_inside n l) (some_arm n l)

  pub near_arm : (i : Fin g.is_side.star.arms) → AreEquivalent H (wave_of_arm i) (g.is_side.star.arm i · basis sub.setting)
  near_arm i =
      let a = some_arm (to_nat i) (inside i) in
      subst₂ (λ x (y : WaveVector). AreEquivalent H x (y · basis sub.setting)) (sym (own_wave i a.wave)) (g.is_side.arms.wave i a)
      (at_arm (to_nat i) a.wave (inside i)).equivalent

  pub covered : (i : Fin g.is_side.star.arms) → (t : Fin (length (waves_of ws))) × AreEquivalent H (item (waves_of ws) t) (wave_of_arm i)
  covered i =
      let l : to_nat i < length (waves_of ws) = subst (λ z. to_nat i < z) (sym (length-map ws wave_vector)) (inside i) in
      let t = from_nat (length (waves_of ws)) (to_nat i) l in (
        t,
        subst (λ w. AreEquivalent H w (wave_of_arm i)) (sym (item-get (waves_of ws) t k
            ∙ ap (λ n. get_or (waves_of ws) n k) (to_nat-from_nat (length (waves_of ws)) (to_nat i) l)))
            (equivalent_refl H (wave_of_arm i)),
      )

  pub waves_limits : All IsWithinLimits ws
  waves_limits n d l = (at_arm n d l).limits

  pub waves_reduced : All (IsReducedIn sub.group) ws
  waves_reduced n d l = (at_arm n d l).reduced

  pub few_waves : length ws ≤ 2 ^ 32
  few_waves = let few = g.is_side.arms.few in let e = g.waves.count in omega (arith, few, e)

  pub waves_orders : All (HasOrder sub.group M) ws
  waves_orders n d l =
      let below : n < g.is_side.star.arms = subst (λ z. n < z) count l in
      let i = from_nat g.is_side.star.arms n below in
      let same : to_nat i ≡ n = to_nat-from_nat g.is_side.star.arms n below in
      let o = g.is_side.star.is_table.is_order in
      let e = has_exponent sub.group in
      order_along (basis sub.setting) (origin sub.setting) H (stands_for group) (space_group sub.group).is_group image g.subgroup
      (decide_reciprocal sub.group) e.0 e.1 (g.is_side.star.arm i) (wave_vector (get_or ws n d)) o.exponent o.period o.is_exponent
      o.is_period.positive (arm_reciprocal group g.is_side.star o.period o.is_period.reciprocal i) M
      (subst (λ x. x ∣ M) o.is_product g.divides)
      (subst (λ w. AreEquivalent H w (g.is_side.star.arm i · basis sub.setting)) (own_wave i d ∙ ap (λ j. wave_vector (get_or ws j d)) same) (near_arm i))

  -- the arms at a star
  pub listed_arms : (wave : Wave) (t : Meeting) → IsMeeting group sub ws wave t
      → IsListing to_nat (λ (i : Fin g.is_side.star.arms). AreEquivalent H (wave_vector wave) (wave_of_arm i))
      (λ i j. to_nat i < to_nat j) t.arms.items
  listed_arms wave t is = listing_moved count
      (λ (j : Fin (length ws)). AreEquivalent H (wave_vector wave) (wave_vector (item ws j)))
      (λ (i : Fin g.is_side.star.arms). AreEquivalent H (wave_vector wave) (wave_of_arm i))
      (λ j i e. subst (AreEquivalent H (wave_vector wave)) (same_wave j i e))
      (λ j i e. subst (AreEquivalent H (wave_vector wave)) (sym (same_wave j i e)))
      t.arms.items is.arms
    where
      same_wave : (j : Fin (length ws)) (i : Fin g.is_side.star.arms) → to_nat j ≡ to_nat i → wave_vector (item ws j) ≡ wave_of_arm i
      same_wave j i e = ap wave_vector (item-get ws j (item ws j)) ∙ ap (λ n. wave_vector (get_or ws n (item ws j))) e
          ∙ sym (own_wave i (item ws j))

-- what the entries need
abbrev pub waves_of_side : (group : Group) (sub : Sub) (image : Operation → Operation) (k : WaveVector) {X : Type 0} {V : Ghosts X} (side : Side X V)
    (A : IsSideOf group k side) (n M : ℕ) → M ≡ n → IsOrder (stands_for group) k n → sub.group.phase ≡ group.phase
    → IsSubgroup (basis sub.setting) (origin sub.setting) (stands_for sub.group) (stands_for group) image
    → (ws : List Wave) → AreArmWaves sub side.star.arms.items ws → HasWaves group sub image k M side ws
waves_of_side group sub image k side A n M e order phase subgroup ws are = record {
  phase = phase;
  subgroup = subgroup;
  is_side = A;
  divides = subst (λ z. A.star.table.order ∣ z) (order_unique (stands_for group) k A.star.table.order n A.star.is_table.is_order order ∙ sym e)
      (Nat.dvd_refl A.star.table.order);
  waves = are;
}

abbrev pub meetings_of : {X : Type 0} {V : Ghosts X} {group : Group} {sub : Sub} {image : Operation → Operation} {k : WaveVector} {M : ℕ}
    {side : Side X V} {ws : List Wave} (g : HasWaves group sub image k M side ws) (found waves : List Wave) (made stars : List (StarCharacters X))
    (met ts : List Meeting) → waves ≡ found → stars ≡ made → ts ≡ met
    → AreStarsOf (stands_for sub.group) (waves_of ws) (waves_of found)
    → map (λ (c : StarCharacters X). c.wave) made ≡ waves → All (AreStarCharacters V.order_of V.value sub.group M) made
    → AreMeetings group sub ws stars met → HasMeetings group sub image k M side ws stars ts
meetings_of {X} {V} {group} {sub} {image} {k} {M} {side} {ws} g found waves made stars met ts is_waves is_stars is_ts are same characters meetings = record {
  given = g;
  stars = stars_of_waves sub.group (waves_of ws) found stars (ap (map (λ (c : StarCharacters X). c.wave)) is_stars ∙ same ∙ is_waves) are;
  characters = subst (λ xs. All (AreStarCharacters V.order_of V.value sub.group M) xs) (sym is_stars) characters;
  meetings = subst (λ xs. AreMeetings group sub ws stars xs) (sym is_ts) meetings;
}
