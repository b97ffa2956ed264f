-- The search for the stars of some wave vectors, one wave vector after another.
--   none_searched                no wave vector
--   known_star, new_star         one more: its star is known, or a new one
--   some_arm                     a star has an arm
--   keys_kept, arms_known        what is known of the keys, and of the arms of a new star
--   orders_of_stars              the representatives have the orders of the wave vectors asked for
use Rattle.std.proofs.Common.{◌≡◌, sym, ◌∙◌, ap, subst, subst₂, ℕ, ℤ, ◌<◌, List, [], ◌∷◌, ◌++◌, length, get_or, Contains, arith}
use Rattle.std.specs.List.{All}
use Rattle.std.proofs.lemmas.List.{get_or-map, length-map}
use Rattle.std.proofs.lemmas.List.Elements.{All-nil}
use Rattle.irr_algebra.specs.Fin.{Fin, to_nat}
use Rattle.irr_algebra.proofs.Indices.{from_nat, to_nat-from_nat, to_nat-lt}
use Rattle.irr_rational.specs.Order.{IsAtMost}
use Rattle.irr_space.specs.Operation.{WaveVector, wave_component}
use Rattle.irr_space.specs.Star.{IsArms, IsInStar}
use Rattle.irr_kvec.specs.Centrings.{IsWithinLimits}
use Rattle.irr_kvec.specs.WaveMeaning.{wave_of, wave_vector}
use Rattle.irr_kvec.specs.declared.wave.Wave.{Wave}
use Rattle.irr_cocycle.specs.SpaceGroupLaws.{IsGroup}
use Rattle.irr_close.specs.Canonical.{numbered}
use Rattle.irr_close.specs.StandsFor.{stands_for}
use Rattle.irr_close.specs.declared.group.Group.{Group}
use Rattle.irr_close.proofs.SpaceGroups.{space_group}
use Rattle.irr_little.specs.Arms.{AreArms}
use Rattle.irr_little.specs.declared.arms.Arm.{Arm}
use Rattle.irr_little.proofs.Spaces.{numbering_of}
use Rattle.irr_full.specs.Parts.{IsRepresentative}
use Rattle.irr_mult.specs.Listing.{item}
use Rattle.irr_mult.specs.OrderedWaves.{IsWith, waves_of}
use Rattle.irr_mult.specs.Stars.{AreStarsOf}
use Rattle.irr_mult.specs.StarSearch.{AreSearched, HasOrder, IsKnown, key}
use Rattle.irr_mult.proofs.Listings.{item-get}
use Rattle.irr_mult.proofs.StarFacts.{some_operation}
use Rattle.irr_mult.proofs.StarOrders.{order_in_star, star_reflexive, star_symmetric, star_transitive}
use Rattle.irr_mult.proofs.StarsSoFar.{arm_in_star, kept_with, known_stars, more_stars, present_with, representative_of_arms}

module _ (group : Group) where
  pub none_searched : AreSearched group [] [] []
  none_searched = record {
    stars = record {
      representative = λ i. elim i [ ];
      from = λ i. elim i [ ];
      all = λ j. elim j [ ];
      ordered = λ i. elim i [ ];
    };
    limits = All-nil IsWithinLimits;
    known = All-nil (IsKnown group []);
  }

  pub known_star : (ws : List WaveVector) (found : List Wave) (keys : List (List ℤ × ℕ)) (w : Wave)
      → AreSearched group ws found keys → Contains keys (key w) → AreSearched group (ws ++ wave_vector w ∷ []) found keys
  known_star ws found keys w h (n, l, e) =
      let at : IsKnown group found (key w) = subst (IsKnown group found) e (h.known n (key w) l) in record {
        stars = known_stars (stands_for group) (space_group group).is_group ws (waves_of found) (wave_vector w) h.stars
            at.0 at.1;
        limits = h.limits;
        known = h.known;
      }

module _ (group : Group) (w : Wave) (arms : List Arm) (are : AreArms group (wave_vector w) arms) where
  is_group : IsGroup (stands_for group)
  is_group = (space_group group).is_group

  any : Arm
  any = record { wave = w; op = 0 }

  member : (j : Fin (length group.ops.items)) → stands_for group (numbered group.ops.items (some_operation group) j)
  member j = ((numbering_of group (some_operation group)).canonical j).member

  abbrev is_star : IsArms (stands_for group) (wave_vector w) (numbered group.ops.items (some_operation group))
      (λ i. wave_vector (get_or arms (to_nat i) any).wave) are.number
  is_star = are.star (some_operation group) any

  pub some_arm : 0 < length arms
  some_arm =
      let first = is_star.all (wave_vector w) (star_reflexive (stands_for group) is_group (wave_vector w)) in
      let l = to_nat-lt first.0 in omega (arith, l)

  own_arm : (i : Fin (length arms)) → wave_vector (get_or arms (to_nat i) any).wave ≡ wave_vector (item arms i).wave
  own_arm i = ap (λ (a : Arm). wave_vector a.wave) (sym (item-get arms i any))

  in_star : (i : Fin (length arms)) → IsInStar (stands_for group) (wave_vector w) (wave_vector (item arms i).wave)
  in_star i = subst (IsInStar (stands_for group) (wave_vector w)) (own_arm i)
      (arm_in_star (stands_for group) is_group (wave_vector w) (numbered group.ops.items (some_operation group))
      (λ i. wave_vector (get_or arms (to_nat i) any).wave) are.number is_star member i)

  module _ (r : Wave) (chosen : (i : Fin (length arms)) × ((item arms i).wave ≡ r))
      (least : (i : Fin (length arms))
      → IsAtMost (wave_component (wave_vector r)) (wave_component (wave_vector (item arms i).wave))) where
    own : wave_vector (get_or arms (to_nat chosen.0) any).wave ≡ wave_vector r
    own = own_arm chosen.0 ∙ ap wave_vector chosen.1

    representative : IsRepresentative (stands_for group) (wave_vector r)
    representative = subst (IsRepresentative (stands_for group)) own
        (representative_of_arms (stands_for group) is_group (wave_vector w)
        (numbered group.ops.items (some_operation group))
        (λ i. wave_vector (get_or arms (to_nat i) any).wave) are.number is_star member chosen.0
        (λ j. subst₂ (λ x y. IsAtMost (wave_component x) (wave_component y)) (sym own) (sym (own_arm j)) (least j)))

    leads : IsInStar (stands_for group) (wave_vector w) (wave_vector r)
    leads = subst (λ (v : Wave). IsInStar (stands_for group) (wave_vector w) (wave_vector v)) chosen.1 (in_star chosen.0)

    module _ (found new : List Wave) (with : IsWith (waves_of found) (wave_vector r) (waves_of new)) where
      pub keys_kept : (keys : List (List ℤ × ℕ)) → All (IsKnown group found) keys → All (IsKnown group new) keys
      keys_kept keys h n d l =
          let k = get_or keys n d in
          let at : IsKnown group found k = h n d l in
          kept_with (λ v. IsInStar (stands_for group) v (wave_of k.0 k.1)) (waves_of found) (waves_of new)
          (wave_vector r) with at.0 at.1

      arm_known : (i : Fin (length arms)) → IsKnown group new (key (item arms i).wave)
      arm_known i = present_with (λ v. IsInStar (stands_for group) v (wave_vector (item arms i).wave)) (waves_of found)
          (waves_of new) (wave_vector r) with
          (star_transitive (stands_for group) is_group (wave_vector r) (wave_vector w) (wave_vector (item arms i).wave)
          (star_symmetric (stands_for group) is_group (wave_vector w) (wave_vector r) leads) (in_star i))

      pub arms_known : All (λ (a : Arm). IsKnown group new (key a.wave)) arms
      arms_known n d l = subst (λ (a : Arm). IsKnown group new (key a.wave))
          (item-get arms (from_nat (length arms) n l) d ∙ ap (λ m. get_or arms m d) (to_nat-from_nat (length arms) n l))
          (arm_known (from_nat (length arms) n l))

      pub new_star : (ws : List WaveVector) (keys after : List (List ℤ × ℕ)) → AreSearched group ws found keys
          → All IsWithinLimits new → All (IsKnown group new) after
          → AreSearched group (ws ++ wave_vector w ∷ []) new after
      new_star ws keys after h limits known = record {
        stars = more_stars (stands_for group) is_group ws (waves_of found) (waves_of new) (wave_vector w)
            (wave_vector r) h.stars representative leads with;
        limits = limits;
        known = known;
      }

-- the wave vectors of one star have one order, so the representatives have those of the wave vectors asked for
pub orders_of_stars : (group : Group) (M : ℕ) (waves stars : List Wave)
    → AreStarsOf (stands_for group) (waves_of waves) (waves_of stars) → All (HasOrder group M) waves
    → All (HasOrder group M) stars
orders_of_stars group M waves stars are h n d l =
    let m : n < length (waves_of stars) = subst (λ k. n < k) (sym (length-map stars wave_vector)) l in
    let i = from_nat (length (waves_of stars)) n m in
    let from = are.from i in
    let j = from.0 in
    let inside : to_nat j < length waves = subst (λ k. to_nat j < k) (length-map waves wave_vector) (to_nat-lt j) in
    let own = h (to_nat j) d inside in
    let wave : wave_vector (get_or waves (to_nat j) d) ≡ item (waves_of waves) j =
    sym (item-get (waves_of waves) j (wave_vector d) ∙ get_or-map wave_vector waves (to_nat j) d (wave_vector d) inside) in
    let star : item (waves_of stars) i ≡ wave_vector (get_or stars n d) =
    item-get (waves_of stars) i (wave_vector d)
    ∙ ap (λ k. get_or (waves_of stars) k (wave_vector d)) (to_nat-from_nat (length (waves_of stars)) n m)
    ∙ get_or-map wave_vector stars n d (wave_vector d) l in (
      own.0,
      order_in_star (stands_for group) (space_group group).is_group (wave_vector (get_or waves (to_nat j) d))
          (wave_vector (get_or stars n d))
          (subst₂ (λ v w. IsInStar (stands_for group) v w) (sym wave) star from.1) own.0 own.1,
      own.2,
    )
