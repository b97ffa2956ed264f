-- Restrictions of a table to subgroups, one inside the other.
--   member_inj, member_in    the members of a restriction are different, and in its list
--   position                 each element of the list has its place in the restriction
--   member_start, member_power       the unit and the powers
--   whole_restriction        the table is its own restriction to the list of all places
--   inner_part               the restriction to the inner subgroup is a part of that to the outer one
--   member_at                of such a part, the place of a member in the table
use Rattle.std.specs.Prelude.{ℕ, zero, suc, ◌≡◌, ◌<◌, ◌*◌, ◌/◌, List, length, slice_index}
use Rattle.std.specs.Int.{◌∣◌}
use Rattle.std.proofs.Common.{sym, ◌∙◌, ap, ap₂, subst, refl}
use Rattle.std.proofs.lemmas.List.{get_or_default}
use Rattle.irr_algebra.specs.Fin.{Fin, to_nat}
use Rattle.irr_algebra.proofs.Indices.{from_nat, to_nat-from_nat, to_nat-lt, to_nat_inj}
use Rattle.irr_number.specs.Number.{root_power}
use Rattle.irr_number.proofs.Lifts.{lift-root_power}
use Rattle.irr_eigen.specs.Step.{Subtable}
use Rattle.irr_clifford.specs.Cyclic.{place_power as table_power}
use Rattle.irr_space.specs.PhaseTable.{PhaseTable, phases_over, place_power}
use Rattle.irr_rep.specs.Subgroup.{IsSubgroup, IsRestriction}
use Rattle.irr_chain.specs.NormalSubgroup.{In}
use Rattle.irr_chain.specs.Quotient.{power}
use Rattle.irr_level.specs.Part.{ArePositions}

module _ {h n : ℕ} (T : PhaseTable h) (members : List ℕ) (S : PhaseTable n) (subgroup : IsSubgroup T members) (restriction : IsRestriction T members S) where
  within : (i : Fin n) → to_nat i < length members
  within i = subst (λ k. to_nat i < k) restriction.count (to_nat-lt i)

  pub member_inj : (i j : Fin n) → restriction.member i ≡ restriction.member j → i ≡ j
  member_inj i j e = to_nat_inj i j (subgroup.distinct (to_nat i) (to_nat j) (within i) (within j)
      (sym (restriction.member-number i) ∙ ap to_nat e ∙ restriction.member-number j))

  pub member_in : (i : Fin n) → In members (restriction.member i)
  member_in i = (to_nat i, within i, get_or_default members (to_nat i) (to_nat (restriction.member i)) 0 (within i) ∙ sym (restriction.member-number i))

  pub position : (x : Fin h) → In members x → (k : Fin n) × (restriction.member k ≡ x)
  position x (a, l, e) =
      let below : a < n = subst (λ k. a < k) (sym restriction.count) l in (
        from_nat n a below,
        to_nat_inj (restriction.member (from_nat n a below)) x
            (restriction.member-number (from_nat n a below) ∙ ap (slice_index members) (to_nat-from_nat n a below)
            ∙ get_or_default members a 0 (to_nat x) l ∙ e),
      )

  pub member_start : restriction.member S.start ≡ T.start
  member_start = to_nat_inj (restriction.member S.start) T.start
      (restriction.member-number S.start ∙ ap (slice_index members) S.start_first ∙ subgroup.unit_first ∙ sym T.start_first)

  pub member_power : (M : ℕ) (w : S.order ∣ M) (g : Fin n) (e : ℕ) → restriction.member (table_power (phases_over S M w) g e) ≡ power T (restriction.member g) e
  unfolding table_power place_power
  member_power M w g zero = member_start
  member_power M w g (suc e) =
      restriction.member-product g (table_power (phases_over S M w) g e) ∙ ap (T.product (restriction.member g)) (member_power M w g e)

pub whole_restriction : {h : ℕ} (T : PhaseTable h) (members : List ℕ) → length members ≡ h
    → ((a : ℕ) → a < h → slice_index members a ≡ a) → IsRestriction T members T
whole_restriction T members count numbers = record {
  count = sym count;
  same_order = refl;
  member = λ i. i;
  member-number = λ i. sym (numbers (to_nat i) (to_nat-lt i));
  member-product = λ i j. refl;
  same_exponent = λ i j. refl;
}

module _ {h m n : ℕ} (T : PhaseTable h) (inner outer : List ℕ) (S : PhaseTable n) (U : PhaseTable m)
    (small : IsSubgroup T inner) (large : IsSubgroup T outer) (low : IsRestriction T inner S) (high : IsRestriction T outer U)
    (M : ℕ) (v : U.order ∣ M) (w : S.order ∣ M) where
  module _ (has : (i : Fin h) → In inner i → In outer i) where
    placed : (i : Fin n) → (k : Fin m) × (high.member k ≡ low.member i)
    placed i = position T outer U large high (low.member i) (has (low.member i) (member_in T inner S small low i))

    same_exponents : (i j : Fin n) → S.exponent i j ≡ U.exponent (placed i).0 (placed j).0
    same_exponents i j = low.same_exponent i j ∙ ap₂ T.exponent (sym (placed i).1) (sym (placed j).1) ∙ sym (high.same_exponent (placed i).0 (placed j).0)

    pub inner_part : (part : Subtable (phases_over S M w) (phases_over U M v)) × ArePositions inner outer part.place
    inner_part = (
      record {
        place = λ i. (placed i).0;
        injective = λ i j e. member_inj T inner S small low i j (sym (placed i).1 ∙ ap high.member e ∙ (placed j).1);
        place-start = member_inj T outer U large high (placed S.start).0 U.start
            ((placed S.start).1 ∙ member_start T inner S small low ∙ sym (member_start T outer U large high));
        place-product = λ i j. member_inj T outer U large high (placed (S.product i j)).0 (U.product (placed i).0 (placed j).0)
            ((placed (S.product i j)).1 ∙ low.member-product i j ∙ ap₂ T.product (sym (placed i).1) (sym (placed j).1)
            ∙ sym (high.member-product (placed i).0 (placed j).0));
        place-phase = λ i j. lift-root_power S.order M S.order_positive w (S.exponent i j)
            ∙ ap₂ (λ (order x : ℕ). root_power M (M / order * x)) (low.same_order ∙ sym high.same_order) (same_exponents i j)
            ∙ sym (lift-root_power U.order M U.order_positive v (U.exponent (placed i).0 (placed j).0));
      },
      λ i. sym (high.member-number (placed i).0) ∙ ap to_nat (placed i).1 ∙ low.member-number i,
    )

  pub member_at : (at : Fin n → Fin m) → ArePositions inner outer at → (i : Fin n) → high.member (at i) ≡ low.member i
  member_at at positions i = to_nat_inj (high.member (at i)) (low.member i) (high.member-number (at i) ∙ positions i ∙ sym (low.member-number i))
