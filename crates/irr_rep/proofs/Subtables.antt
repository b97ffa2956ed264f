-- The restriction of a table to a subgroup, over each order.
--   subtable                 its factor system is a part of the table's, at the members
use Rattle.std.specs.Prelude.{ℕ, ◌≡◌, ◌<◌, ◌*◌, ◌/◌, List, length, slice_index}
use Rattle.std.specs.Int.{◌∣◌}
use Rattle.std.proofs.Common.{sym, ◌∙◌, ap, ap₂, subst}
use Rattle.irr_algebra.specs.Fin.{Fin, to_nat}
use Rattle.irr_algebra.proofs.Indices.{to_nat-lt, to_nat_inj}
use Rattle.irr_number.specs.Number.{root_power}
use Rattle.irr_number.proofs.Lifts.{lift-root_power}
use Rattle.irr_eigen.specs.Step.{Subtable}
use Rattle.irr_space.specs.PhaseTable.{PhaseTable, phases_over}
use Rattle.irr_rep.specs.Subgroup.{IsSubgroup, IsRestriction}

module _ {h n : ℕ} (T : PhaseTable h) (members : List ℕ) (S : PhaseTable n) (subgroup : IsSubgroup T members)
    (restriction : IsRestriction T members S)
    (M : ℕ) (v : T.order ∣ M) (w : S.order ∣ M) where
  within : (i : Fin n) → to_nat i < length members
  within i = subst (λ k. to_nat i < k) restriction.count (to_nat-lt i)

  pub subtable : (part : Subtable (phases_over S M w) (phases_over T M v)) × ((i : Fin n) → to_nat (part.place i) ≡ slice_index members (to_nat i))
  subtable = (
    record {
      place = restriction.member;
      injective = λ i j e. to_nat_inj i j (subgroup.distinct (to_nat i) (to_nat j) (within i) (within j)
          (sym (restriction.member-number i) ∙ ap to_nat e ∙ restriction.member-number j));
      place-start = to_nat_inj (restriction.member S.start) T.start
          (restriction.member-number S.start ∙ ap (slice_index members) S.start_first ∙ subgroup.unit_first ∙ sym T.start_first);
      place-product = restriction.member-product;
      place-phase = λ i j. lift-root_power S.order M S.order_positive w (S.exponent i j)
          ∙ ap₂ (λ (order x : ℕ). root_power M (M / order * x)) restriction.same_order (restriction.same_exponent i j)
          ∙ sym (lift-root_power T.order M T.order_positive v (T.exponent (restriction.member i) (restriction.member j)));
    },
    restriction.member-number,
  )
