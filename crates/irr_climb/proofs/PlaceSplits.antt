-- The places of a table split into a power of the generator and a member, as the cyclic quotient splits them.
--   power_at                 the powers of a place, in the table of phases and in its factor system
--   split_exists             each place splits
--   split_is                 a place splits in one way
use Rattle.std.specs.Prelude.{ℕ, zero, suc, ◌≡◌, ◌<◌, List, length, slice_index}
use Rattle.std.specs.Int.{◌∣◌}
use Rattle.std.proofs.Common.{sym, ◌∙◌, ap, ap₂, subst, refl}
use Rattle.irr_algebra.specs.Fin.{Fin, to_nat}
use Rattle.irr_algebra.proofs.Indices.{from_nat, to_nat-from_nat, to_nat-lt, to_nat_inj}
use Rattle.irr_eigen.specs.Step.{Subtable}
use Rattle.irr_clifford.specs.Cyclic.{CyclicQuotient, place_power as table_power}
use Rattle.irr_space.specs.PhaseTable.{PhaseTable, phases_over, place_power}
use Rattle.irr_chain.specs.Quotient.{power}
use Rattle.irr_chain.proofs.GroupLaws.{cancel_left}
use Rattle.irr_level.specs.Part.{as_subgroup}
use Rattle.irr_climb.specs.Splits.{HasSplit, IsSplit}

pub power_at : {h : ℕ} (T : PhaseTable h) (M : ℕ) (v : T.order ∣ M) (g : Fin h) (e : ℕ) → table_power (phases_over T M v) g e ≡ power T g e
unfolding table_power place_power
power_at T M v g zero = refl
power_at T M v g (suc e) = ap (T.product g) (power_at T M v g e)

module _ {n m : ℕ} (S : PhaseTable n) (U : PhaseTable m) (M : ℕ) (w : S.order ∣ M) (v : U.order ∣ M)
    (sub : Subtable (phases_over S M w) (phases_over U M v)) (Q : CyclicQuotient (as_subgroup sub)) (members : List ℕ) (count : length members ≡ n)
    (at : (i : Fin n) → slice_index members (to_nat i) ≡ to_nat (sub.place i)) (g : ℕ) (is : to_nat Q.generator ≡ g) where
  pub split_exists : (x : Fin m) → HasSplit U members g Q.index (to_nat x)
  split_exists x = (
    to_nat (Q.exponent x),
    to_nat (Q.part x),
    record {
      exponent_below = to_nat-lt (Q.exponent x);
      part_inside = subst (λ k. to_nat (Q.part x) < k) (sym count) (to_nat-lt (Q.part x));
      is_product = λ a b d e. ap to_nat (
          ap₂ (λ a b. U.product (power U a (to_nat (Q.exponent x))) b) (to_nat_inj a Q.generator (d ∙ sym is))
          (to_nat_inj b (sub.place (Q.part x)) (e ∙ at (Q.part x)))
          ∙ ap (λ a. U.product a (sub.place (Q.part x))) (sym (power_at U M v Q.generator (to_nat (Q.exponent x))))
          ∙ Q.splits x);
    },
  )

  module _ (x : Fin m) (e k : ℕ) (split : IsSplit U members g Q.index (to_nat x) e k) where
    exponent : Fin Q.index
    exponent = from_nat Q.index e split.exponent_below

    inside : k < n
    inside = subst (λ c. k < c) count split.part_inside

    part : Fin n
    part = from_nat n k inside

    product : U.product (table_power (phases_over U M v) Q.generator (to_nat exponent)) (sub.place part) ≡ x
    unfolding exponent part
    product =
        ap (λ a. U.product a (sub.place part)) (power_at U M v Q.generator (to_nat exponent)
        ∙ ap (power U Q.generator) (to_nat-from_nat Q.index e split.exponent_below))
        ∙ to_nat_inj (U.product (power U Q.generator e) (sub.place part)) x
        (split.is_product Q.generator (sub.place part) is (sym (at part) ∙ ap (slice_index members) (to_nat-from_nat n k inside)))

    same_exponent : exponent ≡ Q.exponent x
    same_exponent = Q.one_exponent exponent (Q.exponent x) part (Q.part x) (product ∙ sym (Q.splits x))

    same_part : part ≡ Q.part x
    same_part =
        let left = table_power (phases_over U M v) Q.generator (to_nat (Q.exponent x)) in
        let one : U.product left (sub.place part) ≡ U.product left (sub.place (Q.part x)) =
        ap (λ a. U.product (table_power (phases_over U M v) Q.generator (to_nat a)) (sub.place part)) (sym same_exponent) ∙ product ∙ sym
        (Q.splits x) in
        sub.injective part (Q.part x)
        (sym (cancel_left U left (sub.place part)) ∙ ap (U.product (U.opposite left)) one ∙ cancel_left U left (sub.place (Q.part x)))

    pub split_is : (e ≡ to_nat (Q.exponent x)) × (k ≡ to_nat (Q.part x))
    unfolding exponent to_nat part
    split_is = (
      sym (to_nat-from_nat Q.index e split.exponent_below) ∙ ap to_nat same_exponent,
      sym (to_nat-from_nat n k inside) ∙ ap to_nat same_part,
    )
