-- Each subgroup of a table of phases has a restriction.
--   restricted               the table on the members
--   restricted_is            it is the restriction
use Rattle.std.specs.Prelude.{ℕ, zero, suc, ◌≡◌, ◌+◌, ◌%◌, List, length, slice_index}
use Rattle.std.specs.Int.{◌∣◌}
use Rattle.std.proofs.Common.{sym, ◌∙◌, ap, ap₂, subst, refl}
use Rattle.std.proofs.lemmas.List.{get_or_default}
use Rattle.irr_algebra.specs.Fin.{Fin, to_nat}
use Rattle.irr_algebra.proofs.Indices.{from_nat, to_nat-from_nat, to_nat-lt, to_nat_inj}
use Rattle.irr_space.specs.PhaseTable.{exponents_below, IsPlaceOrder, PhaseTable, place_power}
use Rattle.irr_rep.specs.Subgroup.{IsRestriction, IsSubgroup}
use Rattle.irr_chain.specs.NormalSubgroup.{In}

module _ {h : ℕ} (T : PhaseTable h) (members : List ℕ) (subgroup : IsSubgroup T members) where
  -- the place of the member at a position
  member : Fin (length members) → Fin h
  member i = from_nat h (slice_index members (to_nat i)) (subgroup.below (to_nat i) (to_nat-lt i))

  member-number : (i : Fin (length members)) → to_nat (member i) ≡ slice_index members (to_nat i)
  unfolding member
  member-number i = to_nat-from_nat h (slice_index members (to_nat i)) (subgroup.below (to_nat i) (to_nat-lt i))

  member_inj : (i j : Fin (length members)) → member i ≡ member j → i ≡ j
  member_inj i j e = to_nat_inj i j
      (subgroup.distinct (to_nat i) (to_nat j) (to_nat-lt i) (to_nat-lt j) (sym (member-number i) ∙ ap to_nat e ∙ member-number j))

  member_in : (i : Fin (length members)) → In members (member i)
  member_in i = (to_nat i, to_nat-lt i, get_or_default members (to_nat i) (to_nat (member i)) 0 (to_nat-lt i) ∙ sym (member-number i))

  position : (x : Fin h) → In members x → (k : Fin (length members)) × (member k ≡ x)
  position x (a, l, e) = (
    from_nat (length members) a l,
    to_nat_inj (member (from_nat (length members) a l)) x
        (member-number (from_nat (length members) a l) ∙ ap (slice_index members) (to_nat-from_nat (length members) a l)
        ∙ get_or_default members a 0 (to_nat x) l ∙ e),
  )

  unit_place : Fin (length members)
  unit_place = from_nat (length members) 0 subgroup.not_empty

  unit-number : to_nat unit_place ≡ 0
  unfolding unit_place
  unit-number = to_nat-from_nat (length members) 0 subgroup.not_empty

  member-unit : member unit_place ≡ T.start
  member-unit = to_nat_inj (member unit_place) T.start
      (member-number unit_place ∙ ap (slice_index members) unit-number ∙ subgroup.unit_first ∙ sym T.start_first)

  found : (i j : Fin (length members)) → (k : Fin (length members)) × (member k ≡ T.product (member i) (member j))
  found i j = position (T.product (member i) (member j)) (subgroup.products_inside (member i) (member j) (member_in i) (member_in j))

  found_opposite : (i : Fin (length members)) → (k : Fin (length members)) × (member k ≡ T.opposite (member i))
  found_opposite i = position (T.opposite (member i)) (subgroup.opposites_inside (member i) (member_in i))

  times : (i j : Fin (length members)) → Fin (length members)
  times i j = (found i j).0

  member-times : (i j : Fin (length members)) → member (times i j) ≡ T.product (member i) (member j)
  unfolding times
  member-times i j = (found i j).1

  inverse : Fin (length members) → Fin (length members)
  inverse i = (found_opposite i).0

  member-inverse : (i : Fin (length members)) → member (inverse i) ≡ T.opposite (member i)
  unfolding inverse
  member-inverse i = (found_opposite i).1

  exponent_at : (i j : Fin (length members)) → ℕ
  exponent_at i j = T.exponent (member i) (member j)

  member-power : (i : Fin (length members)) (e : ℕ) → member (place_power unit_place times i e) ≡ place_power T.start T.product (member i) e
  unfolding place_power
  member-power i zero = member-unit
  member-power i (suc e) = member-times i (place_power unit_place times i e) ∙ ap (T.product (member i)) (member-power i e)

  exponents-same : (i : Fin (length members)) (e : ℕ)
      → exponents_below unit_place times exponent_at i e ≡ exponents_below T.start T.product T.exponent (member i) e
  unfolding exponents_below exponent_at
  exponents-same i zero = refl
  exponents-same i (suc e) = ap₂ (λ a b. a + b) (exponents-same i e) (ap (T.exponent (member i)) (member-power i e))

  same_order : (i : Fin (length members)) (m : ℕ) → IsPlaceOrder unit_place times i m → IsPlaceOrder T.start T.product (member i) m
  same_order i m o = record {
    positive = o.positive;
    power = sym (member-power i m) ∙ ap member o.power ∙ member-unit;
    least = λ n l e. o.least n l (member_inj (place_power unit_place times i n) unit_place (member-power i n ∙ e ∙ sym member-unit));
  }

  pub restricted : PhaseTable (length members)
  unfolding exponent_at
  restricted = record {
    order = T.order;
    order_positive = T.order_positive;
    start = unit_place;
    start_first = unit-number;
    product = times;
    opposite = inverse;
    exponent = exponent_at;
    start-product = λ i. member_inj (times unit_place i) i
        (member-times unit_place i ∙ ap (λ x. T.product x (member i)) member-unit ∙ T.start-product (member i));
    product-start = λ i. member_inj (times i unit_place) i (member-times i unit_place ∙ ap (T.product (member i)) member-unit ∙ T.product-start (member i));
    product_assoc = λ i j k. member_inj (times (times i j) k) (times i (times j k))
        (member-times (times i j) k ∙ ap (λ x. T.product x (member k)) (member-times i j) ∙ T.product_assoc (member i) (member j) (member k)
        ∙ sym (member-times i (times j k) ∙ ap (T.product (member i)) (member-times j k)));
    opposite-product = λ i. member_inj (times (inverse i) i) unit_place
        (member-times (inverse i) i ∙ ap (λ x. T.product x (member i)) (member-inverse i) ∙ T.opposite-product (member i) ∙ sym member-unit);
    product-opposite = λ i. member_inj (times i (inverse i)) unit_place
        (member-times i (inverse i) ∙ ap (T.product (member i)) (member-inverse i) ∙ T.product-opposite (member i) ∙ sym member-unit);
    exponent_below = λ i j. T.exponent_below (member i) (member j);
    exponent-start = λ i. ap (T.exponent (member i)) member-unit ∙ T.exponent-start (member i);
    start-exponent = λ i. ap (λ x. T.exponent x (member i)) member-unit ∙ T.start-exponent (member i);
    exponent_assoc = λ i j k.
        ap (λ x. (T.exponent (member i) (member j) + T.exponent x (member k)) % T.order) (member-times i j)
        ∙ T.exponent_assoc (member i) (member j) (member k)
        ∙ ap (λ x. (T.exponent (member j) (member k) + T.exponent (member i) x) % T.order) (sym (member-times j k));
    order_divides = λ i m o. T.order_divides (member i) m (same_order i m o);
    exponents_divided = λ i m o. subst (λ s. m ∣ s) (sym (exponents-same i m)) (T.exponents_divided (member i) m (same_order i m o));
  }

  pub restricted_is : IsRestriction T members restricted
  unfolding restricted exponent_at
  restricted_is = record {
    count = refl;
    same_order = refl;
    member = member;
    member-number = member-number;
    member-product = member-times;
    same_exponent = λ i j. refl;
  }
