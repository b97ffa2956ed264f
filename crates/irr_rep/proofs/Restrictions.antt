-- The restriction of a table to the members of a subgroup.
--   group-inside, factors-inside     the laws of the lists of the members
--   restricted_group, restricted_inverses, restricted_factors    the same for lists that are filled row by row
--   restricted_table                 a table with these lists is the restriction
--   restricted_result                and so is what a call gives that made it
use Rattle.std.specs.Prelude.{ℕ, zero, suc, ◌≡◌, ◌<◌, ◌+◌, ◌%◌, List, length, slice_index, Result, Ok, Err, IfOk}
use Rattle.std.specs.Int.{◌∣◌}
use Rattle.std.proofs.Common.{sym, ◌∙◌, ap, ap₂, subst, refl}
use Rattle.irr_algebra.specs.Fin.{Fin, to_nat}
use Rattle.irr_algebra.proofs.Indices.{to_nat-lt, to_nat_inj}
use Rattle.irr_space.specs.PhaseTable.{PhaseTable}
use Rattle.irr_rep.specs.declared.table.Twisted.{Twisted}
use Rattle.irr_rep.specs.Table.{IsGroup, HasInverses, IsElementOrder, IsFactorSystem, AreEntries, entry, power_of, exponents_along, IsListed}
use Rattle.irr_rep.specs.Subgroup.{IsRestriction, IsSubgroup}
use Rattle.irr_rep.specs.Twisted.{IsMemberExponent, IsMemberProduct, operation_places, phase_table, place_count}
use Rattle.irr_rep.proofs.Members.{inverse_inside, member_place, to_nat-member_place}
use Rattle.irr_rep.proofs.Readings.{product-phase_table, exponent-phase_table, order-phase_table}

-- the products l' at positions below n are those of l at the members m
module _ (h n : ℕ) (l l' : ℕ → ℕ → ℕ) (m : ℕ → ℕ) (group : IsGroup h l) (below : (a : ℕ) → a < n → m a < h)
    (distinct : (a b : ℕ) → a < n → b < n → m a ≡ m b → a ≡ b) (positive : 0 < n) (first : m 0 ≡ 0)
    (inside : (a b : ℕ) → a < n → b < n → (l' a b < n) × (m (l' a b) ≡ l (m a) (m b))) where
  pub group-inside : IsGroup n l'
  group-inside = record {
    product_below = λ a b p q. (inside a b p q).0;
    unit-product = λ a p. distinct (l' 0 a) a (inside 0 a positive p).0 p
        ((inside 0 a positive p).1 ∙ ap (λ k. l k (m a)) first ∙ group.unit-product (m a) (below a p));
    product-unit = λ a p. distinct (l' a 0) a (inside a 0 p positive).0 p
        ((inside a 0 p positive).1 ∙ ap (l (m a)) first ∙ group.product-unit (m a) (below a p));
    product_assoc = λ a b c p q r. distinct (l' (l' a b) c) (l' a (l' b c)) (inside (l' a b) c (inside a b p q).0 r).0
        (inside a (l' b c) p (inside b c q r).0).0
        ((inside (l' a b) c (inside a b p q).0 r).1 ∙ ap (λ k. l k (m c)) (inside a b p q).1
        ∙ group.product_assoc (m a) (m b) (m c) (below a p) (below b q) (below c r)
        ∙ sym ((inside a (l' b c) p (inside b c q r).0).1 ∙ ap (l (m a)) (inside b c q r).1));
  }

  pub inverses-inside : ((a : ℕ) → a < n → (b : ℕ) × (b < n) × (l (m a) (m b) ≡ 0)) → HasInverses n l'
  inverses-inside inverse a p =
      let b : (b : ℕ) × (b < n) × (l (m a) (m b) ≡ 0) = inverse a p in
      (b.0, b.1, distinct (l' a b.0) 0 (inside a b.0 p b.1).0 positive ((inside a b.0 p b.1).1 ∙ b.2 ∙ sym first))

  power-inside : (a : ℕ) → a < n → (k : ℕ) → (power_of l' a k < n) × (m (power_of l' a k) ≡ power_of l (m a) k)
  unfolding power_of
  power-inside a p zero = (positive, first)
  power-inside a p (suc k) =
      let so_far : (power_of l' a k < n) × (m (power_of l' a k) ≡ power_of l (m a) k) = power-inside a p k in
      ((inside a (power_of l' a k) p so_far.0).0, (inside a (power_of l' a k) p so_far.0).1 ∙ ap (l (m a)) so_far.1)

  order-inside : (a k : ℕ) → a < n → IsElementOrder l' a k → IsElementOrder l (m a) k
  order-inside a k p order = record {
    positive = order.positive;
    power-order = sym (power-inside a p k).1 ∙ ap m order.power-order ∙ first;
    least = λ j above e. order.least j above (distinct (power_of l' a j) 0 (power-inside a p j).0 positive ((power-inside a p j).1 ∙ e ∙ sym first));
  }

  module _ (x x' : ℕ → ℕ → ℕ) (same : (a b : ℕ) → a < n → b < n → x' a b ≡ x (m a) (m b)) where
    exponents-inside : (a : ℕ) → a < n → (k : ℕ) → exponents_along l' x' a k ≡ exponents_along l x (m a) k
    unfolding exponents_along
    exponents-inside a p zero = refl
    exponents-inside a p (suc k) =
        ap₂ (λ u v. u + v) (exponents-inside a p k) (same a (power_of l' a k) p (power-inside a p k).0 ∙ ap (x (m a)) (power-inside a p k).1)

    pub factors-inside : (order : ℕ) → IsFactorSystem order h l x → IsFactorSystem order n l' x'
    factors-inside order factors = record {
      exponent_below = λ a b p q. subst (λ k. k < order) (sym (same a b p q)) (factors.exponent_below (m a) (m b) (below a p) (below b q));
      unit-exponent = λ a p. same 0 a positive p ∙ ap (λ k. x k (m a)) first ∙ factors.unit-exponent (m a) (below a p);
      exponent-unit = λ a p. same a 0 p positive ∙ ap (x (m a)) first ∙ factors.exponent-unit (m a) (below a p);
      exponent_assoc = λ a b c p q r.
          ap₂ (λ u v. (u + v) % order) (same a b p q) (same (l' a b) c (inside a b p q).0 r ∙ ap (λ k. x k (m c)) (inside a b p q).1)
          ∙ factors.exponent_assoc (m a) (m b) (m c) (below a p) (below b q) (below c r)
          ∙ sym (ap₂ (λ u v. (u + v) % order) (same b c q r) (same a (l' b c) p (inside b c q r).0 ∙ ap (x (m a)) (inside b c q r).1));
      order_divides = λ a k p o. factors.order_divides (m a) k (below a p) (order-inside a k p o);
      exponents_divided = λ a k p o. subst (λ s. k ∣ s) (sym (exponents-inside a p k))
          (factors.exponents_divided (m a) k (below a p) (order-inside a k p o));
    }

module _ (t : Twisted) (members : List ℕ) (subgroup : IsSubgroup (phase_table t) members) (xs ys : List ℕ) where
  abbrev product : ℕ → ℕ → ℕ
  product = entry (place_count t) t.products.items

  abbrev exponent : ℕ → ℕ → ℕ
  exponent = entry (place_count t) t.exponents.items

  -- at the length of the list of members
  group_of_members : AreEntries (length members) (IsMemberProduct t members) xs → IsGroup (length members) (entry (length members) xs)
  group_of_members products = group-inside (place_count t) (length members) product (entry (length members) xs) (slice_index members)
      t.group subgroup.below subgroup.distinct subgroup.not_empty subgroup.unit_first products

  inverses_of_members : AreEntries (length members) (IsMemberProduct t members) xs → HasInverses (length members) (entry (length members) xs)
  inverses_of_members products = inverses-inside (place_count t) (length members) product (entry (length members) xs) (slice_index members)
      t.group subgroup.below subgroup.distinct subgroup.not_empty subgroup.unit_first products (inverse_inside t members subgroup)

  factors_of_members : AreEntries (length members) (IsMemberProduct t members) xs → AreEntries (length members) (IsMemberExponent t members) ys
      → IsFactorSystem t.order (length members) (entry (length members) xs) (entry (length members) ys)
  factors_of_members products exponents = factors-inside (place_count t) (length members) product (entry (length members) xs) (slice_index members)
      t.group subgroup.below subgroup.distinct subgroup.not_empty subgroup.unit_first products exponent
      (entry (length members) ys) exponents t.order t.factors

  module _ (n : ℕ) (count : n ≡ length members) (products : AreEntries (length members) (IsMemberProduct t members) xs) where
    pub restricted_group : IsGroup n (entry n xs)
    restricted_group = subst (λ k. IsGroup k (entry k xs)) (sym count) (group_of_members products)

    pub restricted_inverses : HasInverses n (entry n xs)
    restricted_inverses = subst (λ k. HasInverses k (entry k xs)) (sym count) (inverses_of_members products)

    module _ (exponents : AreEntries (length members) (IsMemberExponent t members) ys) where
      pub restricted_factors : IsFactorSystem t.order n (entry n xs) (entry n ys)
      restricted_factors = subst (λ k. IsFactorSystem t.order k (entry k xs) (entry k ys)) (sym count) (factors_of_members products exponents)

      pub restricted_table : (S : PhaseTable n) → IsListed S t.order xs ys → IsRestriction (phase_table t) members S
      restricted_table S listed = record {
        count = count;
        same_order = listed.same_order ∙ sym (order-phase_table t);
        member = member;
        member-number = number;
        member-product = λ i j. to_nat_inj (member (S.product i j)) ((phase_table t).product (member i) (member j))
            (number (S.product i j) ∙ ap (slice_index members) (listed.product-entry i j)
            ∙ (product_entries (to_nat i) (to_nat j) (to_nat-lt i) (to_nat-lt j)).1
            ∙ sym (product-phase_table t (member i) (member j) ∙ ap₂ product (number i) (number j)));
        same_exponent = λ i j. listed.exponent-entry i j ∙ exponent_entries (to_nat i) (to_nat j) (to_nat-lt i) (to_nat-lt j)
            ∙ sym (exponent-phase_table t (member i) (member j) ∙ ap₂ exponent (number i) (number j));
      }
        where
          product_entries : AreEntries n (IsMemberProduct t members) xs
          product_entries = subst (λ k. AreEntries k (IsMemberProduct t members) xs) (sym count) products

          exponent_entries : AreEntries n (IsMemberExponent t members) ys
          exponent_entries = subst (λ k. AreEntries k (IsMemberExponent t members) ys) (sym count) exponents

          within : (i : Fin n) → to_nat i < length members
          within i = subst (λ k. to_nat i < k) count (to_nat-lt i)

          member : Fin n → Fin (place_count t)
          member i = member_place t members subgroup (to_nat i) (within i)

          number : (i : Fin n) → to_nat (member i) ≡ slice_index members (to_nat i)
          number i = to_nat-member_place t members subgroup (to_nat i) (within i)

  pub restricted_result : {E : Type 0} (zs : List ℕ) (r : Result Twisted E) → length zs ≡ length members
      → AreEntries (length members) (IsMemberProduct t members) xs → AreEntries (length members) (IsMemberExponent t members) ys
      → IfOk r (λ s. IsListed (phase_table s) t.order xs ys) → IfOk r (λ s. operation_places s ≡ zs)
      → IfOk r (λ s. IsRestriction (phase_table t) members (phase_table s))
  restricted_result zs (Ok s) count products exponents listed places =
      restricted_table (place_count s) (s.places.ok.0 ∙ ap length places ∙ count) products exponents (phase_table s) listed
  restricted_result zs (Err e) count products exponents listed places = tt
