-- The members of a subgroup, by position.
--   member_place             the place of the member at a position
--   product_inside           products of members are members
--   inverse_inside           each member has an inverse among the members
--   members-le               there are no more members than places
--   product_of_members, exponent_of_members      what a call at two members gives
use Rattle.std.specs.Prelude.{ℕ, suc, ◌≡◌, ◌<◌, ◌≤◌, List, length, slice_index, Contains}
use Rattle.std.proofs.Common.{sym, ◌∙◌, ap, subst, inl, inr, arith}
use Rattle.std.proofs.lemmas.Bool.{cases_lt}
use Rattle.std.proofs.lemmas.List.{get_or_default}
use Rattle.irr_algebra.specs.Fin.{Fin, to_nat}
use Rattle.irr_algebra.proofs.Indices.{from_nat, to_nat-from_nat, to_nat-lt, to_nat_inj}
use Rattle.irr_rep.specs.declared.table.Twisted.{Twisted}
use Rattle.irr_rep.specs.Table.{entry}
use Rattle.irr_rep.specs.Subgroup.{IsSubgroup}
use Rattle.irr_rep.specs.Twisted.{IsMemberExponent, phase_table, place_count}
use Rattle.irr_rep.proofs.ElementOrders.{injective_ne}
use Rattle.irr_rep.proofs.Readings.{product_at, exponent_at}

module _ (t : Twisted) (members : List ℕ) (subgroup : IsSubgroup (phase_table t) members) where
  unfoldable pub member_place : (a : ℕ) → a < length members → Fin (place_count t)
  member_place a lt = from_nat (place_count t) (slice_index members a) (subgroup.below a lt)

  pub to_nat-member_place : (a : ℕ) (lt : a < length members) → to_nat (member_place a lt) ≡ slice_index members a
  unfolding member_place
  to_nat-member_place a lt = to_nat-from_nat (place_count t) (slice_index members a) (subgroup.below a lt)

  member-contained : (a : ℕ) (lt : a < length members) → Contains members (to_nat (member_place a lt))
  member-contained a lt = (a, lt, get_or_default members a (to_nat (member_place a lt)) 0 lt ∙ sym (to_nat-member_place a lt))

  pub product_inside : (a b : ℕ) → a < length members → b < length members
      → Contains members (entry (place_count t) t.products.items (slice_index members a) (slice_index members b))
  product_inside a b p q =
      subst (λ k. Contains members k)
      (sym (product_at t (slice_index members a) (slice_index members b) (member_place a p) (member_place b q) (to_nat-member_place a p)
      (to_nat-member_place b q)))
      (subgroup.products_inside (member_place a p) (member_place b q) (member-contained a p) (member-contained b q))

  pub inverse_inside : (a : ℕ) → a < length members
      → (b : ℕ) × (b < length members) × (entry (place_count t) t.products.items (slice_index members a) (slice_index members b) ≡ 0)
  inverse_inside a p =
      let T = phase_table t in
      let found : Contains members (to_nat (T.opposite (member_place a p))) = subgroup.opposites_inside (member_place a p) (member-contained a p) in (
        found.0,
        found.1,
        product_at t (slice_index members a) (slice_index members found.0) (member_place a p) (T.opposite (member_place a p))
            (to_nat-member_place a p)
            (sym (get_or_default members found.0 0 (to_nat (T.opposite (member_place a p))) found.1 ∙ found.2))
            ∙ ap to_nat (T.product-opposite (member_place a p)) ∙ T.start_first,
      )

  pub members-le : length members ≤ place_count t
  members-le = elim (cases_lt (place_count t) (length members)) [
    | inr l ↦ l
    | inl l ↦ absurd (injective_ne (place_count t) (λ i. member_place (to_nat i) (within l i))
        (λ i j e. to_nat_inj i j (subgroup.distinct (to_nat i) (to_nat j) (within l i) (within l j)
        (sym (to_nat-member_place (to_nat i) (within l i)) ∙ ap to_nat e ∙ to_nat-member_place (to_nat j) (within l j)))))
  ]
    where
      within : place_count t < length members → (i : Fin (suc (place_count t))) → to_nat i < length members
      within l i = let lt : to_nat i < suc (place_count t) = to_nat-lt i in omega arith

  pub product_of_members : (a b x : ℕ) → a < length members → b < length members
      → ((p q : Fin (place_count t)) → to_nat p ≡ slice_index members a → to_nat q ≡ slice_index members b → x ≡ to_nat ((phase_table t).product p q))
      → x ≡ entry (place_count t) t.products.items (slice_index members a) (slice_index members b)
  product_of_members a b x p q given =
      given (member_place a p) (member_place b q) (to_nat-member_place a p) (to_nat-member_place b q)
      ∙ sym (product_at t (slice_index members a) (slice_index members b) (member_place a p) (member_place b q) (to_nat-member_place a p)
      (to_nat-member_place b q))

  pub exponent_of_members : (a b x : ℕ) → a < length members → b < length members
      → ((p q : Fin (place_count t)) → to_nat p ≡ slice_index members a → to_nat q ≡ slice_index members b → x ≡ (phase_table t).exponent p q)
      → IsMemberExponent t members a b x
  exponent_of_members a b x p q given =
      given (member_place a p) (member_place b q) (to_nat-member_place a p) (to_nat-member_place b q)
      ∙ sym (exponent_at t (slice_index members a) (slice_index members b) (member_place a p) (member_place b q) (to_nat-member_place a p)
      (to_nat-member_place b q))
