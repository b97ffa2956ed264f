-- Chains of subgroups.
--   whole_in, whole_subgroup     the list of all places
--   generator_outside        the generator of a level is none of its members
--   level_smaller            a level has fewer members than what it generates
--   only_unit                a subgroup of one element is the unit alone
--   unchained_refuted        where each subgroup has a step, none is unchained
use Rattle.std.specs.Prelude.{ℕ, suc, ◌≡◌, ◌<◌, ◌≤◌, List, [], ◌∷◌, length, slice_index, Contains}
use Rattle.std.proofs.Common.{sym, ◌∙◌, ap, subst, refl, inl, inr, arith}
use Rattle.std.proofs.lemmas.Bool.{cases_lt}
use Rattle.std.proofs.lemmas.List.{get_or_default}
use Rattle.irr_algebra.specs.Fin.{Fin, to_nat}
use Rattle.irr_algebra.specs.Fin.Fin.{first, next}
use Rattle.irr_algebra.proofs.Indices.{from_nat, to_nat-from_nat, to_nat-lt, to_nat_inj}
use Rattle.irr_space.specs.PhaseTable.{PhaseTable}
use Rattle.irr_rep.specs.Subgroup.{IsSubgroup}
use Rattle.irr_rep.proofs.ElementOrders.{injective_ne}
use Rattle.irr_chain.specs.declared.series.Level.{Level}
use Rattle.irr_chain.specs.NormalSubgroup.{HasSteps, In, IsUnchained}
use Rattle.irr_chain.specs.Series.{IsLevel}
use Rattle.irr_chain.proofs.Cosets.{not_whole}
use Rattle.irr_chain.proofs.Levels.{contains_or_not, prime_above, subgroup_closed}

module _ {h : ℕ} (T : PhaseTable h) (members : List ℕ) (count : length members ≡ h) (numbers : (a : ℕ) → a < h → slice_index members a ≡ a) where
  number_in : (k : ℕ) → k < h → Contains members k
  number_in k l = let m : k < length members = omega arith in (k, m, get_or_default members k k 0 m ∙ numbers k l)

  pub whole_in : (i : Fin h) → In members i
  whole_in i = number_in (to_nat i) (to_nat-lt i)

  some_place : 0 < h
  some_place = let l : to_nat T.start < h = to_nat-lt T.start in omega arith

  pub whole_subgroup : IsSubgroup T members
  whole_subgroup = record {
    below = λ a l. (let m : a < h = omega arith in subst (λ v. v < h) (sym (numbers a m)) m);
    distinct = λ a b l m e. sym (numbers a (omega arith)) ∙ e ∙ numbers b (omega arith);
    not_empty = omega (arith, some_place);
    unit_first = numbers 0 some_place;
    products_inside = λ i j a b. whole_in (T.product i j);
    opposites_inside = λ i a. whole_in (T.opposite i);
  }

-- a list of different members of another that has one more
module _ (inner outer : List ℕ) (distinct : (a b : ℕ) → a < length inner → b < length inner → slice_index inner a ≡ slice_index inner b → a ≡ b)
    (within : (k : ℕ) → Contains inner k → Contains outer k) (g : ℕ) (more : Contains outer g) (out : Contains inner g → ⊥) where
  inner-at : (a : ℕ) → a < length inner → Contains inner (slice_index inner a)
  inner-at a l = (a, l, get_or_default inner a (slice_index inner a) 0 l)

  module _ (wrong : length outer ≤ length inner) where
    below : (i : Fin (length outer)) → to_nat i < length inner
    below i = let l : to_nat i < length outer = to_nat-lt i in omega arith

    -- g, and then the members
    element : Fin (suc (length outer)) → ℕ
    element first = g
    element (next i) = slice_index inner (to_nat i)

    element-in : (i : Fin (suc (length outer))) → Contains outer (element i)
    unfolding element
    element-in first = more
    element-in (next i) = within (slice_index inner (to_nat i)) (inner-at (to_nat i) (below i))

    element_inj : (i j : Fin (suc (length outer))) → element i ≡ element j → i ≡ j
    unfolding element
    element_inj first first e = refl
    element_inj first (next j) e = absurd (out (subst (Contains inner) (sym e) (inner-at (to_nat j) (below j))))
    element_inj (next i) first e = absurd (out (subst (Contains inner) e (inner-at (to_nat i) (below i))))
    element_inj (next i) (next j) e = ap next (to_nat_inj i j (distinct (to_nat i) (to_nat j) (below i) (below j) e))

    position : Fin (suc (length outer)) → Fin (length outer)
    position i = from_nat (length outer) (element-in i).0 (element-in i).1

    element-position : (i : Fin (suc (length outer))) → slice_index outer (to_nat (position i)) ≡ element i
    unfolding position
    element-position i = ap (slice_index outer) (to_nat-from_nat (length outer) (element-in i).0 (element-in i).1)
        ∙ sym (get_or_default outer (element-in i).0 (element i) 0 (element-in i).1) ∙ (element-in i).2

    too_many : ⊥
    too_many = injective_ne (length outer) position
        (λ i j e. element_inj i j (sym (element-position i) ∙ ap (λ k. slice_index outer (to_nat k)) e ∙ element-position j))

  pub fewer_members : length inner < length outer
  fewer_members = elim (cases_lt (length inner) (length outer)) [ inl l ↦ l | inr l ↦ absurd (too_many l) ]

module _ {h : ℕ} (T : PhaseTable h) where
  pub generator_outside : (level : Level) (outer : List ℕ) → IsLevel T level outer → Contains level.members.items level.g → ⊥
  generator_outside level outer so own =
      not_whole T (In level.members.items) (In outer) (subgroup_closed T level.members.items so.normal.subgroup) (subgroup_closed T outer so.generated.subgroup)
      so.normal.normal (λ i. contains_or_not level.members.items (to_nat i)) level.p (prime_above level.p so.two_or_three) so.normal.index
      (so.generated.least level.members.items so.normal.subgroup (λ i a. a) own)

  pub level_smaller : (level : Level) (outer : List ℕ) → IsLevel T level outer → length level.members.items < length outer
  level_smaller level outer so =
      fewer_members level.members.items outer so.normal.subgroup.distinct within level.g so.generated.has_generator (generator_outside level outer so)
    where
      within : (k : ℕ) → Contains level.members.items k → Contains outer k
      within k (a, l, e) =
          let m : k < h = subst (λ v. v < h) (sym (get_or_default level.members.items a k 0 l) ∙ e) (so.normal.subgroup.below a l) in
          subst (Contains outer) (to_nat-from_nat h k m) (so.generated.has_inner (from_nat h k m) (subst (Contains level.members.items) (sym (to_nat-from_nat h k m)) (a, l, e)))

  pub only_unit : (members : List ℕ) → IsSubgroup T members → length members ≤ 1 → members ≡ 0 ∷ []
  only_unit [] subgroup few = absurd (let l : 0 < 0 = subgroup.not_empty in omega arith)
  only_unit (x ∷ []) subgroup few = ap (λ v. v ∷ []) subgroup.unit_first
  only_unit (x ∷ y ∷ xs) subgroup few = absurd (omega arith)

  pub unchained_refuted : (members : List ℕ) → IsUnchained T members → HasSteps T → ⊥
  unchained_refuted members so steps = elim (steps members so.subgroup so.more_than_one) [ inl n ↦ so.none_of_two n | inr n ↦ so.none_of_three n ]
