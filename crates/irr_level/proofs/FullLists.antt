-- Full lists on a table of phases whose subgroups have steps.
--   unit_list                on a table of one place
--   normal_list              on a restriction, from one on the restriction to a normal subgroup of index 2 or 3
--   full_list                on the table
--   own_list                 over the numbers of the table's own order: it is complete
--   complete_full            so complete lists there are full
use Rattle.std.specs.Prelude.{ℕ, zero, suc, ◌≡◌, ◌<◌, ◌⊎◌, List, length, slice_index, slice_index_or, Contains}
use Rattle.std.specs.Int.{◌∣◌}
use Rattle.std.specs.List.{range_with_len}
use Rattle.std.proofs.Common.{sym, ◌∙◌, ap, subst, refl, inl, inr, arith, zero-add}
use native.Mathlib.Nat as Nat
use Rattle.std.proofs.lemmas.Bool.{cases_lt}
use Rattle.std.proofs.lemmas.List.{get_or_default}
use Rattle.std.proofs.lemmas.List.FromFn.{get_or-range_with_len, length-range_with_len}
use Rattle.irr_algebra.specs.Ring.{Ring, whole}
use Rattle.irr_algebra.specs.Fin.{Fin, to_nat}
use Rattle.irr_algebra.specs.Matrix.{scale, trace, unit}
use Rattle.irr_algebra.specs.Action.{IsSimple}
use Rattle.irr_algebra.proofs.Indices.{all_or_one, from_nat, only_first, to_nat-from_nat, to_nat-lt, to_nat_inj}
use Rattle.irr_algebra.proofs.Matrices.{mul-unit, scale-one, trace-unit, unit-mul}
use Rattle.irr_number.specs.Number.{numbers}
use Rattle.irr_number.proofs.NumberField.{number_field}
use Rattle.irr_theory.specs.FactorSystem.{FactorSystem, Representation}
use Rattle.irr_theory.specs.Representations.{count_total, IsComplete, IsFull, Representations}
use Rattle.irr_theory.proofs.CompleteLists.{complete-full}
use Rattle.irr_theory.proofs.OnePlace.{one_family-simple}
use Rattle.irr_space.specs.PhaseTable.{PhaseTable, phases_at, phases_over}
use Rattle.irr_space.specs.CompleteList.{IsCompleteList}
use Rattle.irr_space.proofs.FullLists.{full_list-complete}
use Rattle.irr_rep.specs.Subgroup.{IsRestriction, IsSubgroup}
use Rattle.irr_chain.specs.NormalSubgroup.{HasSteps, In, IsNormalOfIndex}
use Rattle.irr_chain.proofs.Chains.{fewer_members, whole_subgroup}
use Rattle.irr_chain.proofs.Cosets.{not_whole}
use Rattle.irr_chain.proofs.Levels.{contained-below, contains_or_not, prime_above, subgroup_closed}
use Rattle.irr_level.proofs.CyclicLevel.{cyclic_quotient}
use Rattle.irr_level.proofs.Phases.{own_order, phase_at}
use Rattle.irr_level.proofs.Positions.{inner_part, whole_restriction}
use Rattle.irr_level.proofs.Restricted.{restricted, restricted_is}
use Rattle.irr_level.proofs.TableLevels.{table_climb}

module _ {R : Ring} (T : FactorSystem R) (one : T.places ≡ 1) where
  alone : (i j : Fin T.places) → i ≡ j
  alone i j =
      let a : to_nat i < T.places = to_nat-lt i in
      let b : to_nat j < T.places = to_nat-lt j in
      to_nat_inj i j (omega (arith, one))

  unit_family : Representation T 1
  unit_family = record {
    at = λ i. unit R 1;
    at-start = refl;
    at-product = λ i j. unit-mul (unit R 1) ∙ sym (ap (λ c. scale R c (unit R 1)) (ap (T.phase i) (alone j T.start) ∙ T.phase-start i) ∙ scale-one (unit R 1));
  }

  unit_list : Representations T
  unit_list = record { count = 1; size = λ m. 1; member = λ m. unit_family }

  unit_simple : IsSimple unit_family.at
  unfolding unit_family
  unit_simple =
      let s = one_family-simple R in
      record {
        members = s.members;
        are_intertwiners = λ k. record { intertwines = λ i. unit-mul (s.members k) ∙ sym (mul-unit (s.members k)) };
        independent = s.independent;
        spanning = λ x h. s.spanning x (record { intertwines = λ i. unit-mul x ∙ sym (mul-unit x) });
      }

  unit_list-full : IsFull unit_list
  unfolding unit_list count_total
  unit_list-full = record {
    positive = λ m. omega arith;
    simple = λ m. unit_simple;
    inequivalent = λ m n d e. d (sym (only_first m) ∙ only_first n);
    squares = sym one;
  }

  pub unit_lists : (L : Representations T) × IsFull L × (L.count ≡ 1) × ((m : Fin L.count) → L.size m ≡ 1)
      × ((m : Fin L.count) (i : Fin T.places) → trace ((L.member m).at i) ≡ R.one)
  unfolding unit_list unit_family whole
  unit_lists = (unit_list, unit_list-full, refl, λ m. refl, λ m i. trace-unit R 1 ∙ R.add-zero R.one)

module _ {h : ℕ} (T : PhaseTable h) (M : ℕ) (v : T.order ∣ M) (positive : 0 < M) where
  -- a full list on each restriction to the members
  abbrev HasLists : List ℕ → Type 0
  HasLists members = (n : ℕ) (S : PhaseTable n) → IsRestriction T members S → (w : S.order ∣ M) → (L : Representations (phases_over S M w)) × IsFull L

  module _ (members inner : List ℕ) (subgroup : IsSubgroup T members) (p : ℕ) (prime : (p ≡ 2) ⊎ (p ≡ 3)) (normal : IsNormalOfIndex T inner members p) where
    -- some member is outside
    some_outside : (i : Fin (length members)) × (Contains inner (slice_index members (to_nat i)) → ⊥)
    some_outside = elim (all_or_one (length members) (λ i. Contains inner (slice_index members (to_nat i)))
        (λ i. Contains inner (slice_index members (to_nat i)) → ⊥) (λ i. contains_or_not inner (slice_index members (to_nat i)))) [
          | inr found ↦ found
          | inl all ↦ absurd (not_whole T (In inner) (In members) (subgroup_closed T inner normal.subgroup) (subgroup_closed T members subgroup) normal.normal
              (λ i. contains_or_not inner (to_nat i)) p (prime_above p prime) normal.index (λ x own. inside all x own.0 own.1 own.2))
        ]
      where
        inside : ((i : Fin (length members)) → Contains inner (slice_index members (to_nat i))) → (x : Fin h) (a : ℕ) → a < length members
            → slice_index_or members a (to_nat x) ≡ to_nat x → In inner x
        inside all x a l e = subst (Contains inner)
            (ap (slice_index members) (to_nat-from_nat (length members) a l) ∙ get_or_default members a 0 (to_nat x) l ∙ e)
            (all (from_nat (length members) a l))

    fewer : length inner < length members
    fewer = fewer_members inner members normal.subgroup.distinct within (slice_index members (to_nat some_outside.0)) (
      to_nat some_outside.0,
      to_nat-lt some_outside.0,
      get_or_default members (to_nat some_outside.0) (slice_index members (to_nat some_outside.0)) 0 (to_nat-lt some_outside.0),
    ) some_outside.1
      where
        within : (k : ℕ) → Contains inner k → Contains members k
        within k own =
            let below : k < h = contained-below T inner normal.subgroup k own in
            subst (Contains members) (to_nat-from_nat h k below)
            (normal.normal.within (from_nat h k below) (subst (Contains inner) (sym (to_nat-from_nat h k below)) own))

    normal_lists : HasLists inner → HasLists members
    normal_lists lower n U high w =
        let S : PhaseTable (length inner) = restricted T inner normal.subgroup in
        let low : IsRestriction T inner S = restricted_is T inner normal.subgroup in
        let s : S.order ∣ M = subst (λ o. o ∣ M) (sym low.same_order) v in
        let part = inner_part T inner members S U normal.subgroup subgroup low high M w s normal.normal.within in
        let below : to_nat some_outside.0 < n = subst (λ k. to_nat some_outside.0 < k) (sym high.count) (to_nat-lt some_outside.0) in
        let g : Fin n = from_nat n (to_nat some_outside.0) below in
        let number : to_nat (high.member g) ≡ slice_index members (to_nat some_outside.0) =
        high.member-number g ∙ ap (slice_index members) (to_nat-from_nat n (to_nat some_outside.0) below) in
        let q = cyclic_quotient T inner members p prime subgroup normal S U low high M w s part.0 part.1 g
        (λ own. some_outside.1 (subst (Contains inner) number own)) in
        let list = lower (length inner) S low s in
        let k = table_climb U M w positive q.0 (subst (λ i. (i ≡ 2) ⊎ (i ≡ 3)) (sym q.1) prime) list.0 list.1 in
        (k.0, k.2)

  full_lists : HasSteps T → (k : ℕ) (members : List ℕ) → IsSubgroup T members → length members < k → HasLists members
  full_lists steps zero members subgroup small = absurd (omega arith)
  full_lists steps (suc k) members subgroup small = elim (cases_lt 1 (length members)) [
    | inl more ↦ (elim (steps members subgroup more) [
      | inl two ↦ normal_lists members two.0 subgroup 2 (inl refl) two.1
          (full_lists steps k two.0 two.1.subgroup (let l = fewer members two.0 subgroup 2 (inl refl) two.1 in omega arith))
      | inr three ↦ normal_lists members three.0 subgroup 3 (inr refl) three.1
          (full_lists steps k three.0 three.1.subgroup (let l = fewer members three.0 subgroup 3 (inr refl) three.1 in omega arith))
    ])
    | inr few ↦ λ n S restriction w.
        (let some : 0 < length members = subgroup.not_empty in
        let size : n ≡ length members = restriction.count in
        let lists = unit_lists (phases_over S M w) (let one : n ≡ 1 = omega arith in one) in
        (lists.0, lists.1))
  ]

  pub full_list : HasSteps T → (L : Representations (phases_over T M v)) × IsFull L
  full_list steps =
      let members : List ℕ = range_with_len 0 h in
      let count : length members ≡ h = length-range_with_len 0 h in
      let numbers : (a : ℕ) → a < h → slice_index members a ≡ a = λ a l. get_or-range_with_len 0 h a 0 l ∙ zero-add a in
      full_lists steps (suc (length members)) members (whole_subgroup T members count numbers) (omega arith) h T (whole_restriction T members count numbers) v

module _ {h : ℕ} (T : PhaseTable h) (steps : HasSteps T) where
  whole_order : T.order ∣ T.order
  whole_order = Nat.dvd_refl T.order

  -- the same matrices over the numbers of the table's own order
  own_family : {d : ℕ} → Representation (phases_over T T.order whole_order) d → Representation (phases_at T) d
  own_family A = record {
    at = A.at;
    at-start = A.at-start;
    at-product = λ i j. A.at-product i j
        ∙ ap (λ k. scale (numbers T.order) k (A.at (T.product i j))) (phase_at T T.order whole_order i j ∙ own_order T (T.exponent i j));
  }

  pub own_list : (L : Representations (phases_at T)) × IsFull L × IsCompleteList T L
  unfolding own_family
  own_list =
      let L = full_list T T.order whole_order T.order_positive steps in
      let K : Representations (phases_at T) = record { count = L.0.count; size = L.0.size; member = λ m. own_family (L.0.member m) } in
      let full : IsFull K = record { positive = L.1.positive; simple = L.1.simple; inequivalent = L.1.inequivalent; squares = L.1.squares } in
      (K, full, full_list-complete T K full)

  pub complete_full : (L : Representations (phases_at T)) → IsComplete L → IsFull L
  complete_full L complete = let K = own_list in complete-full (number_field T.order T.order_positive) K.0 L K.1 complete
