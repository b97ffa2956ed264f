-- The laws of a level, over the numbers of each order that the order of the table divides.
--   cycles                   each place has a cycle
--   table_choice             a full list on the subgroup has a choice for the step up
--   table_climb              so there is a full list on the table
--   other_order              what a level generates may be listed in any order
--   level_position, level_quotient       a level's generator, and its quotient
use Rattle.std.specs.Prelude.{ℕ, ◌≡◌, ◌<◌, ◌⊎◌, List, slice_index, Contains}
use Rattle.std.specs.Int.{◌∣◌}
use Rattle.std.proofs.Common.{sym, ◌∙◌, ap, subst}
use Rattle.std.proofs.lemmas.List.{get_or_default}
use Rattle.irr_algebra.specs.Fin.{Fin, to_nat}
use Rattle.irr_algebra.proofs.Indices.{from_nat, to_nat-from_nat}
use Rattle.irr_algebra.specs.Field.{Field}
use Rattle.irr_number.proofs.NumberField.{number_field}
use Rattle.irr_theory.specs.Representations.{Representations, IsFull}
use Rattle.irr_eigen.specs.Step.{Cycle, Subtable}
use Rattle.irr_clifford.specs.Subgroup.{Subgroup}
use Rattle.irr_clifford.specs.Cyclic.{CyclicQuotient}
use Rattle.irr_clifford.specs.Climb.{ClimbChoice, IsClimb}
use Rattle.irr_space.specs.PhaseTable.{PhaseTable, phases_over}
use Rattle.irr_clifford.proofs.Squares.{climb_full}
use Rattle.irr_clifford.proofs.ClimbList.{climb_list, climb_list-is}
use Rattle.irr_rep.specs.Subgroup.{IsSubgroup, IsRestriction}
use Rattle.irr_rep.proofs.Cycles.{cycle_over}
use Rattle.irr_rep.proofs.ElementOrders.{place_order}
use Rattle.irr_chain.specs.declared.series.Level.{Level}
use Rattle.irr_chain.specs.NormalSubgroup.{In}
use Rattle.irr_chain.specs.Series.{IsLevel}
use Rattle.irr_chain.proofs.Chains.{generator_outside}
use Rattle.irr_chain.proofs.Levels.{contained-below}
use Rattle.irr_level.specs.Part.{ArePositions, as_subgroup}
use Rattle.irr_level.proofs.CyclicLevel.{cyclic_quotient}
use Rattle.irr_level.proofs.ScalarRoots.{choice_exists}

module _ {h : ℕ} (T : PhaseTable h) (M : ℕ) (v : T.order ∣ M) (positive : 0 < M) where
  pub cycles : (x : Fin h) → Cycle (phases_over T M v) x
  cycles x = let order = place_order T x in (cycle_over T M positive v x order.0 order.1).0

  abbrev field : Field
  field = number_field M positive

  pub table_choice : {H : Subgroup (phases_over T M v)} (Q : CyclicQuotient H) → (Q.index ≡ 2) ⊎ (Q.index ≡ 3)
      → (L : Representations H.table) → IsFull L → ClimbChoice Q L
  table_choice Q small L full = choice_exists field Q small cycles L full

  pub table_climb : {H : Subgroup (phases_over T M v)} (Q : CyclicQuotient H) → (Q.index ≡ 2) ⊎ (Q.index ≡ 3)
      → (L : Representations H.table) → IsFull L → (K : Representations (phases_over T M v)) × IsClimb Q L K × IsFull K
  table_climb Q small L full =
      let c = table_choice Q small L full in
      let k = climb_list-is field Q L c small full in
      (climb_list field Q L c, k, climb_full field Q small L full (climb_list field Q L c) k)

pub other_order : {h : ℕ} (T : PhaseTable h) (level : Level) (outer other : List ℕ) → IsLevel T level outer → IsSubgroup T other
    → ((i : Fin h) → In outer i → In other i) → ((i : Fin h) → In other i → In outer i) → IsLevel T level other
other_order {h} T level outer other so subgroup to from = record {
  two_or_three = so.two_or_three;
  increasing = so.increasing;
  normal = record {
    subgroup = so.normal.subgroup;
    normal = record {
      within = λ i k. to i (so.normal.normal.within i k);
      conjugates = λ i j k b. so.normal.normal.conjugates i j k (from j b);
    };
    index = record {
      representative = so.normal.index.representative;
      representative_inside = λ a. to (so.normal.index.representative a) (so.normal.index.representative_inside a);
      coset = λ i b. so.normal.index.coset i (from i b);
      in_coset = λ i b. so.normal.index.in_coset i (from i b);
      one_coset = so.normal.index.one_coset;
    };
  };
  generated = record {
    subgroup = subgroup;
    has_inner = λ i k. to i (so.generated.has_inner i k);
    has_generator = contained;
    least = λ members sub has own i b. so.generated.least members sub has own i (from i b);
  };
}
  where
    below : level.g < h
    below = contained-below T outer so.generated.subgroup level.g so.generated.has_generator

    contained : Contains other level.g
    contained = subst (Contains other) (to_nat-from_nat h level.g below)
        (to (from_nat h level.g below) (subst (Contains outer) (sym (to_nat-from_nat h level.g below)) so.generated.has_generator))

module _ {h m : ℕ} (T : PhaseTable h) (level : Level) (outer : List ℕ) (so : IsLevel T level outer) (U : PhaseTable m) (high : IsRestriction T outer U) where
  pub level_position : (g : Fin m) × (slice_index outer (to_nat g) ≡ level.g)
  level_position =
      let (a, l, e) = so.generated.has_generator in
      let below : a < m = subst (λ k. a < k) (sym high.count) l in
      (from_nat m a below, ap (slice_index outer) (to_nat-from_nat m a below) ∙ get_or_default outer a 0 level.g l ∙ e)

  module _ {n : ℕ} (S : PhaseTable n) (low : IsRestriction T level.members.items S) (M : ℕ) (v : U.order ∣ M) (w : S.order ∣ M)
      (sub : Subtable (phases_over S M w) (phases_over U M v))
      (positions : ArePositions level.members.items outer sub.place) (g : Fin m) where
    pub element_quotient : (Contains level.members.items (slice_index outer (to_nat g)) → ⊥)
        → (Q : CyclicQuotient (as_subgroup sub)) × (Q.index ≡ level.p) × (Q.generator ≡ g)
    element_quotient out = cyclic_quotient T level.members.items outer level.p so.two_or_three so.generated.subgroup so.normal S U low high M v w
        sub positions g
        (λ own. out (subst (Contains level.members.items) (high.member-number g) own))

    pub level_quotient : slice_index outer (to_nat g) ≡ level.g → (Q : CyclicQuotient (as_subgroup sub)) × (Q.index ≡ level.p) × (Q.generator ≡ g)
    level_quotient is = element_quotient (λ own. generator_outside T level outer so (subst (Contains level.members.items) is own))
