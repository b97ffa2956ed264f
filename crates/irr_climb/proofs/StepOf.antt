-- The step of a level, from its lists of numbers.
--   ArePlaced                the positions of the members and the generator in what the level generates
--   level_splits             each place of what the level generates splits
--   step_of                  the step of the level
use Rattle.std.specs.Prelude.{ℕ, ◌≡◌, ◌<◌, ◌⊎◌, List, length, slice_index, Contains}
use Rattle.std.specs.Int.{◌∣◌}
use Rattle.std.proofs.Common.{sym, ◌∙◌, ap, subst}
use native.Mathlib.Nat as Nat
use Rattle.std.proofs.lemmas.List.{get_or_default}
use Rattle.irr_algebra.specs.Fin.{Fin, to_nat}
use Rattle.irr_algebra.proofs.Indices.{from_nat, to_nat-from_nat, to_nat-lt}
use Rattle.irr_clifford.specs.Cyclic.{CyclicQuotient}
use Rattle.irr_eigen.specs.Step.{Subtable}
use Rattle.irr_space.specs.PhaseTable.{PhaseTable, phases_over}
use Rattle.irr_rep.specs.Subgroup.{IsRestriction}
use Rattle.irr_rep.specs.Twisted.{phase_table, place_count}
use Rattle.irr_chain.specs.declared.series.Level.{Level}
use Rattle.irr_chain.specs.Series.{IsLevel}
use Rattle.irr_level.specs.Part.{ArePositions, as_subgroup}
use Rattle.irr_level.proofs.Positions.{inner_part}
use Rattle.irr_level.proofs.TableLevels.{level_quotient}
use Rattle.irr_climb.specs.declared.step.Step.{Step}
use Rattle.irr_climb.specs.Splits.{HasSplit, IsSplit}
use Rattle.irr_climb.specs.Steps.{IsStepOf}
use Rattle.irr_climb.proofs.PlaceSplits.{split_exists, split_is}

-- the positions of the members and of the generator in what the level generates
pub record ArePlaced (level : Level) (outer members : List ℕ) (g : ℕ) : Type 0 where
  pub count : length members ≡ length level.members.items
  pub within : (a : ℕ) → a < length level.members.items → slice_index members a < length outer
  pub values : (a : ℕ) → a < length level.members.items → slice_index outer (slice_index members a) ≡ slice_index level.members.items a
  pub generator_within : g < length outer
  pub generator_value : slice_index outer g ≡ level.g

module _ {h n m : ℕ} (T : PhaseTable h) (level : Level) (outer : List ℕ) (so : IsLevel T level outer) (S : PhaseTable n) (U : PhaseTable m)
    (low : IsRestriction T level.members.items S) (high : IsRestriction T outer U) (members : List ℕ) (g : ℕ)
    (placed : ArePlaced level outer members g) where
  members-count : length members ≡ n
  members-count = placed.count ∙ sym low.count

  -- the place of the generator
  generator : Fin m
  generator = from_nat m g (subst (λ k. g < k) (sym high.count) placed.generator_within)

  generator-number : to_nat generator ≡ g
  unfolding generator
  generator-number = to_nat-from_nat m g (subst (λ k. g < k) (sym high.count) placed.generator_within)

  module _ (M : ℕ) (v : U.order ∣ M) (w : S.order ∣ M) where
    part_at : (part : Subtable (phases_over S M w) (phases_over U M v)) × ArePositions level.members.items outer part.place
    part_at = inner_part T level.members.items outer S U so.normal.subgroup so.generated.subgroup low high M v w so.normal.normal.within

    quotient_at : (Q : CyclicQuotient (as_subgroup part_at.0)) × (Q.index ≡ level.p) × (Q.generator ≡ generator)
    quotient_at = level_quotient T level outer so U high S low M v w part_at.0 part_at.1 generator
        (ap (slice_index outer) generator-number ∙ placed.generator_value)

    member_places : (i : Fin n) → slice_index members (to_nat i) ≡ to_nat (part_at.0.place i)
    member_places i =
        let inside : to_nat i < length level.members.items = subst (λ k. to_nat i < k) low.count (to_nat-lt i) in
        so.generated.subgroup.distinct (slice_index members (to_nat i)) (to_nat (part_at.0.place i)) (placed.within (to_nat i) inside)
        (subst (λ k. to_nat (part_at.0.place i) < k) high.count (to_nat-lt (part_at.0.place i)))
        (placed.values (to_nat i) inside ∙ sym (part_at.1 i))

  pub level_splits : (x : ℕ) → x < m → HasSplit U members g level.p x
  level_splits x below =
      let v : U.order ∣ U.order = Nat.dvd_refl U.order in
      let w : S.order ∣ U.order = subst (λ k. k ∣ U.order) (high.same_order ∙ sym low.same_order) v in
      let Q = quotient_at U.order v w in
      let place = from_nat m x below in
      subst (λ y. HasSplit U members g level.p y) (to_nat-from_nat m x below)
      (subst (λ p. HasSplit U members g p (to_nat place)) Q.1
      (split_exists S U U.order w v (part_at U.order v w).0 Q.0 members members-count (member_places U.order v w) g
      (ap to_nat Q.2 ∙ generator-number) place))

pub step_of : {h : ℕ} (T : PhaseTable h) (level : Level) (outer : List ℕ) → IsLevel T level outer → (step : Step)
    → IsRestriction T level.members.items (phase_table step.inner) → IsRestriction T outer (phase_table step.outer)
    → ArePlaced level outer step.members.items step.generator → step.index ≡ level.p
    → length step.exponents.items ≡ place_count step.outer → length step.parts.items ≡ place_count step.outer
    → ((x : ℕ) → x < place_count step.outer → IsSplit (phase_table step.outer) step.members.items step.generator level.p x
    (slice_index step.exponents.items x) (slice_index step.parts.items x))
    → (M : ℕ) → T.order ∣ M → 0 < M → IsStepOf T level outer M step
step_of T level outer so step low high placed index exponents parts splits M divides positive =
    let S = phase_table step.inner in
    let U = phase_table step.outer in
    let v : U.order ∣ M = subst (λ k. k ∣ M) (sym high.same_order) divides in
    let w : S.order ∣ M = subst (λ k. k ∣ M) (sym low.same_order) divides in
    let part = part_at T level outer so S U low high step.members.items step.generator placed M v w in
    let Q = quotient_at T level outer so S U low high step.members.items step.generator placed M v w in
    let number = generator-number T level outer so S U low high step.members.items step.generator placed in
    let count = members-count T level outer so S U low high step.members.items step.generator placed in
    let places = member_places T level outer so S U low high step.members.items step.generator placed M v w in
    let at = λ (x : Fin (place_count step.outer)). split_is S U M w v part.0 Q.0 step.members.items count places step.generator
    (ap to_nat Q.2 ∙ number) x
    (slice_index step.exponents.items (to_nat x)) (slice_index step.parts.items (to_nat x))
    (subst (λ p. IsSplit U step.members.items step.generator p (to_nat x) (slice_index step.exponents.items (to_nat x))
    (slice_index step.parts.items (to_nat x)))
    (sym Q.1) (splits (to_nat x) (to_nat-lt x))) in
    record {
      is_level = so;
      divides = divides;
      inner_table = low;
      outer_table = high;
      is_step = record {
        positive = positive;
        inner_divides = w;
        outer_divides = v;
        part = part.0;
        quotient = Q.0;
        two_or_three = subst (λ p. (p ≡ 2) ⊎ (p ≡ 3)) (sym Q.1) so.two_or_three;
        same_order = low.same_order ∙ sym high.same_order;
        index = index ∙ sym Q.1;
        generator = sym (ap to_nat Q.2 ∙ number);
        members_count = count;
        exponents_count = exponents;
        parts_count = parts;
        members = places;
        exponents = λ x. (at x).0;
        parts = λ x. (at x).1;
      };
      positions = part.1;
      level_index = Q.1;
      level_generator = ap (slice_index outer) (ap to_nat Q.2 ∙ number) ∙ placed.generator_value;
    }

-- the members of a level are in what it generates
pub level_inside : {h : ℕ} (T : PhaseTable h) (level : Level) (outer : List ℕ) → IsLevel T level outer → (a : ℕ) → a < length level.members.items
    → Contains outer (slice_index level.members.items a)
level_inside {h} T level outer so a below =
    let members = level.members.items in
    let bound = so.normal.subgroup.below a below in
    let number = to_nat-from_nat h (slice_index members a) bound in
    subst (Contains outer) number (so.normal.normal.within (from_nat h (slice_index members a) bound)
    (subst (Contains members) (sym number) (a, below, get_or_default members a (slice_index members a) 0 below)))
