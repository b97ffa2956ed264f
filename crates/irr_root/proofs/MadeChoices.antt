-- The choice of an extension of a family of the program.
--   members-distinct         no member stands twice in the list
--   rows-few                 there are at most 48 rows
--   row-of                   the row of the family's traces
--   choice-made              the step with the family
use Rattle.std.proofs.Common.{◌≡◌, sym, ◌∙◌, ap, subst, ℕ, ◌<◌, ◌≤◌, ◌*◌, List, slice_index, arith}
use native.Mathlib.Nat as Nat
use Rattle.irr_algebra.specs.Fin.{to_nat}
use Rattle.irr_algebra.specs.Matrix.{trace}
use Rattle.irr_algebra.proofs.Indices.{from_nat, to_nat-from_nat, to_nat_inj}
use Rattle.irr_theory.specs.FactorSystem.{Representation}
use Rattle.irr_space.specs.PhaseTable.{PhaseTable}
use Rattle.irr_cyc.specs.declared.scalars.Scalar.{Ghosts}
use Rattle.irr_rep.specs.declared.family.Family.{Family}
use Rattle.irr_rep.specs.Family.{matrix_at}
use Rattle.irr_char.specs.Characters.{IsRowOf}
use Rattle.irr_root.specs.Choice.{HasMatrices, IsChoice}
use Rattle.irr_root.specs.CyclicStep.{inner_phases, IsCyclicStep, IsSimpleFixed, step_subgroup}
use Rattle.irr_root.specs.Positions.{ArePositionsIn, IsDistinct}
use Rattle.irr_root.proofs.PlacePositions.{position_of, position_of-member, position_of-number}

pub few_rows : (d k : ℕ) → 0 < d → d * d ≤ k → k ≤ 48 → d ≤ 48
few_rows d k l a b =
    let one : d * 1 ≤ d * d = Nat.mul-le-mul_left d l in
    let same : d * 1 ≡ d = Nat.mul-one d in
    omega (arith, one, same, a, b)

module _ {h k : ℕ} {T : PhaseTable h} {K : PhaseTable k} {members : List ℕ} {p g M : ℕ} (step : IsCyclicStep T K members p g M) where
  pub members-distinct : IsDistinct members
  members-distinct a b la lb e =
      let below-a : a < k = subst (λ l. a < l) step.count la in
      let below-b : b < k = subst (λ l. b < l) step.count lb in
      sym (to_nat-from_nat k a below-a)
      ∙ ap to_nat (step.part.injective (from_nat k a below-a) (from_nat k b below-b) (to_nat_inj (step.part.place (from_nat k a below-a))
      (step.part.place (from_nat k b below-b))
      (sym (step.member (from_nat k a below-a)) ∙ ap (slice_index members) (to_nat-from_nat k a below-a) ∙ e
      ∙ sym (ap (slice_index members) (to_nat-from_nat k b below-b))
      ∙ step.member (from_nat k b below-b))))
      ∙ to_nat-from_nat k b below-b

  module _ {S : Type 0} {G : Ghosts S} {d : ℕ} (D : Representation (inner_phases step) d) (fixed : IsSimpleFixed step D) (f : Family S G)
      (made : HasMatrices step D f)
      (few : k ≤ 48) where
    pub row-of : (row : List S) → IsRowOf {h = k} G.order_of G.value M (λ i. trace (matrix_at M f.dim f.mats.items i)) row
        → IsRowOf {h = k} G.order_of G.value M (λ i. trace (D.at i)) row
    row-of row r =
        let at = subst (λ e. IsRowOf {h = k} G.order_of G.value M (λ i. trace (matrix_at M e f.mats.items i)) row) made.size r in
        record { count = at.count; orders = at.orders; numbers_at = λ i. at.numbers_at i ∙ ap trace (made.matrices i) }

    abbrev pub choice-made : (positions : List ℕ) → ArePositionsIn members h positions → (row : List S)
        → IsRowOf {h = k} G.order_of G.value M (λ i. trace (D.at i)) row → IsChoice G.order_of G.value M T K members p g d positions row
    choice-made positions are row is = record {
      step = step;
      family = D;
      fixed = fixed;
      traces = record { few = few_rows d k fixed.positive fixed.few few; is_row = is };
      position = position_of (step_subgroup step) members positions (sym step.count) are;
      placed = position_of-number (step_subgroup step) members positions (sym step.count) are;
      at_member = position_of-member (step_subgroup step) members positions (sym step.count) are step.member;
      all_placed = are.count;
      members_few = few;
    }
