-- The turns of the first members.
use Rattle.std.proofs.Common.{ℕ, ◌≡◌, ◌<◌, length, map, slice_index}
use Rattle.irr_algebra.specs.Fin.{Fin, to_nat}
use Rattle.irr_algebra.specs.Action.{Equivalent}
use Rattle.irr_theory.specs.Representations.{IsFull, Representations}
use Rattle.irr_clifford.specs.Cyclic.{conjugate}
use Rattle.irr_climb.specs.Families.{AreRows}
use Rattle.irr_climb.specs.Steps.{IsStep, small}
use Rattle.irr_climb.proofs.step.Step.turns.Given as goal

abbrev pub invariant-loop-l : goal.invariant-loop-l
invariant-loop-l g l = record {
  count : length l.turns.items ≡ l.l;
  within : (k : ℕ) → k < l.l → slice_index l.turns.items k < length l.rows;
  turns : (M : ℕ) (step : IsStep M l.self) (L : Representations (small step)) → IsFull L
      → AreRows g.S.Scalar.order_of g.S.Scalar.value M (small step) L (map (λ row. row.items) l.rows)
      → (a b : Fin L.count) → to_nat a < l.l → to_nat b ≡ slice_index l.turns.items (to_nat a)
      → Equivalent (conjugate step.quotient (L.member a)) (L.member b).at;
}
