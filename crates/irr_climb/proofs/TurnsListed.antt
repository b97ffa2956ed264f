-- The turns of a full list, from the list of their places.
--   turns_listed             places inside the list that name the members equivalent to the conjugates are the turns
use Rattle.std.specs.Prelude.{ℕ, ◌≡◌, ◌<◌, List, length, slice_index}
use Rattle.std.proofs.Common.{sym}
use Rattle.irr_algebra.specs.Fin.{Fin, to_nat}
use Rattle.irr_algebra.specs.Action.{Equivalent}
use Rattle.irr_algebra.proofs.Indices.{from_nat, to_nat-from_nat, to_nat-lt}
use Rattle.irr_theory.specs.Representations.{Representations}
use Rattle.irr_clifford.specs.Cyclic.{conjugate}
use Rattle.irr_climb.specs.declared.step.Step.{Step}
use Rattle.irr_climb.specs.Steps.{AreTurns, IsStep, small}

pub turns_listed : {M : ℕ} {step : Step} (is : IsStep M step) (L : Representations (small is)) (ts : List ℕ) → length ts ≡ L.count
    → ((k : ℕ) → k < L.count → slice_index ts k < L.count)
    → ((a b : Fin L.count) → to_nat b ≡ slice_index ts (to_nat a) → Equivalent (conjugate is.quotient (L.member a)) (L.member b).at)
    → AreTurns is L ts
turns_listed is L ts count within turns = record {
  turn = λ l. from_nat L.count (slice_index ts (to_nat l)) (within (to_nat l) (to_nat-lt l));
  turns_to = λ l. turns l (from_nat L.count (slice_index ts (to_nat l)) (within (to_nat l) (to_nat-lt l)))
      (to_nat-from_nat L.count (slice_index ts (to_nat l)) (within (to_nat l) (to_nat-lt l)));
  count = count;
  listed_turn = λ l. sym (to_nat-from_nat L.count (slice_index ts (to_nat l)) (within (to_nat l) (to_nat-lt l)));
}
