-- Full lists on a table of phases are complete over every order.
use Rattle.std.specs.Prelude.{ℕ, ◌<◌}
use Rattle.std.specs.Int.{◌∣◌}
use Rattle.irr_number.specs.Lift.{lift}
use Rattle.irr_number.proofs.NumberField.{number_field}
use Rattle.irr_theory.specs.Representations.{Representations, IsFull, IsComplete}
use Rattle.irr_theory.specs.Scalars.{map_families}
use Rattle.irr_theory.proofs.Scalars.{full-complete_over}
use Rattle.irr_space.specs.PhaseTable.{PhaseTable, phases_at}
use Rattle.irr_space.specs.CompleteList.{IsCompleteList}

module _ {h : ℕ} (T : PhaseTable h) where
  -- over each order
  complete_over : (L : Representations (phases_at T)) → IsFull L → (M : ℕ) (v : T.order ∣ M) → 0 < M → IsComplete (map_families (lift T.order M T.order_positive v) L)
  complete_over L full M v p = full-complete_over (number_field T.order T.order_positive) (number_field M p) (lift T.order M T.order_positive v) L full

  pub full_list-complete : (L : Representations (phases_at T)) → IsFull L → IsCompleteList T L
  full_list-complete L full = record {
    positive = full.positive;
    irreducible = λ M v p m. (complete_over L full M v p).irreducible m;
    inequivalent = full.inequivalent;
    all = λ M v p d A l i. (complete_over L full M v p).all A l i;
  }
