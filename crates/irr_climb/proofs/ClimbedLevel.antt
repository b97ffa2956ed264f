-- A full list on the members of a level and one on what the level generates, by the step of the level.
--   few_members              a full list has no more members than places
--   start_list, start_sized  the list on the members, over the step's smaller table
--   end_list                 a list over the step's larger table
use Rattle.std.specs.Prelude.{ℕ, zero, suc, ◌≡◌, ◌<◌, ◌≤◌, ◌*◌, List, length}
use Rattle.std.specs.Int.{◌∣◌}
use Rattle.std.proofs.Common.{sym, ◌∙◌, ap, subst, arith}
use Rattle.irr_algebra.specs.Ring.{Ring}
use Rattle.irr_algebra.specs.Fin.{Fin}
use Rattle.irr_algebra.specs.Fin.Fin.{first, next}
use Rattle.irr_theory.specs.FactorSystem.{FactorSystem}
use Rattle.irr_theory.specs.Representations.{count_total, IsFull, Representations}
use Rattle.irr_space.specs.PhaseTable.{PhaseTable}
use Rattle.irr_cyc.specs.declared.scalars.Scalar.{Ghosts}
use Rattle.irr_rep.specs.declared.family.Family.{Family}
use Rattle.irr_rep.specs.Twisted.{phase_table, place_count}
use Rattle.irr_chain.specs.declared.series.Level.{Level}
use Rattle.irr_climb.specs.declared.step.Step.{Step}
use Rattle.irr_climb.specs.Lists.{IsFullOn, IsFullyRead}
use Rattle.irr_climb.specs.Sizes.{AreSized}
use Rattle.irr_climb.specs.Steps.{IsStepOf, large, small}
use Rattle.irr_climb.proofs.SameTables.{read_on}

total-count : (n : ℕ) (f : Fin n → ℕ) → ((i : Fin n) → 0 < f i) → n ≤ count_total n f
unfolding count_total
total-count zero f p = omega arith
total-count (suc n) f p = let a = p first in let l = total-count n (λ i. f (next i)) (λ i. p (next i)) in omega (arith, a, l)

positive_square : (d : ℕ) → 0 < d → 0 < d * d
positive_square zero p = omega (arith, p)
positive_square (suc d) p = omega arith

pub few_members : {R : Ring} {P : FactorSystem R} (L : Representations P) → IsFull L → L.count ≤ P.places
few_members L full = subst (λ k. L.count ≤ k) full.squares
    (total-count L.count (λ m. L.size m * L.size m) (λ m. positive_square (L.size m) (full.positive m)))

module _ {h : ℕ} (T : PhaseTable h) (level : Level) (outer : List ℕ) (step : Step) (is : IsStepOf T level outer T.order step)
    {S : Type 0} {G : Ghosts S} (fs : List (Family S G)) where
  pub start_list : IsFullOn T T.order level.members.items fs → IsFullyRead T.order (small is.is_step) fs
  start_list on = on.full (place_count step.inner) (phase_table step.inner) is.inner_table is.is_step.inner_divides

  pub start_sized : IsFullOn T T.order level.members.items fs → AreSized T.order (place_count step.inner) fs
  start_sized on = subst (λ n. AreSized T.order n fs) (sym is.inner_table.count) on.sized

  pub end_list : IsFullyRead T.order (large is.is_step) fs → AreSized T.order (place_count step.outer) fs → IsFullOn T T.order outer fs
  end_list read sized = record {
    full = λ n U r w.
        read_on T outer is.is_level.generated.subgroup T.order (phase_table step.outer) U is.outer_table r is.is_step.outer_divides w fs read;
    sized = subst (λ n. AreSized T.order n fs) is.outer_table.count sized;
  }
