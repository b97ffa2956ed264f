-- The trace at a place outside a subgroup as a sum of roots of eigenvalues.
--   root_sum: the sum over a list of the indices of the eigenvalues
use Rattle.std.proofs.Common.{◌≡◌, sym, ◌∙◌, refl, subst, ℕ, zero, suc, ◌<◌, ◌*◌, List, arith}
use Rattle.irr_algebra.specs.Ring.{Ring}
use Rattle.irr_algebra.specs.Field.{Field}
use Rattle.irr_algebra.specs.Fin.{Fin, to_nat}
use Rattle.irr_algebra.specs.Matrix.{trace}
use Rattle.irr_algebra.proofs.Rings.{one-mul}
use Rattle.irr_algebra.proofs.Fields.{one-ne-zero}
use Rattle.irr_theory.specs.FactorSystem.{FactorSystem, Representation}
use Rattle.irr_eigen.specs.Power.{power}
use Rattle.irr_eigen.specs.Eigenspace.{Occurs, IsSumOfRoots}
use Rattle.irr_eigen.specs.ListSum.{AddsUp, occurrences}
use Rattle.irr_eigen.specs.Step.{Cycle, IsStep, Subtable, at_place, cycle_numbers, lifted_power, restricted, top_matrix}
use Rattle.irr_eigen.proofs.Extended.{family-step}
use Rattle.irr_eigen.proofs.KeptSums.{trace-root}
use Rattle.irr_eigen.proofs.ListSums.{list-sum}
use Rattle.irr_eigen.proofs.Powers.{one-power}
use Rattle.irr_eigen.proofs.Steps.{step-different, step-matrix_root, step-primitive}

pub list_sum_of : (R : Ring) {k : ℕ} (p : ℕ) (z : R.Carrier) (w : Fin k → R.Carrier) (times : Fin k → ℕ) (s : R.Carrier) → 0 < p → IsSumOfRoots R p z w times s
    → (l : List (Fin k)) → ((a : Fin k) → occurrences a l ≡ times a) → AddsUp R (λ a (j : Fin p). R.mul (w a) (power R z (to_nat j))) l s
list_sum_of R zero z w times s pos h l counts = absurd (omega arith)
list_sum_of R (suc p) z w times s pos h l counts = list-sum R p z w times s h l counts

module _ (F : Field) where
  open F use {ring as R}

  pub root_sum : {S T : FactorSystem R} (part : Subtable S T) {d : ℕ} (E : Representation T d) (x : Fin T.places) (p : ℕ) (top : Fin S.places) → 0 < p
      → part.place top ≡ (lifted_power (at_place T x) p).place → (cycle : Cycle T x) (m : ℕ) → cycle.order ≡ suc m * p → (l : List (Fin (suc m)))
      → ((a : Fin (suc m)) → Occurs (top_matrix T (restricted part E) x p top) (power R (cycle_numbers cycle (suc m) a) p) (occurrences a l))
      → AddsUp R (λ a (j : Fin p). R.mul (cycle_numbers cycle (suc m) a) (power R (power R cycle.root (suc m)) (to_nat j))) l (trace (E.at x))
  root_sum {S} {T} part {d} E x p top pos in-s cycle m order l occurs =
      let h : IsStep part (restricted part E) x p R.one (E.at x) = family-step part E x p top in-s in
      let same : top ≡ h.top = part.injective top h.top (in-s ∙ sym h.place-top) in
      let found = trace-root F p (power R cycle.root (suc m)) R.one R.one (cycle_numbers cycle (suc m)) (λ a. occurrences a l) pos
      (step-primitive F part (restricted part E) x p R.one (E.at x) h cycle m order pos) (one-ne-zero F) (one-power R p)
      (step-matrix_root F part (restricted part E) x p R.one (E.at x) h cycle m order pos)
      (step-different F part (restricted part E) x p R.one (E.at x) h cycle m order pos)
      (λ a. subst (λ t. Occurs (top_matrix T (restricted part E) x p t) (power R (cycle_numbers cycle (suc m) a) p) (occurrences a l)) same (occurs a)) in
      subst (λ s. AddsUp R (λ a (j : Fin p). R.mul (cycle_numbers cycle (suc m) a) (power R (power R cycle.root (suc m)) (to_nat j))) l s)
      (sym (found.2 ∙ one-mul R found.0))
      (list_sum_of R p (power R cycle.root (suc m)) (cycle_numbers cycle (suc m)) (λ a. occurrences a l) found.0 pos found.1 l (λ a. refl))
