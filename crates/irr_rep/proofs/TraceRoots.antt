-- Traces of small representations are sums of powers of z, one for each row.
--   IsRootSum-whole          the number k as a sum of k powers of z
--   IsRootSum-counted        sums of as many powers as are counted
--   trace-IsRootSum          the trace of a small representation of d rows is a sum of d powers of z
use Rattle.std.proofs.Common.{◌≡◌, sym, ◌∙◌, ap, subst, ℕ, zero, suc, ◌+◌, ◌*◌, ◌<◌, arith}
use Rattle.std.specs.Int.{◌∣◌}
use Rattle.irr_algebra.specs.Fin.{Fin, to_nat}
use Rattle.irr_algebra.specs.Fin.Fin.{first, next}
use Rattle.irr_algebra.specs.Ring.{whole}
use Rattle.irr_algebra.specs.Sum.{sum}
use Rattle.irr_algebra.specs.Matrix.{Matrix, ◌·◌, scale, trace, unit}
use Rattle.irr_algebra.proofs.Fields.{whole_inj}
use Rattle.irr_algebra.proofs.Matrices.{scale-one, trace-scale, trace-unit}
use Rattle.irr_algebra.proofs.Spans.{Image, projection_image}
use Rattle.irr_algebra.proofs.Sums.{sum-ext}
use Rattle.irr_algebra.proofs.Totals.{trace-total}
use Rattle.irr_algebra.proofs.Whole.{whole-zero, whole-suc, whole-add}
use Rattle.irr_number.specs.Number.{Number, numbers, root_power}
use Rattle.irr_number.proofs.NumberField.{number_field}
use Rattle.irr_number.proofs.RootPowers.{root_power-ne-zero}
use Rattle.irr_theory.specs.FactorSystem.{Representation}
use Rattle.irr_theory.specs.Lifted.{lifted}
use Rattle.irr_theory.specs.Representations.{count_total}
use Rattle.irr_theory.specs.Extension.{matrix_power}
use Rattle.irr_eigen.specs.Eigenspace.{Eigenspaces}
use Rattle.irr_eigen.specs.Power.{IsPrimitiveRoot, power}
use Rattle.irr_eigen.specs.Step.{Cycle, at_place}
use Rattle.irr_eigen.proofs.LiftedPowers.{matrix_power-lifted, lifted-ext}
use Rattle.irr_eigen.proofs.RootsOfOne.{eigenspaces_of_power}
use Rattle.irr_eigen.proofs.Shares.{trace-shares}
use Rattle.irr_canonical.specs.RootSum.{IsRootSum}
use Rattle.irr_canonical.proofs.RootSums.{IsRootSum-add_same, IsRootSum-mul, IsRootSum-one, IsRootSum-root, IsRootSum-zero}
use Rattle.irr_space.specs.PhaseTable.{PhaseTable, phases_over}
use Rattle.irr_rep.proofs.Cycles.{cycle_over}
use Rattle.irr_rep.proofs.ElementOrders.{place_order}

pub IsRootSum-whole : (N k : ℕ) → IsRootSum N k 1 (whole (numbers N) k)
IsRootSum-whole N zero = subst (IsRootSum N 0 1) (sym (whole-zero (numbers N))) (IsRootSum-zero N 1 (omega arith))
IsRootSum-whole N (suc k) =
    let e : 1 + k ≡ suc k = omega arith in
    subst (λ s. IsRootSum N s 1 (whole (numbers N) (suc k))) e
    (subst (IsRootSum N (1 + k) 1) (sym (whole-suc (numbers N) k)) (IsRootSum-add_same N (IsRootSum-one N) (IsRootSum-whole N k)))

-- as many powers as are counted
pub IsRootSum-counted : (N k : ℕ) (times : Fin k → ℕ) (f : Fin k → Number N) → ((a : Fin k) → IsRootSum N (times a) 1 (f a))
    → IsRootSum N (count_total k times) 1 (sum (numbers N) k f)
unfolding sum count_total
IsRootSum-counted N zero times f h = IsRootSum-zero N 1 (omega arith)
IsRootSum-counted N (suc k) times f h = IsRootSum-add_same N (h first)
    (IsRootSum-counted N k (λ a. times (next a)) (λ a. f (next a)) (λ a. h (next a)))

whole-counted : (N k : ℕ) (times : Fin k → ℕ) → sum (numbers N) k (λ a. whole (numbers N) (times a)) ≡ whole (numbers N) (count_total k times)
unfolding sum count_total
whole-counted N zero times = sym (whole-zero (numbers N))
whole-counted N (suc k) times = ap ((numbers N).add (whole (numbers N) (times first))) (whole-counted N k (λ a. times (next a)))
    ∙ sym (whole-add (numbers N) (times first) (count_total k (λ a. times (next a))))

-- powers of a power of z
IsRootSum-power : (N : ℕ) (z : Number N) (j : ℕ) → IsRootSum N 1 1 z → IsRootSum N 1 1 (power (numbers N) z j)
unfolding power
IsRootSum-power N z zero h = IsRootSum-one N
IsRootSum-power N z (suc j) h = IsRootSum-mul N h (IsRootSum-power N z j h)

module _ (N : ℕ) (positive : 0 < N) where
  -- where the eigenvalues are powers of z, the trace is a sum of them
  trace-eigenvalues : {d k : ℕ} (v : Matrix (numbers N) d d) (values : Fin k → Number N) → Eigenspaces v values
      → ((a : Fin k) → IsRootSum N 1 1 (values a)) → IsRootSum N d 1 (trace v)
  trace-eigenvalues {d} {k} v values e h =
      let all : count_total k times ≡ d = whole_inj (number_field N positive) (count_total k times) d
      (sym (whole-counted N k times) ∙ sum-ext (numbers N) k (λ a. whole (numbers N) (times a)) (λ a. trace (e.projection a))
      (λ a. sym (image a).trace-rank)
      ∙ sym (trace-total k e.projection) ∙ ap trace e.adds_up ∙ trace-unit (numbers N) d) in
      subst (λ s. IsRootSum N s 1 (trace v)) all
      (subst (IsRootSum N (count_total k times) 1) (sym (trace-shares e v)) (IsRootSum-counted N k times (λ a. trace (v · e.projection a)) part))
    where
      image : (a : Fin k) → Image (e.projection a)
      image a = projection_image (number_field N positive) (e.projection a) (e.projects a)

      times : Fin k → ℕ
      times a = (image a).rank

      part : (a : Fin k) → IsRootSum N (times a) 1 (trace (v · e.projection a))
      part a =
          let one : 1 * times a ≡ times a = omega arith in
          subst (λ s. IsRootSum N s 1 (trace (v · e.projection a))) one
          (subst (IsRootSum N (1 * times a) 1)
          (sym (ap trace (e.eigen a) ∙ trace-scale (numbers N) (values a) (e.projection a) ∙ ap ((numbers N).mul (values a)) (image a).trace-rank))
          (IsRootSum-mul N (h a) (IsRootSum-whole N (times a))))

  module _ {h : ℕ} (T : PhaseTable h) (divides : T.order ∣ N) {d : ℕ} (A : Representation (phases_over T N divides) d) (g : Fin h) where
    -- the power of the matrix at the end of a cycle is a number
    cycle-power : (cycle : Cycle (phases_over T N divides) g) → matrix_power (A.at g) cycle.order ≡ scale (numbers N)
        (power (numbers N) cycle.number cycle.order) (unit (numbers N) d)
    unfolding lifted
    cycle-power cycle =
        ap (λ (u : Matrix (numbers N) d d). matrix_power u cycle.order) (sym (scale-one (A.at g)))
        ∙ matrix_power-lifted A (at_place (phases_over T N divides) g) cycle.order
        ∙ ap (lifted A) (lifted-ext cycle.phase-power cycle.returns)
        ∙ ap (scale (numbers N) (power (numbers N) cycle.number cycle.order)) A.at-start

    by_cycle : (m : ℕ) (cycle : Cycle (phases_over T N divides) g) → cycle.order ≡ m → (i j : ℕ) → cycle.number ≡ root_power N i
        → cycle.root ≡ root_power N j → IsRootSum N d 1 (trace (A.at g))
    by_cycle zero cycle e i j p q = absurd (let l : 0 < cycle.order = cycle.positive in omega (arith, e))
    by_cycle (suc m) cycle e i j p q =
        trace-eigenvalues (A.at g) (λ (a : Fin (suc m)). (numbers N).mul cycle.number (power (numbers N) cycle.root (to_nat a)))
        (eigenspaces_of_power (number_field N positive) m (A.at g) cycle.number cycle.root (λ z. root_power-ne-zero N positive i (sym p ∙ z))
        (subst (λ n. IsPrimitiveRoot (numbers N) n cycle.root) e cycle.primitive)
        (subst (λ n. matrix_power (A.at g) n ≡ scale (numbers N) (power (numbers N) cycle.number n) (unit (numbers N) d)) e (cycle-power cycle)))
        (λ a. IsRootSum-mul N (subst (IsRootSum N 1 1) (sym p) (IsRootSum-root N i))
        (IsRootSum-power N cycle.root (to_nat a) (subst (IsRootSum N 1 1) (sym q) (IsRootSum-root N j))))

    pub trace-IsRootSum : IsRootSum N d 1 (trace (A.at g))
    trace-IsRootSum =
        let m = place_order T g in
        let made = cycle_over T N positive divides g m.0 m.1 in
        by_cycle m.0 made.0 made.1 _ _ made.2 made.3
