-- Sums of roots of the eigenvalues of a power.
--   no_vectors               a number other than the eigenvalues occurs 0 times
--   step_sum, power_scalar_sum       some sum of roots meets the trace
use Rattle.std.specs.Prelude.{ℕ, suc, ◌≡◌, ◌<◌, ◌+◌, ◌*◌, ◌/◌, ◌⊎◌, List}
use Rattle.std.specs.Int.{◌∣◌}
use Rattle.std.proofs.Common.{sym, ◌∙◌, ap, ap₂, subst, refl}
use Rattle.std.proofs.Math.Nat.{mul_comm}
use Rattle.irr_algebra.specs.Ring.{Ring}
use Rattle.irr_algebra.specs.Field.{Field}
use Rattle.irr_algebra.specs.Fin.{Fin, to_nat}
use Rattle.irr_algebra.specs.Sum.{sum}
use Rattle.irr_algebra.specs.Matrix.{Matrix, ◌·◌, null, scale, trace}
use Rattle.irr_algebra.proofs.Rings.{add-mul, eq_of_sub-zero, mul-zero, neg-mul}
use Rattle.irr_algebra.proofs.Fields.{mul_cancel}
use Rattle.irr_algebra.proofs.Matrices.{matrix-ext, mul_assoc, mul-scale, null_of_entries, scale-at, scale-mul, unit-mul}
use Rattle.irr_algebra.proofs.Rank.{mul-empty}
use Rattle.irr_algebra.proofs.Sums.{sum-ext}
use Rattle.irr_algebra.proofs.Totals.{total-mul, total-null}
use Rattle.irr_number.specs.Number.{numbers, root_power}
use Rattle.irr_number.proofs.NumberField.{number_field}
use Rattle.irr_theory.specs.FactorSystem.{FactorSystem, Representation}
use Rattle.irr_eigen.specs.Power.{power}
use Rattle.irr_eigen.specs.Eigenspace.{Eigenspaces, IsMatrixRoot, IsSumOfRoots, Occurs}
use Rattle.irr_eigen.specs.Step.{Cycle, cycle_numbers, IsOutside, IsStep, Subtable, top_matrix}
use Rattle.irr_eigen.proofs.Cycles.{cycle-powers}
use Rattle.irr_eigen.proofs.KeptSums.{step-kept_sum, two_or_three-pos}
use Rattle.irr_eigen.proofs.Occurrences.{occurs}
use Rattle.irr_eigen.proofs.Orders.{order-multiple}
use Rattle.irr_eigen.proofs.Powers.{mul-power, one-power, power-add, power-mul, power_swap}
use Rattle.irr_eigen.proofs.Steps.{step-different, step-matrix_root, step-primitive}
use Rattle.irr_space.specs.PhaseTable.{exponents_below, PhaseTable, phases_over}
use Rattle.irr_rep.specs.Subgroup.{IsRestriction}
use Rattle.irr_rep.proofs.Cycles.{cycle_over}
use Rattle.irr_rep.proofs.ElementOrders.{place_order}
use Rattle.irr_rep.proofs.PrimitiveRoots.{power-root_power}
use Rattle.irr_chain.specs.NormalSubgroup.{IsGenerated, IsNormalOfIndex}
use Rattle.irr_level.specs.Scalar.{HasPowerScalar, IsRootSum, phase_number}
use Rattle.irr_level.proofs.RootLaw.{outside, scalar_step, step_matrix, sub}

module _ (F : Field) where
  open F use {ring as R}

  -- what two different numbers multiply alike is 0
  null_of_scales : {m n : ℕ} (x y : R.Carrier) (a : Matrix R m n) → (x ≡ y → ⊥) → scale R x a ≡ scale R y a → a ≡ null
  null_of_scales {m} {n} x y a h e = null_of_entries (λ i j.
      mul_cancel F (R.add x (R.neg y)) (a.at i j) R.zero (λ z. h (eq_of_sub-zero R x y z))
      (add-mul R x (R.neg y) (a.at i j)
      ∙ ap₂ R.add (sym (scale-at R x a i j) ∙ ap (λ (b : Matrix R m n). b.at i j) e ∙ scale-at R y a i j) (neg-mul R y (a.at i j))
      ∙ R.add-neg (R.mul y (a.at i j)) ∙ sym (mul-zero R (R.add x (R.neg y)))))

  module _ {d k : ℕ} {v : Matrix R d d} {values : Fin k → R.Carrier} (e : Eigenspaces v values) where
    no_eigenvector : (x : R.Carrier) → ((a : Fin k) → x ≡ values a → ⊥) → (y : Matrix R d 1) → v · y ≡ scale R x y → y ≡ null
    no_eigenvector x other y h =
        sym (unit-mul y) ∙ ap (λ (m : Matrix R d d). m · y) (sym e.adds_up) ∙ total-mul k e.projection y ∙ total-null k part
      where
        part : (a : Fin k) → e.projection a · y ≡ null
        part a = null_of_scales x (values a) (e.projection a · y) (other a)
            (sym (mul-scale R x (e.projection a) y) ∙ ap (λ (m : Matrix R d 1). e.projection a · m) (sym h) ∙ sym (mul_assoc (e.projection a) v y)
            ∙ ap (λ (m : Matrix R d d). m · y) (e.commutes a v refl ∙ e.eigen a) ∙ scale-mul R (values a) (e.projection a) y)

    pub no_vectors : (x : R.Carrier) → ((a : Fin k) → x ≡ values a → ⊥) → Occurs v x 0
    no_vectors x other = record {
      basis = empty;
      independent = record { only_zero = λ c h. matrix-ext (λ i j. elim i [ ]) };
      eigen = matrix-ext (λ i j. elim j [ ]);
      spanning = λ y h. record { coefficients = none; is_combination = mul-empty 0 empty none refl ∙ sym (no_eigenvector x other y h) };
    }
      where
        empty : Matrix R d 0
        empty = record { at = λ i j. elim j [ ] }

        none : Matrix R 0 1
        none = record { at = λ i j. elim i [ ] }

module _ {h : ℕ} (T : PhaseTable h) (M : ℕ) (v : T.order ∣ M) (positive : 0 < M) {S : FactorSystem (numbers M)} (part : Subtable S (phases_over T M v))
    {d : ℕ} (D : Representation S d) (g : Fin h) (p : ℕ) (prime : (p ≡ 2) ⊎ (p ≡ 3)) (c : (numbers M).Carrier) (u : Matrix (numbers M) d d)
    (step : IsStep part D g p c u) (t : trace u ≡ (numbers M).zero → ⊥) where
  abbrev field : Field
  field = number_field M positive

  abbrev R : Ring
  R = numbers M

  abbrev z : R.Carrier
  z = root_power M (M / T.order)

  power_z : (e : ℕ) → power R (root_power M (M / T.order)) e ≡ phase_number T M e
  power_z e = power-root_power M (M / T.order) e ∙ ap (root_power M) (mul_comm e (M / T.order))

  above : 0 < p
  above = two_or_three-pos p prime

  module _ (cycle : Cycle (phases_over T M v) g) (y q : ℕ) (number_is : cycle.number ≡ power (numbers M) (root_power M (M / T.order)) y)
      (root_is : cycle.root ≡ power (numbers M) (root_power M (M / T.order)) q) (m : ℕ) (order_is : cycle.order ≡ suc m * p) where
    abbrev w : Fin (suc m) → R.Carrier
    w = cycle_numbers cycle (suc m)

    -- a p-th root of one
    abbrev ρ : R.Carrier
    ρ = power R cycle.root (suc m)

    base : (a : Fin (suc m)) → w a ≡ power R z (y + to_nat a * q)
    base a = ap₂ R.mul number_is (ap (λ x. power R x (to_nat a)) root_is ∙ sym (power-mul R z (to_nat a) q)) ∙ sym (power-add R z y (to_nat a * q))

    value_is : (a : Fin (suc m)) → power R (w a) p ≡ phase_number T M (p * (y + to_nat a * q))
    value_is a = ap (λ x. power R x p) (base a) ∙ sym (power-mul R z p (y + to_nat a * q)) ∙ power_z (p * (y + to_nat a * q))

    matrix_root : IsMatrixRoot p c (top_matrix (phases_over T M v) D g p step.top) u (cycle_numbers cycle (suc m))
    matrix_root = step-matrix_root field part D g p c u step cycle m order_is above

    apart : (a b : Fin (suc m)) → power R (w a) p ≡ power R (w b) p → a ≡ b
    apart = step-different field part D g p c u step cycle m order_is above

    often : (a : Fin (suc m)) → (n : ℕ) × Occurs (top_matrix (phases_over T M v) D g p step.top) (power R (w a) p) n
    often a = occurs field matrix_root.eigenspaces apart a

    kept : (s : R.Carrier) × IsSumOfRoots R p ρ w (λ a. (often a).0) s × (R.mul (power R s p) c ≡ power R (trace u) p)
    kept = step-kept_sum field part D g p c u prime step cycle m order_is t (λ a. (often a).0) (λ a. (often a).1)

    -- the exponent of the j-th root of an eigenvalue
    abbrev chosen : Fin (suc m) → ℕ → ℕ
    chosen a j = y + to_nat a * q + j * suc m * q

    root_at : (a : Fin (suc m)) (j : ℕ) → R.mul (w a) (power R ρ j) ≡ power R z (chosen a j)
    root_at a j = cycle-powers cycle z q y number_is root_is (suc m) a j

    rooted : (a : Fin (suc m)) (j : ℕ) → phase_number T M (p * chosen a j) ≡ phase_number T M (p * (y + to_nat a * q))
    rooted a j =
        sym (power_z (p * chosen a j)) ∙ power-mul R z p (chosen a j) ∙ ap (λ x. power R x p) (sym (root_at a j)) ∙ mul-power R (w a) (power R ρ j) p
        ∙ ap (R.mul (power R (w a) p)) (power_swap R ρ j p
        ∙ ap (λ x. power R x j) (step-primitive field part D g p c u step cycle m order_is above).power-one ∙ one-power R j)
        ∙ R.mul-one (power R (w a) p) ∙ value_is a

    cycle_sum : (s : R.Carrier) × IsRootSum T M p (top_matrix (phases_over T M v) D g p step.top) s × (R.mul (power R s p) c ≡ power R (trace u) p)
    cycle_sum = (
      kept.0,
      record {
        count = suc m;
        eigenvalue = λ a. p * (y + to_nat a * q);
        different = λ a b e. apart a b (value_is a ∙ e ∙ sym (value_is b));
        times = λ a. (often a).0;
        occurs = λ a. subst (λ x. Occurs (top_matrix (phases_over T M v) D g p step.top) x (often a).0) (value_is a) (often a).1;
        no_other = λ x other. no_vectors field matrix_root.eigenspaces (phase_number T M x) (λ a e. other a (e ∙ value_is a));
        exponent = λ a i. chosen a (to_nat (kept.1.choice a i));
        is_root = λ a i. rooted a (to_nat (kept.1.choice a i));
        is_sum = kept.1.is_sum ∙ sum-ext R (suc m) (λ a. sum R (often a).0 (λ i. R.mul (w a) (power R ρ (to_nat (kept.1.choice a i)))))
            (λ a. sum R (often a).0 (λ i. phase_number T M (chosen a (to_nat (kept.1.choice a i)))))
            (λ a. sum-ext R (often a).0 (λ i. R.mul (w a) (power R ρ (to_nat (kept.1.choice a i))))
            (λ i. phase_number T M (chosen a (to_nat (kept.1.choice a i))))
            (λ i. root_at a (to_nat (kept.1.choice a i)) ∙ power_z (chosen a (to_nat (kept.1.choice a i)))));
      },
      kept.2,
    )

  pub step_sum : IsOutside part g p → (s : R.Carrier)
      × IsRootSum T M p (top_matrix (phases_over T M v) D g p step.top) s × (R.mul (power R s p) c ≡ power R (trace u) p)
  step_sum out =
      let o = place_order T g in
      let k = cycle_over T M positive v g o.0 o.1 in
      let m = order-multiple part g p out step.top step.place-top above k.0.order k.0.positive k.0.returns in
      cycle_sum k.0 (exponents_below T.start T.product T.exponent g o.0 / o.0) (T.order / o.0)
      (k.2 ∙ sym (power-root_power M (M / T.order) (exponents_below T.start T.product T.exponent g o.0 / o.0)))
      (k.3 ∙ sym (power-root_power M (M / T.order) (T.order / o.0))) m.0 m.1

module _ {h n : ℕ} (T : PhaseTable h) (members outer : List ℕ) (S : PhaseTable n) (p : ℕ) (prime : (p ≡ 2) ⊎ (p ≡ 3))
    (normal : IsNormalOfIndex T members outer p) (g : Fin h) (generated : IsGenerated T members (to_nat g) outer) (restriction : IsRestriction T members S)
    (M : ℕ) (v : T.order ∣ M) (w : S.order ∣ M) {d : ℕ} (D : Representation (phases_over S M w) d) (u : Matrix (numbers M) d d)
    (c : (numbers M).Carrier) (scalar : HasPowerScalar restriction M w g p D u c) where
  pub power_scalar_sum : 0 < M → (trace u ≡ (numbers M).zero → ⊥) → (s : (numbers M).Carrier)
      × IsRootSum T M p (scale (numbers M) (phase_number T M (exponents_below T.start T.product T.exponent g p)) (D.at scalar.top)) s
      × ((numbers M).mul (power (numbers M) s p) c ≡ power (numbers M) (trace u) p)
  power_scalar_sum positive t =
      let s = step_sum T M v positive (sub T members outer S p prime normal g generated restriction M v w) D g p prime c u
      (scalar_step T members outer S p prime normal g generated restriction M v w D u c scalar) t
      (outside T members outer S p prime normal g generated restriction M v w) in
      (s.0, subst (λ m. IsRootSum T M p m s.0) (step_matrix T members outer S p prime normal g generated restriction M v w D u c scalar) s.1, s.2)
