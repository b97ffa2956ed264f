-- The scalar of a matrix for one more element has its root.
--   not_member, power_not_member     the element is no member, and no power of it below the index is one
--   scalar_step              such a matrix is a step
--   power_scalar_root        its scalar has a root
use Rattle.std.specs.Prelude.{ℕ, ◌≡◌, ◌<◌, ◌⊎◌, List}
use Rattle.std.specs.Int.{◌∣◌}
use Rattle.std.proofs.Common.{sym, ◌∙◌, ap, subst, arith}
use Rattle.irr_algebra.specs.Fin.{Fin, to_nat}
use Rattle.irr_algebra.specs.Matrix.{Matrix, ◌·◌, scale, trace}
use Rattle.irr_algebra.proofs.Indices.{to_nat_inj}
use Rattle.irr_algebra.proofs.Matrices.{scale-scale}
use Rattle.irr_number.specs.Number.{numbers}
use Rattle.irr_number.proofs.NumberField.{number_field}
use Rattle.irr_theory.specs.FactorSystem.{Representation}
use Rattle.irr_theory.specs.Lifted.{lifted}
use Rattle.irr_eigen.specs.Power.{Root}
use Rattle.irr_eigen.specs.Step.{IsOutside, IsStep, Subtable, top_matrix}
use Rattle.irr_eigen.proofs.KeptSums.{step-root}
use Rattle.irr_space.specs.PhaseTable.{PhaseTable, exponents_below, phases_over, place_power}
use Rattle.irr_rep.specs.Subgroup.{IsRestriction}
use Rattle.irr_rep.proofs.Cycles.{cycle_over}
use Rattle.irr_rep.proofs.ElementOrders.{place_order}
use Rattle.irr_rep.proofs.Subtables.{subtable}
use Rattle.irr_chain.specs.NormalSubgroup.{In, IsCoset, IsGenerated, IsNormalOfIndex}
use Rattle.irr_chain.specs.Quotient.{power}
use Rattle.irr_chain.proofs.Cosets.{not_whole, to_start}
use Rattle.irr_chain.proofs.Levels.{contains_or_not, prime_above, subgroup_closed}
use Rattle.irr_level.specs.Scalar.{HasPowerScalar, phase_number}
use Rattle.irr_level.proofs.Phases.{lifted_number, lifted_place, phase_at}
use Rattle.irr_level.proofs.Positions.{member_in}
use Rattle.irr_level.proofs.CyclicLevel.{one_power}

module _ {h : ℕ} (T : PhaseTable h) (members outer : List ℕ) (p : ℕ) (prime : (p ≡ 2) ⊎ (p ≡ 3)) (normal : IsNormalOfIndex T members outer p)
    (g : Fin h) (generated : IsGenerated T members (to_nat g) outer) where
  pub not_member : In members g → ⊥
  not_member own =
      not_whole T (In members) (In outer) (subgroup_closed T members normal.subgroup) (subgroup_closed T outer generated.subgroup)
      normal.normal (λ i. contains_or_not members (to_nat i)) p (prime_above p prime) normal.index
      (generated.least members normal.subgroup (λ i a. a) own)

  pub power_not_member : (e : ℕ) → 0 < e → e < p → In members (power T g e) → ⊥
  unfolding place_power
  power_not_member e positive below k =
      let start : IsCoset T (In members) (power T g 0) (power T g e) = to_start T (In members) (subgroup_closed T members normal.subgroup) (power T g e) k in
      let number : 0 ≡ e = one_power T members outer p prime generated.subgroup normal g generated.has_generator not_member
      (power T g e) 0 e (omega arith) below start own_coset in
      omega (arith, number)
    where
      own_coset : IsCoset T (In members) (power T g e) (power T g e)
      own_coset = subst (In members) (sym (T.opposite-product (power T g e))) (subgroup_closed T members normal.subgroup).unit

module _ {h n : ℕ} (T : PhaseTable h) (members outer : List ℕ) (S : PhaseTable n) (p : ℕ) (prime : (p ≡ 2) ⊎ (p ≡ 3))
    (normal : IsNormalOfIndex T members outer p) (g : Fin h) (generated : IsGenerated T members (to_nat g) outer) (restriction : IsRestriction T members S)
    (M : ℕ) (v : T.order ∣ M) (w : S.order ∣ M) where
  pub sub : Subtable (phases_over S M w) (phases_over T M v)
  sub = (subtable T members S normal.subgroup restriction M v w).0

  sub_at : (i : Fin n) → sub.place i ≡ restriction.member i
  unfolding sub
  sub_at i = to_nat_inj (sub.place i) (restriction.member i) ((subtable T members S normal.subgroup restriction M v w).1 i ∙ sym (restriction.member-number i))

  pub outside : IsOutside sub g p
  outside = record {
    not-inside = λ e positive below i k. power_not_member T members outer p prime normal g generated e positive below
        (subst (In members) (sym (sub_at i) ∙ k ∙ lifted_place T M v g e) (member_in T members S normal.subgroup restriction i));
  }

  module _ {d : ℕ} (D : Representation (phases_over S M w) d) (u : Matrix (numbers M) d d) (c : (numbers M).Carrier)
      (scalar : HasPowerScalar restriction M w g p D u c) where
    pub scalar_step : IsStep sub D g p c u
    unfolding lifted
    scalar_step = record {
      top = scalar.top;
      place-top = sub_at scalar.top ∙ scalar.top_member ∙ sym (lifted_place T M v g p);
      carries = λ i j e.
          ap (λ k. scale (numbers M) k (u · D.at i)) (ap (λ x. (phases_over T M v).phase x g) (sub_at j) ∙ phase_at T M v (restriction.member j) g)
          ∙ scalar.carries i j (ap (λ x. T.product x g) (sym (sub_at j)) ∙ e ∙ ap (T.product g) (sub_at i))
          ∙ ap (λ k. scale (numbers M) k (D.at j · u)) (sym (ap ((phases_over T M v).phase g) (sub_at i) ∙ phase_at T M v g (restriction.member i)));
      power-multiple = scalar.power
          ∙ sym (scale-scale (numbers M) c (phase_number T M (exponents_below T.start T.product T.exponent g p)) (D.at scalar.top))
          ∙ ap (λ k. scale (numbers M) c (scale (numbers M) k (D.at scalar.top))) (sym (lifted_number T M v g p));
    }

    -- the matrix of the p-th power of g
    pub step_matrix : top_matrix (phases_over T M v) D g p scalar_step.top
        ≡ scale (numbers M) (phase_number T M (exponents_below T.start T.product T.exponent g p)) (D.at scalar.top)
    unfolding scalar_step lifted
    step_matrix = ap (λ k. scale (numbers M) k (D.at scalar.top)) (lifted_number T M v g p)

    pub power_scalar_root : 0 < M → (trace u ≡ (numbers M).zero → ⊥) → Root (numbers M) p c
    power_scalar_root positive t =
        let order = place_order T g in
        step-root (number_field M positive) sub D g p c u prime outside scalar_step (cycle_over T M positive v g order.0 order.1).0 t
