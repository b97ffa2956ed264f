-- The numbers of a step by which the blocks of an induced matrix are found.
--   sum_start, sum_step      the exponents of the generator with its powers, added up
--   at_most_three              an exponent below the index
--   image_of                 the place of p g^a
--   coset_number             the place of a power of the generator
--   exponent_number, exponent_small, part_number, part_below, member_number, member_below     what the step lists at a place
--   exponent_is              the exponent of the phase of a block
use Rattle.std.specs.Prelude.{ℕ, suc, ◌≡◌, ◌<◌, ◌≤◌, ◌+◌, ◌*◌, ◌-◌, ◌⊎◌, slice_index}
use Rattle.std.proofs.Common.{sym, ◌∙◌, ap, ap₂, subst, refl, inl, inr, get_or, arith}
use Rattle.irr_algebra.specs.Fin.{Fin, to_nat}
use Rattle.irr_algebra.proofs.Indices.{to_nat-lt}
use Rattle.irr_space.specs.PhaseTable.{PhaseTable, exponents_below, place_power}
use Rattle.irr_clifford.specs.Formulas.{block_phase, coset}
use Rattle.irr_level.specs.Scalar.{phase_number}
use Rattle.irr_rep.specs.Twisted.{phase_table, place_count}
use Rattle.irr_climb.specs.declared.step.Step.{Step}
use Rattle.irr_climb.specs.Steps.{IsStep}
use Rattle.irr_climb.proofs.ConjugateRows.{number_read}
use Rattle.irr_climb.proofs.InducedPhases.{block_phase_at, table_power_at}

pub sum_start : {h : ℕ} (T : PhaseTable h) (g : Fin h) → 0 ≡ exponents_below T.start T.product T.exponent g 0
unfolding exponents_below
sum_start T g = refl

pub sum_step : {h : ℕ} (T : PhaseTable h) (g : Fin h) (e sum left x : ℕ) → sum ≡ exponents_below T.start T.product T.exponent g e
    → left ≡ to_nat (place_power T.start T.product g e) → ((p q : Fin h) → to_nat p ≡ to_nat g → to_nat q ≡ left → x ≡ T.exponent p q)
    → sum + x ≡ exponents_below T.start T.product T.exponent g (e + 1)
unfolding exponents_below
sum_step T g e sum left x is power step =
    let one : suc e ≡ e + 1 = omega arith in
    subst (λ k. sum + x ≡ exponents_below T.start T.product T.exponent g k) one
    (ap₂ (λ a b. a + b) is (step g (place_power T.start T.product g e) refl (sym power)))

pub at_most_three : (p k : ℕ) → (p ≡ 2) ⊎ (p ≡ 3) → k < p → k ≤ 3
at_most_three p k (inl e) l = omega (arith, e, l)
at_most_three p k (inr e) l = omega (arith, e, l)

module _ {M : ℕ} {step : Step} (is : IsStep M step) where
  -- the place of p g^a
  abbrev pub image_of : Fin (place_count step.outer) → Fin is.quotient.index → Fin (place_count step.outer)
  image_of p a = (phase_table step.outer).product p (coset is.quotient a)

  pub coset_number : (a : Fin is.quotient.index) (b r : ℕ) → to_nat a ≡ b
      → r ≡ to_nat (place_power (phase_table step.outer).start (phase_table step.outer).product is.quotient.generator b)
      → to_nat (coset is.quotient a) ≡ r
  coset_number a b r e power =
      let T = phase_table step.outer in
      ap to_nat (table_power_at T M is.outer_divides is.quotient.generator (to_nat a))
      ∙ ap (λ k. to_nat (place_power T.start T.product is.quotient.generator k)) e ∙ sym power

  -- what is listed at the place y
  module _ (y : Fin (place_count step.outer)) (k : ℕ) (e : to_nat y ≡ k) where
    below : k < place_count step.outer
    below = subst (λ j. j < place_count step.outer) e (to_nat-lt y)

    pub exponent_number : (r : ℕ) → r ≡ get_or step.exponents.items k r → r ≡ to_nat (is.quotient.exponent y)
    exponent_number r read = number_read step.exponents.items k r (place_count step.outer) read is.exponents_count below
        ∙ ap (slice_index step.exponents.items) (sym e) ∙ is.exponents y

    pub exponent_small : (r : ℕ) → r ≡ get_or step.exponents.items k r → r ≤ 3
    exponent_small r read = at_most_three is.quotient.index r is.two_or_three
        (subst (λ j. j < is.quotient.index) (sym (exponent_number r read)) (to_nat-lt (is.quotient.exponent y)))

    pub part_number : (r : ℕ) → r ≡ get_or step.parts.items k r → r ≡ to_nat (is.quotient.part y)
    part_number r read = number_read step.parts.items k r (place_count step.outer) read is.parts_count below
        ∙ ap (slice_index step.parts.items) (sym e) ∙ is.parts y

    pub part_below : (r : ℕ) → r ≡ get_or step.parts.items k r → r < place_count step.inner
    part_below r read = subst (λ j. j < place_count step.inner) (sym (part_number r read)) (to_nat-lt (is.quotient.part y))

    pub member_number : (r m : ℕ) → r ≡ get_or step.parts.items k r → m ≡ get_or step.members.items r m
        → m ≡ to_nat (is.part.place (is.quotient.part y))
    member_number r m read second =
        number_read step.members.items r m (place_count step.inner) second is.members_count (part_below r read)
        ∙ ap (slice_index step.members.items) (part_number r read) ∙ is.members (is.quotient.part y)

    pub member_below : (r m : ℕ) → r ≡ get_or step.parts.items k r → m ≡ get_or step.members.items r m → m < place_count step.outer
    member_below r m read second =
        subst (λ j. j < place_count step.outer) (sym (member_number r m read second)) (to_nat-lt (is.part.place (is.quotient.part y)))

  -- the exponent of the phase of the block a at p
  module _ (p : Fin (place_count step.outer)) (a : Fin is.quotient.index) where
    abbrev T : PhaseTable (place_count step.outer)
    T = phase_table step.outer

    abbrev y : Fin (place_count step.outer)
    y = image_of p a

    abbrev sum_of : ℕ → ℕ
    sum_of e = exponents_below T.start T.product T.exponent is.quotient.generator e

    pub exponent_is : (first behind order second before : ℕ) → first ≡ sum_of (to_nat a) → behind ≡ T.exponent p (coset is.quotient a)
        → order ≡ T.order → second ≡ sum_of (to_nat (is.quotient.exponent y))
        → before ≡ T.exponent (coset is.quotient (is.quotient.exponent y)) (is.part.place (is.quotient.part y))
        → phase_number T M (first + behind + (order - 1) * (second + before)) ≡ block_phase is.quotient p a
    exponent_is first behind order second before f b o s r =
        ap (phase_number T M)
        (ap₂ (λ u v. u + v) (ap₂ (λ u v. u + v) f b) (ap₂ (λ u v. (u - 1) * v) o (ap₂ (λ u v. u + v) s r)))
        ∙ sym (block_phase_at T M is.outer_divides is.quotient p a)
