-- An example: a half turn on spin, whose square is -1. The places are 1 and the half turn, the subgroup is that of 1.
--   half_turn_squared: the square of each trace at the half turn is -1, so the traces are i and -i
--   minus_one_once: at the square of the half turn the eigenvalue -1 occurs once, and 1 does not
use Rattle.std.proofs.Common.{◌≡◌, sym, ◌∙◌, ap, refl}
use Rattle.irr_algebra.specs.Ring.{IsInvertible, Ring, whole}
use Rattle.irr_algebra.specs.Fin.{Fin, to_nat}
use Rattle.irr_algebra.specs.Fin.Fin.{first, next}
use Rattle.irr_algebra.specs.Sum.{sum}
use Rattle.irr_algebra.proofs.Indices.{only_first}
use Rattle.irr_algebra.proofs.Rings.{mul-neg, neg-mul, neg-neg, one-mul, ring_laws}
use Rattle.irr_theory.specs.FactorSystem.{FactorSystem}
use Rattle.irr_theory.specs.Lifted.{lifted_product}
use Rattle.irr_theory.specs.OnePlace.{one_place}
use Rattle.irr_eigen.specs.Power.{power}
use Rattle.irr_eigen.specs.Step.{lifted_power}
use Rattle.irr_clifford.specs.Subgroup.{Subgroup}
use Rattle.irr_extension.specs.Occurrence.{occurrence_sum, power_at}
use Rattle.irr_extension.specs.Product.{opposite_of, sandwich, two_sum, value_at}

flip : Fin 2 → Fin 2
flip first = next first
flip (next i) = first

add : Fin 2 → Fin 2 → Fin 2
add first j = j
add (next i) j = flip j

flip-flip : (i : Fin 2) → flip (flip i) ≡ i
unfolding flip
flip-flip first = refl
flip-flip (next first) = refl
flip-flip (next (next i)) = elim i [ ]

add_start : (i : Fin 2) → add first i ≡ i
unfolding add
add_start i = refl

add-first : (i : Fin 2) → add i first ≡ i
unfolding add flip
add-first first = refl
add-first (next first) = refl
add-first (next (next i)) = elim i [ ]

add_assoc : (i j k : Fin 2) → add (add i j) k ≡ add i (add j k)
unfolding add flip
add_assoc first j k = refl
add_assoc (next i) first k = refl
add_assoc (next i) (next j) k = sym (flip-flip k)

add_self : (i : Fin 2) → add i i ≡ first
unfolding add flip
add_self first = refl
add_self (next i) = refl

module _ (R : Ring) where
  -- -1 at two half turns, and 1 elsewhere
  spin_phase : Fin 2 → Fin 2 → R.Carrier
  spin_phase first j = R.one
  spin_phase (next i) first = R.one
  spin_phase (next i) (next j) = R.neg R.one

  neg-squared : R.mul (R.neg R.one) (R.neg R.one) ≡ R.one
  neg-squared = neg-mul R R.one (R.neg R.one) ∙ ap R.neg (mul-neg R R.one R.one) ∙ neg-neg R (R.mul R.one R.one) ∙ R.mul-one R.one

  spin_phase-first : (i : Fin 2) → spin_phase i first ≡ R.one
  unfolding spin_phase
  spin_phase-first first = refl
  spin_phase-first (next i) = refl

  first-spin_phase : (j : Fin 2) → spin_phase first j ≡ R.one
  unfolding spin_phase
  first-spin_phase j = refl

  spin_phase_assoc : (i j k : Fin 2) → R.mul (spin_phase i j) (spin_phase (add i j) k) ≡ R.mul (spin_phase j k) (spin_phase i (add j k))
  unfolding spin_phase add flip
  spin_phase_assoc first j k = one-mul R (spin_phase j k) ∙ sym (R.mul-one (spin_phase j k))
  spin_phase_assoc (next i) first k = refl
  spin_phase_assoc (next i) (next j) first = R.mul_comm (R.neg R.one) R.one
  spin_phase_assoc (next i) (next j) (next k) = refl

  spin_phase-invertible : (i j : Fin 2) → IsInvertible R (spin_phase i j)
  unfolding spin_phase
  spin_phase-invertible first j = record { inverse = R.one; mul-inverse = R.mul-one R.one }
  spin_phase-invertible (next i) first = record { inverse = R.one; mul-inverse = R.mul-one R.one }
  spin_phase-invertible (next i) (next j) = record { inverse = R.neg R.one; mul-inverse = neg-squared }

  -- 1 and the half turn, on spin
  abbrev spin_places : FactorSystem R
  spin_places = record {
    places = 2;
    start = first;
    product = add;
    opposite = λ i. i;
    phase = spin_phase;
    start-product = λ i. add_start i;
    product-start = add-first;
    product_assoc = add_assoc;
    opposite-product = add_self;
    product-opposite = add_self;
    phase-start = spin_phase-first;
    start-phase = first-spin_phase;
    phase_assoc = spin_phase_assoc;
    phase-invertible = spin_phase-invertible;
  }

  -- the subgroup of 1
  abbrev trivial : Subgroup spin_places
  trivial = record {
    table = one_place R;
    member = λ i. first;
    member-start = refl;
    member-product = λ i j. sym (add_start first);
    member-phase = λ i j. sym (first-spin_phase first);
    injective = λ i j e. sym (only_first i) ∙ only_first j;
  }

  half_turn_squared : two_sum trivial (λ k. R.one) (λ x. first) (next first) (next first) ≡ R.neg R.one
  unfolding two_sum value_at sandwich lifted_product opposite_of sum spin_phase spin_phase-invertible add flip
  half_turn_squared = simp (ring_laws, R)

  -- z is a square root of -1
  module _ (z : R.Carrier) (square : R.mul z z ≡ R.neg R.one) where
    squared : power R z 2 ≡ R.neg R.one
    unfolding power
    squared = ap (R.mul z) (R.mul-one z) ∙ square

    fourth : power R z 4 ≡ R.one
    unfolding power
    fourth = ap (λ c. R.mul z (R.mul z c)) squared ∙ sym (R.mul_assoc z z (R.neg R.one)) ∙ ap (λ c. R.mul c (R.neg R.one)) square ∙ neg-squared

    -- the character 1 at the power 0 and -1 at the power 1, that times c
    abbrev with_power : R.Carrier → R.Carrier
    with_power c = R.add (R.mul R.one (R.mul R.one R.one))
        (R.add (R.mul c (R.mul (R.mul (R.mul (R.mul (R.mul R.one (R.mul (R.mul R.one R.one) R.one)) (R.neg R.one)) R.one) R.one) R.one)) R.zero)

    with_power-value : (c : R.Carrier) → R.add (R.mul R.one (R.mul R.one R.one))
        (R.add (R.mul c (R.mul (R.mul (R.mul (R.mul (R.mul R.one (R.mul (R.mul R.one R.one) R.one)) (R.neg R.one)) R.one) R.one) R.one)) R.zero)
        ≡ R.add R.one (R.neg c)
    with_power-value c = simp (ring_laws, R)

    two_times_one : R.mul (R.add R.one (R.add R.one R.zero)) (R.add R.one R.zero) ≡ R.add R.one R.one
    two_times_one = simp (ring_laws, R)

    minus_one_once : occurrence_sum (one_place R) (λ k. R.one) (power_at spin_places (next first) 2 first) z 2 2 1 ≡ R.mul (whole R 2) (whole R 1)
    unfolding occurrence_sum lifted_power lifted_product power sum whole spin_phase add flip to_nat
    minus_one_once = ap with_power squared ∙ with_power-value (R.neg R.one) ∙ ap (R.add R.one) (neg-neg R R.one) ∙ sym two_times_one

    one_never : occurrence_sum (one_place R) (λ k. R.one) (power_at spin_places (next first) 2 first) z 2 2 0 ≡ R.zero
    unfolding occurrence_sum lifted_power lifted_product power sum whole spin_phase add flip to_nat
    one_never = ap with_power fourth ∙ with_power-value R.one ∙ R.add-neg R.one
